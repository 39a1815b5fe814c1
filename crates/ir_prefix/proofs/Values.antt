-- The values of the prefixes.
use Rattle.std.proofs.Common.{◌≡◌, ℕ, ◌+◌, ◌-◌, ◌*◌, ◌/◌, ◌^◌, ◌≤◌, [], ◌∷◌, ◌++◌, get_or, Bool, true, false, ap, ◌∙◌, subst, arith, Option}
use Rattle.std.proofs.Math.Nat.{div-mul-le_self}
use Rattle.std.proofs.lemmas.List.Elements.{All-append, All-cons, All-nil}
use Rattle.ir_prefix.specs.Described.{Trie, Free, Alike, Fork}
use Rattle.ir_prefix.specs.Longest.{Holds, AreLeast}
use Rattle.ir_prefix.specs.Joined.{is_named}
use Rattle.ir_prefix.specs.Cover.{prefix_at, told_unless, cover_told, taken, cover_of}
use Rattle.ir_prefix.specs.declared.cover.Prefix.{Prefix}
use Rattle.ir_prefix.proofs.Upper.{prefix_is_inside}

pub node_is_least : (bits h i p : ℕ) → h ≤ bits → (x : ℕ) → Holds bits (prefix_at bits h i p) x → i * 2 ^ h ≤ x
node_is_least bits h i p le x holds =
    let s : bits - (bits - h) ≡ h = omega arith in
    let e : x / 2 ^ h ≡ (i * 2 ^ h) / 2 ^ h = subst (λ g. x / 2 ^ g ≡ (i * 2 ^ h) / 2 ^ g) s holds in
    let f : (i * 2 ^ h) / 2 ^ h ≡ i = (prefix_is_inside bits h i p le).value in
    let g = div-mul-le_self x (2 ^ h) in
    let k = ap (λ n. n * 2 ^ h) (e ∙ f) in
    omega arith

told_least : (bits h i p : ℕ) (b : Bool) → h ≤ bits → AreLeast bits (told_unless b (prefix_at bits h i p))
told_least bits h i p true le = All-nil (λ (m : Prefix). (x : ℕ) → Holds bits m x → m.value ≤ x)
told_least bits h i p false le =
    All-cons (λ (m : Prefix). (x : ℕ) → Holds bits m x → m.value ≤ x) (prefix_at bits h i p) [] (node_is_least bits h i p le) (All-nil (λ (m : Prefix). (x : ℕ) → Holds bits m x → m.value ≤ x))

pub cover_least : (bits : ℕ) (t : Trie) (h i : ℕ) (q : Option ℕ) → h ≤ bits → AreLeast bits (cover_of bits t h i q)
cover_least bits Free h i q le = All-nil (λ (m : Prefix). (x : ℕ) → Holds bits m x → m.value ≤ x)
cover_least bits (Alike p) h i q le = told_least bits h i p (is_named (p ∷ []) q) le
cover_least bits (Fork names l r) h i q le =
    let below = taken names q in
    let cl = cover_of bits l (h - 1) (2 * i) below in
    let cr = cover_of bits r (h - 1) (2 * i + 1) below in
    let P : Prefix → Type 0 = λ m. (x : ℕ) → Holds bits m x → m.value ≤ x in
    All-append P (cover_told bits h i names q) (cl ++ cr) (told_least bits h i (get_or names 0 0) (is_named names q) le)
    (All-append P cl cr (cover_least bits l (h - 1) (2 * i) below (omega arith)) (cover_least bits r (h - 1) (2 * i + 1) below (omega arith)))

-- No set of prefixes that forwards has fewer members than a trie costs.
use Rattle.std.proofs.Common.{◌≡◌, ℕ, ◌+◌, ◌-◌, ◌*◌, ◌/◌, ◌^◌, ◌<◌, ◌≤◌, ◌&&◌, List, [], ◌∷◌, length, get_or, Bool, true, false, refl, ap, sym, ◌∙◌, subst, inl, inr, ◌⊎◌, arith, Option, Some, None, eqb, leb}
use Rattle.std.proofs.lemmas.Bool.{cases_eq, cases_lt}
use Rattle.std.proofs.lemmas.Grind.{common_steps}
use Rattle.std.proofs.lemmas.List.Elements.{Contains-get_or}
use Rattle.std.specs.List.{Contains, All}
use Rattle.ir_model.specs.Compiled.{port_to}
use Rattle.ir_prefix.specs.Joined.{is_named}
use Rattle.ir_prefix.specs.Described.{Describes, Trie, Free, Alike, Fork}
use Rattle.ir_prefix.specs.Longest.{Holds, Forwards, IsFewestPrefixes}
use Rattle.ir_prefix.specs.Cover.{taken, cover_of}
use Rattle.ir_prefix.specs.declared.cover.Prefix.{Prefix}
use Rattle.ir_prefix.proofs.AmongLemmas.{head_among}
use Rattle.ir_prefix.proofs.BlockLemmas.{left_inside, right_inside, agree_higher}
use Rattle.ir_prefix.proofs.TrieLemmas.{described_is_trie}
use Rattle.ir_prefix.proofs.Costs.{miss, cost, length_cover, IsPriced, fork_priced}
use Rattle.ir_prefix.proofs.Tallies.{hit, tally, tally-le-length, tally_three, tally_some, tally_found}

-- how far above the labels the node of a prefix is
abbrev pub height_of : ℕ → Prefix → ℕ
height_of bits m = bits - m.length

-- the prefix is that of the node, lies at it or below it, or holds x no higher than so
abbrev pub is_at : ℕ → ℕ → ℕ → Prefix → Bool
is_at bits h i m = eqb (height_of bits m) h && eqb (m.value / 2 ^ h) i

abbrev pub is_inside : ℕ → ℕ → ℕ → Prefix → Bool
is_inside bits h i m = leb (height_of bits m) h && eqb (m.value / 2 ^ h) i

abbrev pub is_near : ℕ → ℕ → ℕ → Prefix → Bool
is_near bits h x m = leb (height_of bits m) h && eqb (x / 2 ^ height_of bits m) (m.value / 2 ^ height_of bits m)

pub at_is : (bits h i : ℕ) (m : Prefix) → is_at bits h i m ≡ true → (height_of bits m ≡ h) × (m.value / 2 ^ h ≡ i)
at_is bits h i m e = (grind (arith, common_steps, e), grind (arith, common_steps, e))

pub at_from : (bits h i : ℕ) (m : Prefix) → height_of bits m ≡ h → m.value / 2 ^ h ≡ i → is_at bits h i m ≡ true
at_from bits h i m e f = grind (arith, common_steps, e, f)

pub inside_from : (bits h i : ℕ) (m : Prefix) → height_of bits m ≤ h → m.value / 2 ^ h ≡ i → is_inside bits h i m ≡ true
inside_from bits h i m e f = grind (arith, common_steps, e, f)

pub near_is : (bits h x : ℕ) (m : Prefix) → is_near bits h x m ≡ true → (height_of bits m ≤ h) × Holds bits m x
near_is bits h x m e = (grind (arith, common_steps, e), grind (arith, common_steps, e))

pub near_from : (bits h x : ℕ) (m : Prefix) → height_of bits m ≤ h → Holds bits m x → is_near bits h x m ≡ true
near_from bits h x m e f = grind (arith, common_steps, e, f)

-- a prefix is that of the node, or inside one of its halves, only if it is inside the node, and only one of these
hits_apart : (a b c d : Bool) → (a ≡ true → d ≡ true) → (b ≡ true → d ≡ true) → (c ≡ true → d ≡ true) → (a ≡ true → b ≡ true → ⊥) → (a ≡ true → c ≡ true → ⊥) → (b ≡ true → c ≡ true → ⊥)
    → hit a + hit b + hit c ≤ hit d
hits_apart true true c d ad bd cd ab ac bc = absurd (ab refl refl)
hits_apart true false true d ad bd cd ab ac bc = absurd (ac refl refl)
hits_apart true false false d ad bd cd ab ac bc = let e = ap hit (ad refl) in omega arith
hits_apart false true true d ad bd cd ab ac bc = absurd (bc refl refl)
hits_apart false true false d ad bd cd ab ac bc = let e = ap hit (bd refl) in omega arith
hits_apart false false true d ad bd cd ab ac bc = let e = ap hit (cd refl) in omega arith
hits_apart false false false d ad bd cd ab ac bc = omega arith

pub inside_is : (bits h i : ℕ) (m : Prefix) → is_inside bits h i m ≡ true → (height_of bits m ≤ h) × (m.value / 2 ^ h ≡ i)
inside_is bits h i m e = (grind (arith, common_steps, e), grind (arith, common_steps, e))

pub node_and_halves : (bits h i : ℕ) → 0 < h → (m : Prefix)
    → hit (is_at bits h i m) + hit (is_inside bits (h - 1) (2 * i) m) + hit (is_inside bits (h - 1) (2 * i + 1) m) ≤ hit (is_inside bits h i m)
node_and_halves bits h i some m =
    hits_apart (is_at bits h i m) (is_inside bits (h - 1) (2 * i) m) (is_inside bits (h - 1) (2 * i + 1) m) (is_inside bits h i m)
    (λ e. let w = at_is bits h i m e in inside_from bits h i m (omega (arith, w.0)) w.1)
    (λ e. let w = inside_is bits (h - 1) (2 * i) m e in inside_from bits h i m (omega (arith, w.0)) (left_inside m.value h i some w.1))
    (λ e. let w = inside_is bits (h - 1) (2 * i + 1) m e in inside_from bits h i m (omega (arith, w.0)) (right_inside m.value h i some w.1))
    (λ e f. let v = at_is bits h i m e in let w = inside_is bits (h - 1) (2 * i) m f in omega (arith, v.0, w.0))
    (λ e f. let v = at_is bits h i m e in let w = inside_is bits (h - 1) (2 * i + 1) m f in omega (arith, v.0, w.0))
    (λ e f. let v = inside_is bits (h - 1) (2 * i) m e in let w = inside_is bits (h - 1) (2 * i + 1) m f in omega (arith, v.1, w.1))

module _ (bits : ℕ) (ports : List (Option ℕ)) (set : List Prefix) (fw : Forwards bits ports set) where
  -- of each label of the node, some prefix no higher than the node holds it, or what is above names its port
  abbrev Reaches : ℕ → Option ℕ → ℕ → ℕ → Type 0
  Reaches h q x p = ((m : Prefix) × Contains set m × (height_of bits m ≤ h) × Holds bits m x) ⊎ (q ≡ Some p)

  abbrev AllReach : ℕ → ℕ → Option ℕ → Type 0
  AllReach h i q = (x p : ℕ) → x / 2 ^ h ≡ i → port_to ports x ≡ Some p → Reaches h q x p

  -- with no prefix at the node, its halves are reached as it is
  stay_reach : (h i : ℕ) (q : Option ℕ) → 0 < h → tally (is_at bits h i) set ≡ 0 → AllReach h i q → (x p : ℕ) → x / 2 ^ h ≡ i → port_to ports x ≡ Some p → Reaches (h - 1) q x p
  stay_reach h i q some none all x p e o =
      elim (all x p e o) [
        | inl w ↦
            elim (cases_eq (height_of bits w.0) h) [
              | inl same ↦
                  let v : w.0.value / 2 ^ h ≡ i = sym (agree_higher x w.0.value (height_of bits w.0) h w.2 w.3) ∙ e in
                  let t = tally_some (is_at bits h i) set w.0 w.1 (at_from bits h i w.0 same v) in
                  absurd (omega arith)
              | inr other ↦ let le = w.2 in inl (w.0, w.1, omega (arith, le), w.3)
            ]
        | inr f ↦ inr f
      ]

  longest_here : (h i : ℕ) (m : Prefix) → 0 < h → height_of bits m ≡ h → (x : ℕ) → tally (is_near bits (h - 1) x) set ≡ 0 → All (λ (o : Prefix). Holds bits o x → o.length ≤ m.length) set
  longest_here h i m some at x none = λ k d l holds.
      let o = get_or set k d in
      elim (cases_lt m.length o.length) [
        | inl longer ↦
            let near : height_of bits o ≤ h - 1 = omega arith in
            let t = tally_some (is_near bits (h - 1) x) set o (Contains-get_or set k d l) (near_from bits (h - 1) x o near holds) in
            absurd (omega arith)
        | inr le ↦ le
      ]

  -- with a prefix at the node, they are reached as below it
  change_reach : (h i : ℕ) (m : Prefix) → 0 < h → Contains set m → height_of bits m ≡ h → m.value / 2 ^ h ≡ i → (x p : ℕ) → x / 2 ^ h ≡ i → port_to ports x ≡ Some p → Reaches (h - 1) (Some m.port) x p
  change_reach h i m some member at value x p e o =
      elim (cases_lt 0 (tally (is_near bits (h - 1) x) set)) [
        | inl l ↦
            let w = tally_found (is_near bits (h - 1) x) set l in
            let v = near_is bits (h - 1) x w.0 w.2 in
            inl (w.0, w.1, v.0, v.1)
        | inr none ↦
            let holds : Holds bits m x = subst (λ g. x / 2 ^ g ≡ m.value / 2 ^ g) (sym at) (e ∙ sym value) in
            let longest : All (λ (o : Prefix). Holds bits o x → o.length ≤ m.length) set = longest_here h i m some at x (omega arith) in
            inr (ap (λ (r : ℕ). Some r) (fw.agrees x p m o (record { member = member; holds = holds; longest = longest })))
      ]

  node_costs : (h i : ℕ) (q : Option ℕ) (c : List ℕ) (l r : Trie) → 0 < h → IsPriced c (λ q. miss (is_named c q) + (cost l (taken c q) + cost r (taken c q))) (cost l) (cost r)
      → ((o : Option ℕ) → AllReach (h - 1) (2 * i) o → cost l o ≤ tally (is_inside bits (h - 1) (2 * i)) set)
      → ((o : Option ℕ) → AllReach (h - 1) (2 * i + 1) o → cost r o ≤ tally (is_inside bits (h - 1) (2 * i + 1)) set)
      → AllReach h i q → miss (is_named c q) + (cost l (taken c q) + cost r (taken c q)) ≤ tally (is_inside bits h i) set
  node_costs h i q c l r some price left right all =
      let three = tally_three (is_at bits h i) (is_inside bits (h - 1) (2 * i)) (is_inside bits (h - 1) (2 * i + 1)) (is_inside bits h i) (node_and_halves bits h i some) set in
      elim (cases_lt 0 (tally (is_at bits h i) set)) [
        | inl here ↦
            let w = tally_found (is_at bits h i) set here in
            let v = at_is bits h i w.0 w.2 in
            let o = Some w.0.port in
            let a = left o (λ x p e f. change_reach h i w.0 some w.1 v.0 v.1 x p (left_inside x h i some e) f) in
            let b = right o (λ x p e f. change_reach h i w.0 some w.1 v.0 v.1 x p (right_inside x h i some e) f) in
            let d = price.changes q o in
            omega arith
        | inr none ↦
            let z : tally (is_at bits h i) set ≡ 0 = omega arith in
            let a = left q (λ x p e f. stay_reach h i q some z all x p (left_inside x h i some e) f) in
            let b = right q (λ x p e f. stay_reach h i q some z all x p (right_inside x h i some e) f) in
            let d = price.stays q in
            omega arith
      ]

  one_costs : (h i p : ℕ) (q : Option ℕ) (b : Bool) → is_named (p ∷ []) q ≡ b → (x : ℕ) → x / 2 ^ h ≡ i → port_to ports x ≡ Some p → AllReach h i q → miss b ≤ tally (is_inside bits h i) set
  one_costs h i p q true n x e o all = omega arith
  one_costs h i p q false n x e o all =
      elim (all x p e o) [
        | inl w ↦
            let v : w.0.value / 2 ^ h ≡ i = sym (agree_higher x w.0.value (height_of bits w.0) h w.2 w.3) ∙ e in
            let t = tally_some (is_inside bits h i) set w.0 w.1 (inside_from bits h i w.0 w.2 v) in
            omega arith
        | inr f ↦ let k : false ≡ true = sym n ∙ ap (is_named (p ∷ [])) f ∙ head_among p [] in absurd cc
      ]

  pub cost_at_most : (t : Trie) (h i : ℕ) (q : Option ℕ) → Describes ports h i t → AllReach h i q → cost t q ≤ tally (is_inside bits h i) set
  cost_at_most Free h i q d all = omega arith
  cost_at_most (Alike p) h i q d all = let w = d.1 in one_costs h i p q (is_named (p ∷ []) q) refl w.0 w.1 w.2 all
  cost_at_most (Fork names l r) h i q d all =
      node_costs h i q names l r d.0
      (fork_priced h l r names (described_is_trie ports (h - 1) (2 * i) l d.1) (described_is_trie ports (h - 1) (2 * i + 1) r d.2) d.3)
      (λ o. cost_at_most l (h - 1) (2 * i) o d.1)
      (λ o. cost_at_most r (h - 1) (2 * i + 1) o d.2)
      all

  pub cost_of_set : (t : Trie) → Describes ports bits 0 t → cost t None ≤ length set
  cost_of_set t d =
      let h = cost_at_most t bits 0 None d (λ x p e o. let w = fw.covered x p o in inl (w.0, w.1.member, omega arith, w.1.holds)) in
      let k = tally-le-length (is_inside bits bits 0) set in
      omega arith

-- the prefixes of a trie are the fewest
pub cover_is_fewest : (bits : ℕ) (ports : List (Option ℕ)) (t : Trie) → Describes ports bits 0 t → IsFewestPrefixes bits ports (length (cover_of bits t bits 0 None))
cover_is_fewest bits ports t d = λ set fw.
    let e = length_cover bits t bits 0 None in
    let h = cost_of_set bits ports set fw t d in
    omega arith

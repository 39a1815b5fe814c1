-- Blocks that are divided until one port serves them.
use Rattle.std.proofs.Common.{◌≡◌, ℕ, zero, suc, ◌+◌, ◌-◌, ◌*◌, ◌/◌, ◌^◌, ◌<◌, ◌≤◌, List, [], ◌∷◌, length, Bool, true, false, refl, ap, sym, ◌∙◌, subst, inl, inr, arith, Option, Some, None, eqb}
use Rattle.std.proofs.lemmas.Bool.{cases_lt}
use Rattle.std.proofs.lemmas.Grind.{common_steps}
use Rattle.std.proofs.lemmas.List.{get_or_past}
use Rattle.std.proofs.lemmas.List.Elements.{Contains-append_left, Contains-append_right, Contains-append_cases, All-append, All-cons, All-nil}
use Rattle.std.specs.List.{Contains}
use Rattle.ir_model.specs.Compiled.{port_to}
use Rattle.ir_prefix.specs.Longest.{Holds, AreLeast}
use Rattle.ir_prefix.specs.Cover.{prefix_at}
use Rattle.ir_prefix.specs.Parts.{Divides, pieces_of, Part, Beyond, Unsent, OnePort, Halves}
use Rattle.ir_prefix.specs.declared.cover.Prefix.{Prefix}
use Rattle.ir_prefix.proofs.BlockLemmas.{halves}
use Rattle.ir_prefix.proofs.Values.{node_is_least}
use Rattle.ir_prefix.proofs.Orders.{tally-append}
use Rattle.ir_prefix.proofs.Tallies.{hit, tally, tally_found}
use Rattle.ir_prefix.proofs.Upper.{IsInside, prefix_is_inside, left_is_inside, right_is_inside, inside_holds}

first_of : (h i : ℕ) → (i * 2 ^ h) / 2 ^ h ≡ i
first_of h i = (prefix_is_inside h h i 0 (omega arith)).value

-- the number is one that the prefix holds
abbrev pub is_held : ℕ → ℕ → Prefix → Bool
is_held bits x m = eqb (x / 2 ^ (bits - m.length)) (m.value / 2 ^ (bits - m.length))

pub held_is : (bits x : ℕ) (m : Prefix) → is_held bits x m ≡ true → Holds bits m x
held_is bits x m e = grind (arith, common_steps, e)

pub held_from : (bits x : ℕ) (m : Prefix) → Holds bits m x → is_held bits x m ≡ true
held_from bits x m e = grind (arith, common_steps, e)

only_piece : (m o : Prefix) → Contains (m ∷ []) o → o ≡ m
only_piece m o (zero, l, e) = sym e
only_piece m o (suc k, l, e) = absurd (omega arith)

one_hit : (b : Bool) → hit b + 0 ≤ 1
one_hit true = omega arith
one_hit false = omega arith

node_holds : (bits h i p x : ℕ) → h ≤ bits → x / 2 ^ h ≡ i → Holds bits (prefix_at bits h i p) x
node_holds bits h i p x l e =
    let s : bits - (bits - h) ≡ h = omega arith in
    subst (λ g. x / 2 ^ g ≡ (i * 2 ^ h) / 2 ^ g) (sym s) (e ∙ sym (first_of h i))

module _ (bits : ℕ) (ports : List (Option ℕ)) where
  pub piece_inside : (t : Part) (h i : ℕ) → Divides ports h i t → h ≤ bits → (o : Prefix) → Contains (pieces_of bits t h i) o → IsInside bits h i o
  piece_inside Beyond h i d l o c = absurd (omega (arith, c.1))
  piece_inside Unsent h i d l o c = absurd (omega (arith, c.1))
  piece_inside (OnePort p) h i d l o c = subst (IsInside bits h i) (sym (only_piece (prefix_at bits h i p) o c)) (prefix_is_inside bits h i p l)
  piece_inside (Halves t r) h i d l o c =
      elim (Contains-append_cases (pieces_of bits t (h - 1) (2 * i)) (pieces_of bits r (h - 1) (2 * i + 1)) o c) [
        | inl e ↦ left_is_inside bits h i o d.0 (piece_inside t (h - 1) (2 * i) d.1 (omega arith) o e)
        | inr e ↦ right_is_inside bits h i o d.0 (piece_inside r (h - 1) (2 * i + 1) d.2 (omega arith) o e)
      ]

  held_inside : (t : Part) (h i : ℕ) → Divides ports h i t → h ≤ bits → (x : ℕ) → 0 < tally (is_held bits x) (pieces_of bits t h i) → x / 2 ^ h ≡ i
  held_inside t h i d l x more =
      let o = tally_found (is_held bits x) (pieces_of bits t h i) more in
      inside_holds bits h i o.0 x (piece_inside t h i d l o.0 o.1) (held_is bits x o.0 o.2)

  -- no number is held by two
  pub held_once : (t : Part) (h i : ℕ) → Divides ports h i t → h ≤ bits → (x : ℕ) → tally (is_held bits x) (pieces_of bits t h i) ≤ 1
  held_once Beyond h i d l x = omega arith
  held_once Unsent h i d l x = omega arith
  held_once (OnePort p) h i d l x = one_hit (is_held bits x (prefix_at bits h i p))
  held_once (Halves t r) h i d l x =
      let pl = pieces_of bits t (h - 1) (2 * i) in
      let pr = pieces_of bits r (h - 1) (2 * i + 1) in
      let some = d.0 in
      let u = held_once t (h - 1) (2 * i) d.1 (omega arith) x in
      let v = held_once r (h - 1) (2 * i + 1) d.2 (omega arith) x in
      let s = tally-append (is_held bits x) pl pr in
      elim (cases_lt 0 (tally (is_held bits x) pl)) [
        | inl m ↦
            elim (cases_lt 0 (tally (is_held bits x) pr)) [
              | inl n ↦
                  let e = held_inside t (h - 1) (2 * i) d.1 (omega arith) x m in
                  let f = held_inside r (h - 1) (2 * i + 1) d.2 (omega arith) x n in
                  absurd (omega (arith, e, f))
              | inr z ↦ omega arith
            ]
        | inr n ↦ omega arith
      ]

  -- each label with a port is held by a piece with this port
  pub piece_of_label : (t : Part) (h i : ℕ) → Divides ports h i t → h ≤ bits → (x p : ℕ) → x / 2 ^ h ≡ i → port_to ports x ≡ Some p
      → (m : Prefix) × Contains (pieces_of bits t h i) m × Holds bits m x × (m.port ≡ p)
  piece_of_label Beyond h i d l x p e o = let n = get_or_past ports x None (d x e) in absurd (cc (o, n))
  piece_of_label Unsent h i d l x p e o = let n = (d x e).1 in absurd (cc (o, n))
  piece_of_label (OnePort q) h i d l x p e o = (prefix_at bits h i q, (0, omega arith, refl), node_holds bits h i q x l e, sym (d.1 x p e o))
  piece_of_label (Halves t r) h i d l x p e o =
      let pl = pieces_of bits t (h - 1) (2 * i) in
      let pr = pieces_of bits r (h - 1) (2 * i + 1) in
      elim (halves x h i d.0 e) [
        | inl at ↦ let w = piece_of_label t (h - 1) (2 * i) d.1 (omega arith) x p at o in (w.0, Contains-append_left pl pr w.0 w.1, w.2, w.3)
        | inr at ↦ let w = piece_of_label r (h - 1) (2 * i + 1) d.2 (omega arith) x p at o in (w.0, Contains-append_right pl pr w.0 w.1, w.2, w.3)
      ]

  -- and a piece holds labels alone, one of them with its port
  pub piece_holds : (t : Part) (h i : ℕ) → Divides ports h i t → h ≤ bits → (o : Prefix) → Contains (pieces_of bits t h i) o
      → ((x : ℕ) → Holds bits o x → x < length ports) × ((d : ℕ) × (port_to ports d ≡ Some o.port))
  piece_holds Beyond h i d l o c = absurd (omega (arith, c.1))
  piece_holds Unsent h i d l o c = absurd (omega (arith, c.1))
  piece_holds (OnePort p) h i d l o c =
      let e = only_piece (prefix_at bits h i p) o c in (
        λ x holds. d.0 x (inside_holds bits h i o x (piece_inside (OnePort p) h i d l o c) holds),
        let w = d.2 in (w.0, w.2 ∙ ap (λ (m : Prefix). Some m.port) (sym e)),
      )
  piece_holds (Halves t r) h i d l o c =
      elim (Contains-append_cases (pieces_of bits t (h - 1) (2 * i)) (pieces_of bits r (h - 1) (2 * i + 1)) o c) [
        | inl e ↦ piece_holds t (h - 1) (2 * i) d.1 (omega arith) o e
        | inr e ↦ piece_holds r (h - 1) (2 * i + 1) d.2 (omega arith) o e
      ]

pub pieces_least : (bits : ℕ) (t : Part) (h i : ℕ) → h ≤ bits → AreLeast bits (pieces_of bits t h i)
pieces_least bits Beyond h i le = All-nil (λ (m : Prefix). (x : ℕ) → Holds bits m x → m.value ≤ x)
pieces_least bits Unsent h i le = All-nil (λ (m : Prefix). (x : ℕ) → Holds bits m x → m.value ≤ x)
pieces_least bits (OnePort p) h i le =
    All-cons (λ (m : Prefix). (x : ℕ) → Holds bits m x → m.value ≤ x) (prefix_at bits h i p) [] (node_is_least bits h i p le) (All-nil (λ (m : Prefix). (x : ℕ) → Holds bits m x → m.value ≤ x))
pieces_least bits (Halves l r) h i le =
    let P : Prefix → Type 0 = λ m. (x : ℕ) → Holds bits m x → m.value ≤ x in
    All-append P (pieces_of bits l (h - 1) (2 * i)) (pieces_of bits r (h - 1) (2 * i + 1)) (pieces_least bits l (h - 1) (2 * i) (omega arith)) (pieces_least bits r (h - 1) (2 * i + 1) (omega arith))

-- The table of the pieces of a divided block: no number has two lines, and no such table has fewer.
use Rattle.std.proofs.Common.{◌≡◌, ℕ, ◌+◌, ◌-◌, ◌*◌, ◌/◌, ◌^◌, ◌<◌, ◌≤◌, List, length, length-append, get_or, map, Bool, true, false, refl, ap, sym, ◌∙◌, subst, inl, inr, arith, Option, Some, cond}
use Rattle.std.proofs.Math.Nat.{div-eq_of_lt, lt-div-mul-add}
use Rattle.std.proofs.lemmas.Nat.{pow_pos}
use Rattle.std.proofs.lemmas.Bool.{cases_eq, cases_lt}
use Rattle.std.proofs.lemmas.List.{get_or-map, get_or_default, length-map}
use Rattle.std.proofs.lemmas.List.Elements.{All-map, All-contains, Contains-get_or}
use Rattle.std.proofs.lemmas.List.Sorted.{All-permutation, Contains-permutation, IsPermutation-sym, length_permutation, sum_by-IsPermutation}
use Rattle.std.specs.List.{Contains, All}
use Rattle.std.specs.List.Sorted.{IsPermutation}
use Rattle.ir_model.specs.Compiled.{port_to}
use Rattle.ir_prefix.specs.Longest.{Holds, AreLeast}
use Rattle.ir_prefix.specs.Forwarding.{HoldsNumber, IsDisjointTable, IsFewestDisjoint}
use Rattle.ir_prefix.specs.Extended.{line_of, prefix_of, IsUnused}
use Rattle.ir_prefix.specs.Cover.{AreDistinct}
use Rattle.ir_prefix.specs.Runs.{HasTwo}
use Rattle.ir_prefix.specs.Parts.{Divides, pieces_of, Part, Beyond, Unsent, OnePort, Halves}
use Rattle.ir_prefix.specs.declared.cover.Prefix.{Prefix}
use Rattle.ir_prefix.specs.declared.line.TableLine.{TableLine}
use Rattle.ir_prefix.proofs.BlockLemmas.{left_inside, right_inside, agree_higher}
use Rattle.ir_prefix.proofs.LineLemmas.{mapped_to, no_prefix}
use Rattle.ir_prefix.proofs.Lower.{is_at, is_inside, inside_from, node_and_halves}
use Rattle.ir_prefix.proofs.Orders.{is_same, same_is, tally_is_count, two_at}
use Rattle.ir_prefix.proofs.PartLemmas.{is_held, held_from, held_once, piece_inside, piece_of_label, piece_holds, pieces_least}
use Rattle.ir_prefix.proofs.TableLemmas.{port_of_some}
use Rattle.ir_prefix.proofs.Tallies.{hit, tally, tally-le-length, tally_three, tally_some}
use Rattle.ir_prefix.proofs.Upper.{port_inside}

same_or_held : (a b : Bool) → (a ≡ true → b ≡ true) → hit a + hit false + hit false ≤ hit b
same_or_held true b f = let e = ap hit (f refl) in omega arith
same_or_held false b f = omega arith

tally_permutation : (p : Prefix → Bool) (xs ys : List Prefix) → IsPermutation xs ys → tally p ys ≡ tally p xs
tally_permutation p xs ys perm =
    let e = sum_by-IsPermutation (λ (m : Prefix). cond (p m) 1 0) xs ys perm in
    let a = tally_is_count p xs in
    let b = tally_is_count p ys in
    omega arith

module _ (bits : ℕ) (ports : List (Option ℕ)) (t : Part) (d : Divides ports bits 0 t) where
  le : bits ≤ bits
  le = omega arith

  pub pieces_distinct : AreDistinct (pieces_of bits t bits 0)
  pieces_distinct = λ l v.
      let xs = pieces_of bits t bits 0 in
      let h = tally_three (is_same l v) (λ (m : Prefix). false) (λ (m : Prefix). false) (is_held bits v)
      (λ m. same_or_held (is_same l v m) (is_held bits v m) (λ e. held_from bits v m (ap (λ y. y / 2 ^ (bits - m.length)) (sym (same_is l v m e).1)))) xs in
      let k = held_once bits ports t bits 0 d le v in
      let e = tally_is_count (is_same l v) xs in
      omega arith

  module _ (n u : ℕ) (set : List Prefix) (every : length ports ≡ n) (unused : IsUnused ports u) (fits : n ≤ 2 ^ bits) (perm : IsPermutation (pieces_of bits t bits 0) set) where
    piece_in : (o : Prefix) → Contains set o → Contains (pieces_of bits t bits 0) o
    piece_in o c = Contains-permutation set (pieces_of bits t bits 0) o (IsPermutation-sym (pieces_of bits t bits 0) set perm) c

    set_within : All (λ (m : Prefix). (m.length ≤ bits) × (m.value < 2 ^ bits)) set
    set_within = λ k e l.
        let o = get_or set k e in
        let w = piece_inside bits ports t bits 0 d le o (piece_in o (Contains-get_or set k e l)) in
        let v = w.value in
        let r : o.value < (o.value / 2 ^ bits) * 2 ^ bits + 2 ^ bits = lt-div-mul-add (pow_pos bits) in
        let z : (o.value / 2 ^ bits) * 2 ^ bits ≡ 0 = ap (λ n. n * 2 ^ bits) v ∙ omega arith in
        (w.short, omega arith)

    pub pieces_disjoint : IsDisjointTable n bits ports (map (line_of u) set)
    pieces_disjoint = record {
      within = All-map (λ (m : TableLine). (m.length ≤ bits) × (m.value < 2 ^ bits)) (line_of u) set set_within;
      apart = λ x i j e lt inside hi hj.
          let s = length-map set (line_of u) in
          let a = get_or-map (line_of u) set i no_prefix e (omega arith) in
          let b = get_or-map (line_of u) set j no_prefix e (omega arith) in
          let ha : Holds bits (get_or set i no_prefix) x = subst (λ (m : TableLine). HoldsNumber bits m x) a hi in
          let hb : Holds bits (get_or set j no_prefix) x = subst (λ (m : TableLine). HoldsNumber bits m x) b hj in
          let two = two_at (is_held bits x) set i j no_prefix lt (omega arith) (held_from bits x (get_or set i no_prefix) ha) (held_from bits x (get_or set j no_prefix) hb) in
          let one = held_once bits ports t bits 0 d le x in
          let p = tally_permutation (is_held bits x) (pieces_of bits t bits 0) set perm in
          omega (arith, two, one, p);
      meaning = λ x p o.
          let l = port_inside ports x p o in
          let w = piece_of_label bits ports t bits 0 d le x p (div-eq_of_lt (omega arith)) o in
          let m = w.0 in (
            line_of u m,
            mapped_to (line_of u) set m (Contains-permutation (pieces_of bits t bits 0) set m perm w.1),
            w.2,
            port_of_some u m.port (λ e. unused x (o ∙ ap (λ (k : ℕ). Some k) (sym w.3 ∙ e))) ∙ ap (λ (k : ℕ). Some k) w.3,
          );
      beyond = λ x past.
          All-map (λ (m : TableLine). HoldsNumber bits m x → ⊥) (line_of u) set
          (λ k e l holds.
          let o = get_or set k e in
          let lt = (piece_holds bits ports t bits 0 d le o (piece_in o (Contains-get_or set k e l))).0 x holds in
          omega arith);
    }

    pub set_is_least : AreLeast bits set
    set_is_least =
        All-permutation (λ (m : Prefix). (x : ℕ) → Holds bits m x → m.value ≤ x) (pieces_of bits t bits 0) set perm (pieces_least bits t bits 0 le)

-- a table in which no number has two lines has one for each piece
module _ (bits n : ℕ) (ports : List (Option ℕ)) (every : length ports ≡ n) (other : List TableLine) (dj : IsDisjointTable n bits ports other) where
  apart_at : (x : ℕ) (a b : TableLine) (i j : ℕ) → i < j → i < length other → j < length other → get_or other i a ≡ a → get_or other j b ≡ b → HoldsNumber bits a x → HoldsNumber bits b x → ⊥
  apart_at x a b i j lt l m e f ha hb =
      let g : get_or other j a ≡ b = get_or_default other j a b m ∙ f in
      dj.apart x i j a lt m (subst (λ (o : TableLine). HoldsNumber bits o x) (sym e) ha) (subst (λ (o : TableLine). HoldsNumber bits o x) (sym g) hb)

  pub same_line : (x : ℕ) (a b : TableLine) → Contains other a → Contains other b → HoldsNumber bits a x → HoldsNumber bits b x → a ≡ b
  same_line x a b c d ha hb =
      elim (cases_lt c.0 d.0) [
        | inl lt ↦ absurd (apart_at x a b c.0 d.0 lt c.1 d.1 c.2 d.2 ha hb)
        | inr ge ↦
            elim (cases_lt d.0 c.0) [
              | inl lt ↦ absurd (apart_at x b a d.0 c.0 lt d.1 c.1 d.2 c.2 hb ha)
              | inr le ↦
                  let e : c.0 ≡ d.0 = omega arith in
                  sym c.2 ∙ ap (λ k. get_or other k a) e ∙ get_or_default other d.0 a b d.1 ∙ d.2
            ]
      ]

  pub line_port : (m : TableLine) → Contains other m → (x p : ℕ) → port_to ports x ≡ Some p → HoldsNumber bits m x → m.port ≡ Some p
  line_port m c x p o holds =
      let w = dj.meaning x p o in
      ap (λ (l : TableLine). l.port) (same_line x m w.0 c w.1 holds w.2) ∙ w.3

  -- each label of a block is held by a line no higher than the block
  abbrev AllHeld : ℕ → ℕ → Type 0
  AllHeld h i = (x p : ℕ) → x / 2 ^ h ≡ i → port_to ports x ≡ Some p → (m : TableLine) × Contains other m × (bits - m.length ≤ h) × HoldsNumber bits m x

  lower_held : (h i : ℕ) → 0 < h → HasTwo ports h i → AllHeld h i → (x p : ℕ) → x / 2 ^ h ≡ i → port_to ports x ≡ Some p
      → (m : TableLine) × Contains other m × (bits - m.length ≤ h - 1) × HoldsNumber bits m x
  lower_held h i some two all x p e o =
      let w = all x p e o in
      let m = w.0 in
      elim (cases_eq (bits - m.length) h) [
        | inl same ↦
            let v : m.value / 2 ^ h ≡ i = sym (subst (λ g. x / 2 ^ g ≡ m.value / 2 ^ g) same w.3) ∙ e in
            let whole : (y : ℕ) → y / 2 ^ h ≡ i → HoldsNumber bits m y = λ y f. subst (λ g. y / 2 ^ g ≡ m.value / 2 ^ g) (sym same) (f ∙ sym v) in
            elim two [
              | inl b ↦
                  let past : n ≤ b.0 = let l = b.2 in omega arith in
                  absurd (All-contains (λ (l : TableLine). HoldsNumber bits l b.0 → ⊥) other m (dj.beyond b.0 past) w.1 (whole b.0 b.1))
              | inr b ↦
                  let f = line_port m w.1 b.0 b.2 b.6 (whole b.0 b.4) in
                  let g = line_port m w.1 b.1 b.3 b.7 (whole b.1 b.5) in
                  absurd (b.8 (cc (f, g)))
            ]
        | inr other' ↦ let low = w.2 in (m, w.1, omega (arith, low), w.3)
      ]

  pub pieces_at_most : (t : Part) (h i : ℕ) → Divides ports h i t → AllHeld h i → length (pieces_of bits t h i) ≤ tally (λ (m : TableLine). is_inside bits h i (prefix_of 0 m)) other
  pieces_at_most Beyond h i d all = omega arith
  pieces_at_most Unsent h i d all = omega arith
  pieces_at_most (OnePort p) h i d all =
      let l = d.2 in
      let w = all l.0 p l.1 l.2 in
      let v : w.0.value / 2 ^ h ≡ i = sym (agree_higher l.0 w.0.value (bits - w.0.length) h w.2 w.3) ∙ l.1 in
      let s = tally_some (λ (m : TableLine). is_inside bits h i (prefix_of 0 m)) other w.0 w.1 (inside_from bits h i (prefix_of 0 w.0) w.2 v) in
      omega arith
  pieces_at_most (Halves l r) h i d all =
      let some = d.0 in
      let three = tally_three (λ (m : TableLine). is_at bits h i (prefix_of 0 m)) (λ (m : TableLine). is_inside bits (h - 1) (2 * i) (prefix_of 0 m)) (λ (m : TableLine). is_inside bits (h - 1) (2 * i + 1) (prefix_of 0 m))
      (λ (m : TableLine). is_inside bits h i (prefix_of 0 m)) (λ m. node_and_halves bits h i some (prefix_of 0 m)) other in
      let u = pieces_at_most l (h - 1) (2 * i) d.1 (λ x p e o. lower_held h i some d.3 all x p (left_inside x h i some e) o) in
      let v = pieces_at_most r (h - 1) (2 * i + 1) d.2 (λ x p e o. lower_held h i some d.3 all x p (right_inside x h i some e) o) in
      let s = length-append (pieces_of bits l (h - 1) (2 * i)) (pieces_of bits r (h - 1) (2 * i + 1)) in
      omega arith

pub pieces_are_fewest : (bits n u : ℕ) (ports : List (Option ℕ)) (t : Part) (set : List Prefix) → length ports ≡ n → Divides ports bits 0 t → IsPermutation (pieces_of bits t bits 0) set
    → IsFewestDisjoint n bits ports (length (map (line_of u) set))
pieces_are_fewest bits n u ports t set every d perm = λ other dj.
    let h = pieces_at_most bits n ports every other dj t bits 0 d (λ x p e o. let w = dj.meaning x p o in (w.0, w.1, omega arith, w.2)) in
    let k = tally-le-length (λ (m : TableLine). is_inside bits bits 0 (prefix_of 0 m)) other in
    let e = length-map set (line_of u) in
    let f = length_permutation (pieces_of bits t bits 0) set perm in
    omega arith

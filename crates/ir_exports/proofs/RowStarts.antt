-- The port to a label by how many starts of the row are at most it.
use Rattle.std.proofs.Common.{◌≡◌, ◌≢◌, ℕ, ◌+◌, ◌-◌, ◌<◌, List, [], ◌∷◌, length, Option, Some, None, inl, inr, sym, ap, subst, ◌∙◌, arith}
use Rattle.std.specs.Prelude.{IfSome, IsSome, slice_index}
use Rattle.std.proofs.lemmas.Bool.{cases_eq, cases_lt}
use Rattle.std.proofs.lemmas.List.{length-map}
use Rattle.ir_model.specs.Compiled.{Fits, IsDestinations, port_to}
use Rattle.ir_model.specs.Row.{Start, IsAscending, IsPlaceOf, HasPort, intervals_of, labels}
use Rattle.ir_model.specs.Interval.{PortInterval, HasLabel}
use Rattle.ir_model.proofs.Rows.{rises}
use Rattle.ir_exports.specs.Before.{AreBelow}

-- the last of these starts has the label
pub place_last : (row : List Start) (label count : ℕ) → AreBelow row (label + 1) count → 0 < count → IsPlaceOf (labels row) label (count - 1)
place_last row label count are some =
    let len : length (labels row) ≡ length row = length-map row (λ (s : Start). s.label) in
    let w = are.within in
    let b = are.below (count - 1) (omega arith) in
    record {
      below = omega arith;
      from = inl (omega arith);
      to = λ more. let e : count - 1 + 1 ≡ count = omega arith in let o = are.others (count - 1 + 1) (omega arith) (omega arith) in omega arith;
    }

-- and where there is none, the last of the row has it
pub place_round : (row : List Start) (label : ℕ) → AreBelow row (label + 1) 0 → 0 < length row → IsPlaceOf (labels row) label (length row - 1)
place_round row label are some =
    let len : length (labels row) ≡ length row = length-map row (λ (s : Start). s.label) in
    let o = are.others 0 (omega arith) some in
    record {
      below = omega arith;
      from = inr (omega arith, omega arith);
      to = λ more. absurd (omega (arith, more));
    }

-- a row that fits has a start, where another label than the own one is
pub filled : (n own : ℕ) (ports : List (Option ℕ)) (row : List Start) → Fits n own ports (intervals_of row) → (label : ℕ) → label < n → label ≢ own → 0 < length row
filled n own ports [] fits label inside other = let c = fits.covered label inside other in absurd (omega (arith, c.2))
filled n own ports (s ∷ row) fits label inside other = omega arith

-- the port of the interval that has the label is that of the destination
pub fitting_port : (n own : ℕ) (ports : List (Option ℕ)) (row : List Start) → Fits n own ports (intervals_of row) → (label p : ℕ) → label < n → label ≢ own → HasPort n row label p → port_to ports label ≡ Some p
fitting_port n own ports row fits label p inside other has =
    let P : PortInterval → Type 0 = λ m. HasLabel n m label → port_to ports label ≡ Some m.port in
    let agrees : P has.1 = subst P has.3 (fits.agrees label inside other has.0 has.1 has.2) in
    agrees has.4.0 ∙ ap (λ (q : ℕ). Some q) has.4.1

some_port : (n own : ℕ) (ports : List (Option ℕ)) (row : List Start) → Fits n own ports (intervals_of row) → (label : ℕ) (o : Option ℕ) → label < n → label ≢ own
    → IfSome o (λ p. (k : ℕ) → label < k → HasPort k row label p) → IsSome o → o ≡ port_to ports label
some_port n own ports row fits label None inside other h s = absurd (cc s)
some_port n own ports row fits label (Some p) inside other h s = sym (fitting_port n own ports row fits label p inside other (h n inside))

pub port_is : (n own : ℕ) (ports : List (Option ℕ)) (row : List Start) → IsDestinations n own ports → Fits n own ports (intervals_of row) → (label : ℕ) (o : Option ℕ) → label < n
    → (label ≡ own → o ≡ None) → (label ≢ own → IfSome o (λ p. (k : ℕ) → label < k → HasPort k row label p)) → (label ≢ own → IsSome o) → o ≡ port_to ports label
port_is n own ports row are fits label o inside none port some =
    elim (cases_eq label own) [
      | inl same ↦ none same ∙ sym (ap (port_to ports) same ∙ are.none)
      | inr other ↦ some_port n own ports row fits label o inside other (port other) (some other)
    ]

-- one more label
pub one_starts : (row : List Start) (label count : ℕ) → AreBelow row label count → count < length row → slice_index (labels row) count ≡ label → IsAscending row → AreBelow row (label + 1) (count + 1)
one_starts row label count are inside at up =
    let len : length (labels row) ≡ length row = length-map row (λ (s : Start). s.label) in
    record {
      within = omega arith;
      below = λ k l.
          elim (cases_lt k count) [
            | inl lt ↦ let b = are.below k lt in omega arith
            | inr ge ↦ let e : k ≡ count = omega arith in let f : slice_index (labels row) k ≡ label = ap (λ (i : ℕ). slice_index (labels row) i) e ∙ at in omega (arith, f)
          ];
      others = λ k l k_in. let u = rises (labels row) up count k (omega arith) (omega (arith, len, k_in)) in omega (arith, u, at);
    }

pub none_starts : (row : List Start) (label count : ℕ) → AreBelow row label count → (count < length row → slice_index (labels row) count ≢ label) → IsAscending row → AreBelow row (label + 1) count
none_starts row label count are apart up =
    let len : length (labels row) ≡ length row = length-map row (λ (s : Start). s.label) in
    record {
      within = are.within;
      below = λ k l. let b = are.below k l in omega arith;
      others = λ k l k_in.
          let first = are.others count (omega arith) (omega arith) in
          let ne = apart (omega arith) in
          elim (cases_lt count k) [
            | inl lt ↦ let u = rises (labels row) up count k lt (omega (arith, len, k_in)) in omega (arith, u, first, ne)
            | inr ge ↦ let e : k ≡ count = omega arith in let f : slice_index (labels row) k ≡ slice_index (labels row) count = ap (λ (i : ℕ). slice_index (labels row) i) e in omega (arith, f, first, ne)
          ];
    }

-- The port that a row shows at a label, and the row's meaning.
use Rattle.std.proofs.Common.{◌≡◌, ◌≢◌, ℕ, zero, suc, ◌<◌, true, ◌&&◌, ◌||◌, nat_lt, nat_le, List, [], ◌∷◌, length, Option, Some, find, get_or, refl, ap, sym, subst, inl, inr, arith}
use Rattle.std.specs.Prelude.{if◌then◌else◌}
use Rattle.std.proofs.lemmas.Bool.{cases_Bool}
use Rattle.std.proofs.lemmas.Bool.Decides.{nat_tests}
use Rattle.ir_model.specs.Interval.{InInterval, PortInterval, HasLabel}
use Rattle.ir_model.specs.Row.{Start, IsAscending, intervals_of, HasPort}
use Rattle.ir_model.specs.Compiled.{Fits, port_to}
use Rattle.ir_model.proofs.Rows.{same_port}
use Rattle.ir_plan.specs.Shown.{has_label, row_port}

in_from_true : (n a b d : ℕ) → d < n → (if nat_lt a b then (nat_le a d && nat_lt d b) else (nat_le a d || nat_lt d b)) ≡ true → InInterval n a b d
in_from_true n a b d label e = grind (arith, nat_tests)

true_from_in : (n a b d : ℕ) → InInterval n a b d → (if nat_lt a b then (nat_le a d && nat_lt d b) else (nat_le a d || nat_lt d b)) ≡ true
true_from_in n a b d h = grind (arith, nat_tests)

module _ (n d : ℕ) (label : d < n) where
  -- what is found has the label, and is in the list
  pub found : (ms : List PortInterval) (m : PortInterval) → find (has_label d) ms ≡ Some m → HasLabel n m d × ((k : ℕ) × (k < length ms) × (get_or ms k m ≡ m))
  found [] m e = absurd (cc e)
  found (x ∷ ms) m e =
      elim (cases_Bool (has_label d x)) [
        | inl t ↦
            let same : x ≡ m = cc (rw t at e) in
            (subst (λ (y : PortInterval). HasLabel n y d) same (in_from_true n x.start x.end d label t), (0, omega arith, same))
        | inr f ↦
            let w = found ms m (rw f at e) in
            (w.0, (suc w.1.0, omega (arith, w.1.1), w.1.2))
      ]

  -- where some interval has the label, one is found
  pub some_found : (ms : List PortInterval) (k : ℕ) (m : PortInterval) → k < length ms → get_or ms k m ≡ m → HasLabel n m d → (f : PortInterval) × (find (has_label d) ms ≡ Some f)
  some_found [] k m h is has = absurd (omega arith)
  some_found (x ∷ ms) zero m h is has =
      let here : HasLabel n x d = subst (λ (y : PortInterval). HasLabel n y d) (sym is) has in
      (x, rw (true_from_in n x.start x.end d here) refl)
  some_found (x ∷ ms) (suc k) m h is has =
      elim (cases_Bool (has_label d x)) [
        | inl t ↦ (x, rw t refl)
        | inr f ↦ let w = some_found ms k m (omega arith) is has in (w.0, rw f w.1)
      ]

  -- a row that fits shows each destination's port
  pub shown_fits : (own : ℕ) (ports : List (Option ℕ)) (row : List Start) → Fits n own ports (intervals_of row) → d ≢ own → row_port row d ≡ port_to ports d
  unfolding row_port
  shown_fits own ports row fits other =
      let ms = intervals_of row in
      let c = fits.covered d label other in
      let w = some_found ms c.0 c.1 c.2 c.3 c.4 in
      let f = found ms w.0 w.1 in
      let P : PortInterval → Type 0 = λ m. HasLabel n m d → port_to ports d ≡ Some m.port in
      let agrees : P w.0 = subst P f.1.2 (fits.agrees d label other f.1.0 w.0 f.1.1) in
      rw w.1 (sym (agrees f.0))

  -- the row's port at a label is the one that it shows
  pub shown_has : (row : List Start) (p : ℕ) → IsAscending row → HasPort n row d p → row_port row d ≡ Some p
  unfolding row_port
  shown_has row p up has =
      let ms = intervals_of row in
      let w = some_found ms has.0 has.1 has.2 has.3 has.4.0 in
      let f = found ms w.0 w.1 in
      let here : HasPort n row d w.0.port = (f.1.0, w.0, f.1.1, f.1.2, (f.0, refl)) in
      let same : w.0.port ≡ p = same_port n row up d w.0.port p label here has in
      rw w.1 (ap (λ (q : ℕ). let o : Option ℕ = Some q in o) same)

-- a row that shows a port has a start
pub shown_some : (row : List Start) (d p : ℕ) → row_port row d ≡ Some p → 0 < length row
unfolding row_port
shown_some [] d p shown = absurd (cc shown)
shown_some (s ∷ row) d p shown = omega arith

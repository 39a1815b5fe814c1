-- The chosen ports: a list of destinations that the choices allow, whose canonical row is fewest over all choices, and the only one of the rule.
use Rattle.std.proofs.Common.{◌≡◌, ◌↔◌, ℕ, ◌+◌, ◌<◌, ◌≤◌, ◌≢◌, List, [], ◌∷◌, length, get_or, refl, ap, sym, ◌∙◌, subst, inl, inr, arith, Option, Some, None}
use Rattle.std.proofs.lemmas.Bool.{cases_eq, cases_lt}
use Rattle.std.proofs.lemmas.List.{ext_get_or}
use Rattle.ir_model.specs.Row.{Start, intervals_of}
use Rattle.ir_model.specs.Compiled.{port_to, IsDestinations, IsCanonical}
use Rattle.ir_model.specs.Choices.{AreChoices, FitsChoices, IsFewestOfChoices, label_from, Serves, Run, IsLongestRun, GoOn, AreFirstFewest, HaveRunPorts, AreChosen}
use Rattle.ir_model.proofs.Canonical.{canonical_fits}
use Rattle.ir_model.proofs.Fewest.{canonical_is_fewest}
use Rattle.ir_model.proofs.Going.{from_is_label, place_from, from_differs}
use Rattle.ir_model.proofs.Spread.{some_start, runs_from_start}
use Rattle.ir_model.proofs.Runs.{set_of, length-set_of, set_fits, run_ports_may, runs_same}

module _ (n own : ℕ) (may : ℕ → ℕ → Type 0) (valid : AreChoices n own may) where
  -- a label off the own one comes after it
  pub off_place : (d : ℕ) → d < n → d ≢ own → (t : ℕ) × (0 < t) × (t < n) × (label_from n own t ≡ d)
  off_place d l ne =
      let w = place_from n own d valid.has_own l in
      (w.0, elim (cases_eq w.0 0) [ inl e ↦ absurd (ne (sym w.2 ∙ ap (label_from n own) e)) | inr nz ↦ omega arith ], w.1, w.2)

  pub off_own : (t : ℕ) → 0 < t → t < n → label_from n own t ≢ own
  off_own t some l = λ e. from_differs n own 0 t valid.has_own some l (sym e)

  two_labels : (d : ℕ) → d < n → d ≢ own → 1 < n
  two_labels d l ne = let o = valid.has_own in omega arith

  module _ (ports : List (Option ℕ)) (chosen : AreChosen n own may ports) where
    -- each label but the own has a port that it may take
    pub chosen_may : (d : ℕ) → d < n → d ≢ own → (p : ℕ) × (port_to ports d ≡ Some p) × may d p
    chosen_may d l ne =
        let two = two_labels d l ne in
        let c = chosen.chosen two in
        let first = c.2 in
        let label = from_is_label n own c.0 valid.has_own in
        let w = place_from n (label_from n own c.0) d label l in
        let r = run_ports_may n own may two valid (label_from n own c.0) label ports 0 c.1 first.runs_from c.3 w.0 (omega arith) w.1 (λ e. ne (sym w.2 ∙ e)) in
        (r.0, subst (λ (x : ℕ). port_to ports x ≡ Some r.0) w.2 r.1, subst (λ (x : ℕ). may x r.0) w.2 r.2)

    pub chosen_are_destinations : IsDestinations n own ports
    chosen_are_destinations = record {
      every = chosen.every;
      has_own = valid.has_own;
      none = chosen.none;
      some = λ d l ne. let w = chosen_may d l ne in rw w.1 refl;
    }

    module _ (row : List Start) (canon : IsCanonical n own ports row) where
      -- the canonical row fits the choices
      pub chosen_fits : FitsChoices n own may (intervals_of row)
      chosen_fits =
          let fits = canonical_fits n own ports chosen_are_destinations row canon in
          record {
            within = fits.within;
            covered = fits.covered;
            agrees = λ d l ne k e h has.
                let w = chosen_may d l ne in
                let is = sym w.1 ∙ fits.agrees d l ne k e h has in
                let same : w.0 ≡ (get_or (intervals_of row) k e).port = cc in
                subst (λ (p : ℕ). may d p) same w.2;
          }

      -- and no set of intervals that does has fewer members
      pub chosen_is_fewest : IsFewestOfChoices n own may (length row)
      chosen_is_fewest set fits =
          elim (cases_lt 1 n) [
            | inl two ↦
                let c = chosen.chosen two in
                let first = c.2 in
                let s = label_from n own c.0 in
                let label = from_is_label n own c.0 valid.has_own in
                let row_le = canonical_is_fewest n own ports chosen_are_destinations row canon (set_of n s 0 c.1)
                (set_fits n own may two valid s label ports c.1 (off_own c.0 first.off_own first.in_round) first.runs_from c.3) in
                let count = length-set_of n s 0 c.1 in
                let w = some_start n own may two valid set fits in
                let at = off_place w.0 w.1 w.2 in
                let other = first.any at.0 at.1 at.2 in
                let le = runs_from_start n own may two valid set fits w.0 other.0 w.1 w.3 (subst (λ (x : ℕ). GoOn n own may x 0 other.0) at.3 other.1) in
                omega (arith, other.2)
            | inr one ↦
                let row_le = canonical_is_fewest n own ports chosen_are_destinations row canon [] (record {
                  within = λ k d h. absurd (omega arith);
                  covered = λ d l ne. absurd (let o = valid.has_own in omega arith);
                  agrees = λ d l ne k e h. absurd (omega arith);
                }) in
                omega arith
          ]

  -- the first label with the fewest runs is determined
  not_earlier : (t u : ℕ) (xs ys : List Run) → AreFirstFewest n own may t xs → AreFirstFewest n own may u ys → t < u → ⊥
  not_earlier t u xs ys hx hy lt =
      let before = hy.before t hx.off_own lt in
      let any = hx.any u hy.off_own hy.in_round in
      let a = runs_same n own may (label_from n own t) 0 xs before.0 hx.runs_from before.1 in
      let b = runs_same n own may (label_from n own u) 0 ys any.0 hy.runs_from any.1 in
      let a' = ap (λ (rs : List Run). length rs) a in
      let b' = ap (λ (rs : List Run). length rs) b in
      omega (arith, before.2, any.2)

  pub first_same : (t u : ℕ) (xs ys : List Run) → AreFirstFewest n own may t xs → AreFirstFewest n own may u ys → t ≡ u
  first_same t u xs ys hx hy =
      elim (cases_eq t u) [
        | inl e ↦ e
        | inr ne ↦ elim (cases_lt t u) [ inl lt ↦ absurd (not_earlier t u xs ys hx hy lt) | inr gt ↦ absurd (not_earlier u t ys xs hy hx (omega arith)) ]
      ]

  -- where two lists have the ports of the same runs they have the same ports
  run_ports_same : (s i : ℕ) (runs : List Run) (xs ys : List (Option ℕ)) → GoOn n own may s i runs → HaveRunPorts n own s i runs xs → HaveRunPorts n own s i runs ys
      → (k : ℕ) → i ≤ k → k < n → label_from n s k ≢ own → port_to xs (label_from n s k) ≡ port_to ys (label_from n s k)
  run_ports_same s i [] xs ys go hx hy k l u off = absurd (omega (arith, go))
  run_ports_same s i (run ∷ rest) xs ys go hx hy k l u off =
      elim (cases_lt k (i + run.count)) [
        | inl inside ↦ hx.0 k l inside u off ∙ sym (hy.0 k l inside u off)
        | inr behind ↦ run_ports_same s (i + run.count) rest xs ys go.2 hx.1 hy.1 k behind u off
      ]

  -- the rule chooses one list
  pub chosen_same : (xs ys : List (Option ℕ)) → AreChosen n own may xs → AreChosen n own may ys → xs ≡ ys
  chosen_same xs ys hx hy =
      ext_get_or None xs ys (hx.every ∙ sym hy.every) (λ d l.
      elim (cases_eq d own) [
        | inl e ↦ ap (port_to xs) e ∙ hx.none ∙ sym hy.none ∙ sym (ap (port_to ys) e)
        | inr ne ↦
            let label : d < n = let every = hx.every in omega arith in
            let two = two_labels d label ne in
            let x = hx.chosen two in
            let y = hy.chosen two in
            let t = first_same x.0 y.0 x.1 y.1 x.2 y.2 in
            let s = label_from n own x.0 in
            let y_runs : GoOn n own may s 0 y.1 = subst (λ (t : ℕ). GoOn n own may (label_from n own t) 0 y.1) (sym t) (let first = y.2 in first.runs_from) in
            let x_runs : GoOn n own may s 0 x.1 = let first = x.2 in first.runs_from in
            let runs = runs_same n own may s 0 y.1 x.1 y_runs x_runs in
            let y_ports : HaveRunPorts n own s 0 x.1 ys = subst (λ (rs : List Run). HaveRunPorts n own s 0 rs ys) runs
            (subst (λ (t : ℕ). HaveRunPorts n own (label_from n own t) 0 y.1 ys) (sym t) y.3) in
            let w = place_from n s d (from_is_label n own x.0 valid.has_own) label in
            subst (λ (x : ℕ). port_to xs x ≡ port_to ys x) w.2 (run_ports_same s 0 x.1 xs ys x_runs x.3 y_ports w.0 (omega arith) w.1 (λ e. ne (sym w.2 ∙ e)))
      ])

-- choices that allow the same ports to the labels but the own choose the same
module _ (n own : ℕ) (may might : ℕ → ℕ → Type 0) (has_own : own < n) (same : (d p : ℕ) → d < n → d ≢ own → may d p ↔ might d p) where
  serves_same : (p a count : ℕ) → a < n → Serves n own may p a count → Serves n own might p a count
  serves_same p a count label serves i l off = (same (label_from n a i) p (from_is_label n a i label) off).0 (serves i l off)

  serves_back : (p a count : ℕ) → a < n → Serves n own might p a count → Serves n own may p a count
  serves_back p a count label serves i l off = (same (label_from n a i) p (from_is_label n a i label) off).1 (serves i l off)

  go_on_same : (s i : ℕ) (runs : List Run) → s < n → GoOn n own may s i runs → GoOn n own might s i runs
  go_on_same s i [] h go = go
  go_on_same s i (run ∷ rest) h go =
      let a = label_from n s i in
      let label = from_is_label n s i h in
      let is = go.1 in
      let other : IsLongestRun n own might a run = record {
        within = is.within;
        serves = serves_same run.port a run.count label is.serves;
        longest = λ p count l serves. is.longest p count l (serves_back p a count label serves);
        least = λ p serves. is.least p (serves_back p a run.count label serves);
      } in
      (go.0, other, go_on_same s (i + run.count) rest h go.2)

  first_fewest_same : (t : ℕ) (runs : List Run) → AreFirstFewest n own may t runs → AreFirstFewest n own might t runs
  first_fewest_same t runs first = record {
    off_own = first.off_own;
    in_round = first.in_round;
    runs_from = go_on_same (label_from n own t) 0 runs (from_is_label n own t has_own) first.runs_from;
    before = λ i some l. let w = first.before i some l in (w.0, go_on_same (label_from n own i) 0 w.0 (from_is_label n own i has_own) w.1, w.2);
    any = λ i some l. let w = first.any i some l in (w.0, go_on_same (label_from n own i) 0 w.0 (from_is_label n own i has_own) w.1, w.2);
  }

  pub choices_same : (ports : List (Option ℕ)) → AreChosen n own may ports → AreChosen n own might ports
  choices_same ports chosen = record {
    every = chosen.every;
    none = chosen.none;
    chosen = λ two. let c = chosen.chosen two in (c.0, c.1, first_fewest_same c.0 c.1 c.2, c.3);
  }

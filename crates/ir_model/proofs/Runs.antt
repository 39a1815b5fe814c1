-- The longest runs of a round: they are determined, and their intervals fit the ports that they give.
use Rattle.std.proofs.Common.{◌≡◌, ℕ, zero, suc, ◌+◌, ◌-◌, ◌<◌, ◌≤◌, ◌≢◌, min, List, [], ◌∷◌, length, refl, ap, sym, ◌∙◌, subst, inl, inr, arith, Option, Some}
use Rattle.std.proofs.lemmas.Bool.{cases_lt}
use Rattle.std.specs.Prelude.{All, Any}
use Rattle.ir_model.specs.Interval.{PortInterval, HasLabel}
use Rattle.ir_model.specs.Compiled.{port_to, Fits}
use Rattle.ir_model.specs.Choices.{AreChoices, label_from, Serves, Run, IsLongestRun, GoOn, HaveRunPorts}
use Rattle.ir_model.proofs.Going.{from_is_label, from_from, place_from, between_in, in_between}
use Rattle.ir_model.proofs.Spread.{longest_some, behind_differs}

-- the interval of each run, where the first begins at the place i; the last one ends where the round began
abbrev pub set_of : ℕ → ℕ → ℕ → List Run → List PortInterval
set_of n s i [] = []
set_of n s i (run ∷ rest) = record { start = label_from n s i; end = label_from n s (min (i + run.count) n); port = run.port } ∷ set_of n s (i + run.count) rest

pub length-set_of : (n s i : ℕ) (runs : List Run) → length (set_of n s i runs) ≡ length runs
length-set_of n s i [] = refl
length-set_of n s i (run ∷ rest) = ap suc (length-set_of n s (i + run.count) rest)

module _ (n own : ℕ) (may : ℕ → ℕ → Type 0) where
  -- a longest run is determined
  pub longest_same : (a : ℕ) (x y : Run) → IsLongestRun n own may a x → IsLongestRun n own may a y → x ≡ y
  longest_same a x y hx hy =
      let l = hx.longest y.port y.count hy.within hy.serves in
      let m = hy.longest x.port x.count hx.within hx.serves in
      let counts : x.count ≡ y.count = omega arith in
      let p = hx.least y.port (subst (λ (c : ℕ). Serves n own may y.port a c) (sym counts) hy.serves) in
      let q = hy.least x.port (subst (λ (c : ℕ). Serves n own may x.port a c) counts hx.serves) in
      let ports : x.port ≡ y.port = omega arith in
      ap (λ (p : ℕ). let r : Run = record { port = p; count = x.count } in r) ports ∙ ap (λ (c : ℕ). let r : Run = record { port = y.port; count = c } in r) counts

  -- and so are those of a round
  pub runs_same : (s i : ℕ) (xs ys : List Run) → GoOn n own may s i xs → GoOn n own may s i ys → xs ≡ ys
  runs_same s i [] [] hx hy = refl
  runs_same s i [] (y ∷ ys) hx hy = absurd (omega (arith, hx, hy.0))
  runs_same s i (x ∷ xs) [] hx hy = absurd (omega (arith, hy, hx.0))
  runs_same s i (x ∷ xs) (y ∷ ys) hx hy =
      let e = longest_same (label_from n s i) x y hx.1 hy.1 in
      let go = subst (λ (r : Run). GoOn n own may s (i + r.count) ys) (sym e) hy.2 in
      ap (λ (r : Run). r ∷ xs) e ∙ ap (λ (rs : List Run). y ∷ rs) (runs_same s (i + x.count) xs ys hx.2 go)

  module _ (two : 1 < n) (valid : AreChoices n own may) (s : ℕ) (label : s < n) where
    -- a run from the place i on, and where the next run begins
    pub run_some : (i : ℕ) (run : Run) → label_from n s i ≢ own → IsLongestRun n own may (label_from n s i) run → 0 < run.count
    run_some i run off is = longest_some n own may two valid (label_from n s i) (from_is_label n s i label) off run is

    pub next_off : (i : ℕ) (run : Run) → IsLongestRun n own may (label_from n s i) run → i + run.count < n → label_from n s (i + run.count) ≢ own
    next_off i run is inside = behind_differs n own may two valid s i run inside is

    run_serves : (i k : ℕ) (run : Run) → IsLongestRun n own may (label_from n s i) run → i ≤ k → k < i + run.count → label_from n s k ≢ own → may (label_from n s k) run.port
    run_serves i k run is l u off =
        let at : label_from n (label_from n s i) (k - i) ≡ label_from n s k = from_from n s i (k - i) ∙ ap (label_from n s) (omega arith) in
        subst (λ (x : ℕ). may x run.port) at (is.serves (k - i) (omega arith) (λ e. off (sym at ∙ e)))

    -- each label but the own may take its run's port
    pub run_ports_may : (ports : List (Option ℕ)) (i : ℕ) (runs : List Run) → GoOn n own may s i runs → HaveRunPorts n own s i runs ports
        → (k : ℕ) → i ≤ k → k < n → label_from n s k ≢ own → (p : ℕ) × (port_to ports (label_from n s k) ≡ Some p) × may (label_from n s k) p
    run_ports_may ports i [] go have k l u off = absurd (omega (arith, go))
    run_ports_may ports i (run ∷ rest) go have k l u off =
        elim (cases_lt k (i + run.count)) [
          | inl inside ↦ (run.port, have.0 k l inside u off, run_serves i k run go.1 l inside off)
          | inr behind ↦ run_ports_may ports (i + run.count) rest go.2 have.1 k behind u off
        ]

    pub set_within : (i : ℕ) (runs : List Run) → All (λ (m : PortInterval). (m.start < n) × (m.end < n)) (set_of n s i runs)
    set_within i [] k d h = absurd (omega arith)
    set_within i (run ∷ rest) zero d h = (from_is_label n s i label, from_is_label n s (min (i + run.count) n) label)
    set_within i (run ∷ rest) (suc k) d h = set_within (i + run.count) rest k d (omega arith)

    pub set_covers : (i : ℕ) (runs : List Run) → GoOn n own may s i runs → (i < n → label_from n s i ≢ own)
        → (k : ℕ) → i ≤ k → k < n → Any (λ (m : PortInterval). HasLabel n m (label_from n s k)) (set_of n s i runs)
    set_covers i [] go off k l u = absurd (omega (arith, go))
    set_covers i (run ∷ rest) go off k l u =
        let some = run_some i run (off go.0) go.1 in
        let j = min (i + run.count) n in
        elim (cases_lt k (i + run.count)) [
          | inl inside ↦
              let m : PortInterval = record { start = label_from n s i; end = label_from n s j; port = run.port } in
              (0, m, omega arith, refl, between_in n s i j k label (omega (arith, go.0)) (omega arith) u l (omega arith))
          | inr behind ↦
              let w = set_covers (i + run.count) rest go.2 (next_off i run go.1) k behind u in
              (suc w.0, w.1, omega (arith, w.2), w.3, w.4)
        ]

    set_agrees : (ports : List (Option ℕ)) (i : ℕ) (runs : List Run) → GoOn n own may s i runs → (i < n → label_from n s i ≢ own) → HaveRunPorts n own s i runs ports
        → (k : ℕ) → k < n → label_from n s k ≢ own
        → All (λ (m : PortInterval). HasLabel n m (label_from n s k) → port_to ports (label_from n s k) ≡ Some m.port) (set_of n s i runs)
    set_agrees ports i [] go off have k u ne c d h = absurd (omega arith)
    set_agrees ports i (run ∷ rest) go off have k u ne zero d h = λ has.
        let some = run_some i run (off go.0) go.1 in
        let w = in_between n s i (min (i + run.count) n) k label (omega (arith, go.0)) (omega arith) u has in
        have.0 k w.0 (omega (arith, w.1)) u ne
    set_agrees ports i (run ∷ rest) go off have k u ne (suc c) d h = set_agrees ports (i + run.count) rest go.2 (next_off i run go.1) have.1 k u ne c d (omega arith)

    pub set_may : (i : ℕ) (runs : List Run) → GoOn n own may s i runs → (i < n → label_from n s i ≢ own) → (k : ℕ) → k < n → label_from n s k ≢ own
        → All (λ (m : PortInterval). HasLabel n m (label_from n s k) → may (label_from n s k) m.port) (set_of n s i runs)
    set_may i [] go off k u ne c d h = absurd (omega arith)
    set_may i (run ∷ rest) go off k u ne zero d h = λ has.
        let some = run_some i run (off go.0) go.1 in
        let w = in_between n s i (min (i + run.count) n) k label (omega (arith, go.0)) (omega arith) u has in
        run_serves i k run go.1 w.0 (omega (arith, w.1)) ne
    set_may i (run ∷ rest) go off k u ne (suc c) d h = set_may (i + run.count) rest go.2 (next_off i run go.1) k u ne c d (omega arith)

    -- the intervals of the runs fit the ports that the runs give
    pub set_fits : (ports : List (Option ℕ)) (runs : List Run) → s ≢ own → GoOn n own may s 0 runs → HaveRunPorts n own s 0 runs ports → Fits n own ports (set_of n s 0 runs)
    set_fits ports runs off go have = record {
      within = set_within 0 runs;
      covered = λ d l ne.
          let w = place_from n s d label l in
          subst (λ (x : ℕ). Any (λ (m : PortInterval). HasLabel n m x) (set_of n s 0 runs)) w.2 (set_covers 0 runs go (λ _. off) w.0 (omega arith) w.1);
      agrees = λ d l ne.
          let w = place_from n s d label l in
          subst (λ (x : ℕ). All (λ (m : PortInterval). HasLabel n m x → port_to ports x ≡ Some m.port) (set_of n s 0 runs)) w.2
          (set_agrees ports 0 runs go (λ _. off) have w.0 w.1 (λ e. ne (sym w.2 ∙ e)));
    }

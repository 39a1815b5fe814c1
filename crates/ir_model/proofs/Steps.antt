-- Going round by the counts of a table: how many steps, which ports, and the first label with the fewest steps.
use Rattle.std.proofs.Common.{◌≡◌, ℕ, zero, suc, ◌+◌, ◌<◌, ◌≤◌, ◌≢◌, List, [], ◌∷◌, length, refl, ap, sym, ◌∙◌, subst, inl, inr, arith, Option, Some, None}
use Rattle.std.proofs.lemmas.Bool.{cases_eq, cases_lt}
use Rattle.std.specs.Prelude.{All, Any, slice_index}
use Rattle.ir_model.specs.Interval.{PortInterval, HasLabel}
use Rattle.ir_model.specs.Compiled.{port_to}
use Rattle.ir_model.specs.Choices.{AreChoices, FitsChoices, label_from, Serves, Run, IsLongestRun, GoOn, AreRunsFrom, AreFirstFewest, HaveRunPorts, AreChosen}
use Rattle.ir_model.proofs.Going.{from_is_label, from_from, from_round, place_from}
use Rattle.ir_model.proofs.Spread.{longest_some, begins_in, runs_from_start}
use Rattle.ir_model.proofs.Runs.{set_of, length-set_of, set_within, set_covers, set_may, runs_same}
use Rattle.ir_model.proofs.Chosen.{off_own}

-- the run of the tables from a label on
abbrev pub run_in : List ℕ → List ℕ → ℕ → Run
run_in counts ports a = record { port = slice_index ports a; count = slice_index counts a }

-- the tables have the longest run from each label but the own
abbrev pub AreLongest : ℕ → ℕ → (ℕ → ℕ → Type 0) → List ℕ → List ℕ → Type 0
AreLongest n own may counts ports = (a : ℕ) → a < n → a ≢ own → IsLongestRun n own may a (run_in counts ports a)

-- from each label but the own one gets on, not beyond one round, and not to the own label
pub record AreSteps (n own : ℕ) (counts : List ℕ) : Type 0 where
  pub every : length counts ≡ n
  pub some : (a : ℕ) → a < n → a ≢ own → 0 < slice_index counts a
  pub within : (a : ℕ) → a < n → a ≢ own → slice_index counts a ≤ n
  pub off : (a : ℕ) → a < n → a ≢ own → slice_index counts a < n → label_from n a (slice_index counts a) ≢ own

-- the place that follows the place i in the round from s
abbrev pub next_place : ℕ → List ℕ → ℕ → ℕ → ℕ
next_place n counts s i = i + slice_index counts (label_from n s i)

-- from the place i on, so many steps end the round
abbrev pub Steps : ℕ → List ℕ → ℕ → ℕ → ℕ → Type 0
Steps n counts s i zero = n ≤ i
Steps n counts s i (suc k) = (i < n) × Steps n counts s (next_place n counts s i) k

-- the labels but the own have the ports of their steps
abbrev pub HaveStepPorts : ℕ → ℕ → List ℕ → List ℕ → ℕ → ℕ → ℕ → List (Option ℕ) → Type 0
HaveStepPorts n own counts ports s i zero held = Unit {0}
HaveStepPorts n own counts ports s i (suc k) held =
    ((j : ℕ) → i ≤ j → j < next_place n counts s i → j < n → label_from n s j ≢ own → port_to held (label_from n s j) ≡ Some (slice_index ports (label_from n s i)))
    × HaveStepPorts n own counts ports s (next_place n counts s i) k held

-- the first label with the fewest steps, of the labels up to the end of the run that begins after the own label
pub record IsFirstNear (n own : ℕ) (counts : List ℕ) (t : ℕ) : Type 0 where
  pub off_own : 0 < t
  pub in_round : t < n
  pub steps : ℕ
  pub from : Steps n counts (label_from n own t) 0 steps
  pub before : (i : ℕ) → 0 < i → i < t → (others : ℕ) × Steps n counts (label_from n own i) 0 others × (steps < others)
  pub near : (i : ℕ) → 0 < i → i < n → i ≤ 1 + slice_index counts (label_from n own 1) → (others : ℕ) × Steps n counts (label_from n own i) 0 others × (steps ≤ others)

-- the labels but the own have the ports of the steps of the first near label with the fewest
pub record HaveRoundPorts (n own : ℕ) (counts ports : List ℕ) (held : List (Option ℕ)) : Type 0 where
  pub every : length held ≡ n
  pub none : port_to held own ≡ None
  pub place : ℕ
  pub near : IsFirstNear n own counts place
  pub steps : ℕ
  pub go : Steps n counts (label_from n own place) 0 steps
  pub have : HaveStepPorts n own counts ports (label_from n own place) 0 steps held

-- where the step from the place i leads, at most to the end of the round
pub record IsPlaceAfter (n : ℕ) (counts : List ℕ) (s i after : ℕ) : Type 0 where
  pub further : i < after
  pub inside : after ≤ n
  pub to : after < n → after ≡ next_place n counts s i
  pub last : after ≡ n → n ≤ next_place n counts s i

module _ (n : ℕ) (counts : List ℕ) (s i after : ℕ) (step : IsPlaceAfter n counts s i after) where
  -- one step more
  pub steps_more : (k : ℕ) → Steps n counts s after k → Steps n counts s i (suc k)
  steps_more zero go = let inside = step.inside in let more = step.further in (omega arith, step.last (omega (arith, go)))
  steps_more (suc k) go = let more = step.further in (omega (arith, go.0), subst (λ (x : ℕ). Steps n counts s x (suc k)) (step.to go.0) go)

  -- and the ports that it gives
  pub ports_more : (own : ℕ) (ports : List ℕ) (held : List (Option ℕ)) (k : ℕ) → Steps n counts s after k
      → ((j : ℕ) → i ≤ j → j < after → label_from n s j ≢ own → port_to held (label_from n s j) ≡ Some (slice_index ports (label_from n s i)))
      → HaveStepPorts n own counts ports s after k held → HaveStepPorts n own counts ports s i (suc k) held
  ports_more own ports held zero go here have = (λ j l _ u ne. let inside = step.inside in here j l (omega (arith, go)) ne, tt)
  ports_more own ports held (suc k) go here have =
      let to = step.to go.0 in
      (λ j l b u ne. here j l (omega arith) ne, subst (λ (x : ℕ). HaveStepPorts n own counts ports s x (suc k) held) to have)

module _ (n own : ℕ) (counts : List ℕ) (steps : AreSteps n own counts) (s : ℕ) (label : s < n) where
  -- a step that doesn't end the round leads to no own label
  pub next_off : (i : ℕ) → label_from n s i ≢ own → next_place n counts s i < n → label_from n s (next_place n counts s i) ≢ own
  next_off i ne inside = λ e.
      let a = label_from n s i in
      let at : label_from n a (slice_index counts a) ≡ label_from n s (next_place n counts s i) = from_from n s i (slice_index counts a) ∙ ap (label_from n s) (omega arith) in
      steps.off a (from_is_label n s i label) ne (omega arith) (at ∙ e)

  pub after_off : (i after : ℕ) → label_from n s i ≢ own → IsPlaceAfter n counts s i after → after < n → label_from n s after ≢ own
  after_off i after ne step inside =
      let to = step.to inside in
      subst (λ (x : ℕ). label_from n s x ≢ own) (sym to) (next_off i ne (omega arith))

  pub step_some : (i : ℕ) → label_from n s i ≢ own → 0 < slice_index counts (label_from n s i)
  step_some i ne = steps.some (label_from n s i) (from_is_label n s i label) ne

  pub some_steps : (fuel i : ℕ) → n ≤ i + fuel → (i < n → label_from n s i ≢ own) → (k : ℕ) × Steps n counts s i k
  some_steps zero i h off = (0, omega arith)
  some_steps (suc fuel) i h off =
      elim (cases_lt i n) [
        | inl inside ↦
            let some = steps.some (label_from n s i) (from_is_label n s i label) (off inside) in
            let r = some_steps fuel (next_place n counts s i) (omega arith) (next_off i (off inside)) in
            (suc r.0, (inside, r.1))
        | inr past ↦ (0, past)
      ]

module _ (n own : ℕ) (may : ℕ → ℕ → Type 0) (two : 1 < n) (valid : AreChoices n own may) (counts ports : List ℕ) (longest : AreLongest n own may counts ports) (every : length counts ≡ n) where
  pub longest_are_steps : AreSteps n own counts
  longest_are_steps = record {
    every = every;
    some = λ a l ne. longest_some n own may two valid a l ne (run_in counts ports a) (longest a l ne);
    within = λ a l ne. (longest a l ne).within;
    off = λ a l ne inside e.
        let is = longest a l ne in
        let more : Serves n own may (slice_index ports a) a (suc (slice_index counts a)) = λ i lt off.
        elim (cases_eq i (slice_index counts a)) [
          | inl f ↦ absurd (off (ap (label_from n a) f ∙ e))
          | inr differ ↦ is.serves i (omega arith) off
        ] in
        let le = is.longest (slice_index ports a) (suc (slice_index counts a)) (omega arith) more in
        omega arith;
  }

  module _ (s : ℕ) (label : s < n) where
    -- steps are longest runs
    pub runs_of : (i k : ℕ) → (i < n → label_from n s i ≢ own) → Steps n counts s i k → (runs : List Run) × GoOn n own may s i runs × (length runs ≡ k)
    runs_of i zero off go = ([], go, refl)
    runs_of i (suc k) off go =
        let a = label_from n s i in
        let r = runs_of (next_place n counts s i) k (next_off n own counts longest_are_steps s label i (off go.0)) go.1 in
        (run_in counts ports a ∷ r.0, (go.0, longest a (from_is_label n s i label) (off go.0), r.1), ap suc r.2)

    pub runs_with_ports : (held : List (Option ℕ)) (i k : ℕ) → (i < n → label_from n s i ≢ own) → Steps n counts s i k → HaveStepPorts n own counts ports s i k held
        → (runs : List Run) × GoOn n own may s i runs × HaveRunPorts n own s i runs held
    runs_with_ports held i zero off go have = ([], go, tt)
    runs_with_ports held i (suc k) off go have =
        let a = label_from n s i in
        let r = runs_with_ports held (next_place n counts s i) k (next_off n own counts longest_are_steps s label i (off go.0)) go.1 have.1 in
        (run_in counts ports a ∷ r.0, (go.0, longest a (from_is_label n s i label) (off go.0), r.1), (have.0, r.2))

  -- the longest runs from the label t places after the own one
  runs_at : (t k : ℕ) → 0 < t → t < n → Steps n counts (label_from n own t) 0 k → (runs : List Run) × AreRunsFrom n own may t runs × (length runs ≡ k)
  runs_at t k some l go = runs_of (label_from n own t) (from_is_label n own t valid.has_own) 0 k (λ _. off_own n own may valid t some l) go

  some_runs : (t : ℕ) → 0 < t → t < n → (runs : List Run) × AreRunsFrom n own may t runs
  some_runs t some l =
      let k = some_steps n own counts longest_are_steps (label_from n own t) (from_is_label n own t valid.has_own) n 0 (omega arith) (λ _. off_own n own may valid t some l) in
      let r = runs_at t k.0 some l k.1 in
      (r.0, r.1)

  -- the intervals of longest runs fit the choices
  set_fits_choices : (t : ℕ) (runs : List Run) → 0 < t → t < n → AreRunsFrom n own may t runs → FitsChoices n own may (set_of n (label_from n own t) 0 runs)
  set_fits_choices t runs some l go =
      let s = label_from n own t in
      let label = from_is_label n own t valid.has_own in
      let off : 0 < n → label_from n s 0 ≢ own = λ _. off_own n own may valid t some l in
      record {
        within = set_within n own may two valid s label 0 runs;
        covered = λ d ld ne.
            let w = place_from n s d label ld in
            subst (λ (x : ℕ). Any (λ (m : PortInterval). HasLabel n m x) (set_of n s 0 runs)) w.2 (set_covers n own may two valid s label 0 runs go off w.0 (omega arith) w.1);
        agrees = λ d ld ne.
            let w = place_from n s d label ld in
            subst (λ (x : ℕ). All (λ (m : PortInterval). HasLabel n m x → may x m.port) (set_of n s 0 runs)) w.2
            (set_may n own may two valid s label 0 runs go off w.0 w.1 (λ e. ne (sym w.2 ∙ e)));
      }

  empty_round : (s : ℕ) (runs : List Run) → GoOn n own may s 0 runs → length runs ≡ 0 → ⊥
  empty_round s [] go e = omega (arith, go)
  empty_round s (run ∷ rest) go e = omega arith

  -- a label near the own one, up to the end of the first run, is as good as any
  near_is_any : (K : ℕ) → ((i : ℕ) → 0 < i → i < n → i ≤ 1 + slice_index counts (label_from n own 1) → (others : List Run) × AreRunsFrom n own may i others × (K ≤ length others))
      → (i : ℕ) → 0 < i → i < n → (runs : List Run) × AreRunsFrom n own may i runs × (K ≤ length runs)
  near_is_any K near i some l =
      let xs = some_runs i some l in
      let first = label_from n own 1 in
      let first_in = from_is_label n own 1 valid.has_own in
      let run = run_in counts ports first in
      let is = longest first first_in (off_own n own may valid 1 (omega arith) two) in
      elim (cases_lt run.count n) [
        | inl inside ↦
            let s = label_from n own i in
            let set = set_of n s 0 xs.0 in
            let fits = set_fits_choices i xs.0 some l xs.1 in
            let w = begins_in n own may two valid set fits first 0 run first_in (omega arith) is in
            let at : label_from n first w.0 ≡ label_from n own (w.0 + 1) = from_from n own 1 w.0 in
            let behind : w.0 + 1 < n =
            elim (cases_eq (w.0 + 1) n) [
              | inl e ↦
                  let last : run.count ≡ w.0 = omega (arith, w.2) in
                  let back : label_from n first run.count ≡ own =
                  ap (label_from n first) last ∙ at ∙ ap (label_from n own) e ∙ from_round n own valid.has_own in
                  absurd (longest_are_steps.off first first_in (off_own n own may valid 1 (omega arith) two) inside back)
              | inr ne ↦ omega (arith, w.2)
            ] in
            let ys = near (w.0 + 1) (omega arith) behind (omega (arith, w.2)) in
            let le = runs_from_start n own may two valid set fits (label_from n first w.0) ys.0 (from_is_label n first w.0 first_in) w.3 (subst (λ (x : ℕ). GoOn n own may x 0 ys.0) (sym at) ys.1) in
            let count = length-set_of n s 0 xs.0 in
            (xs.0, xs.1, omega (arith, ys.2))
        | inr round ↦
            let ys = near 1 (omega arith) two (omega arith) in
            let one : AreRunsFrom n own may 1 (run ∷ []) = (omega arith, is, omega arith) in
            let same = ap (λ (rs : List Run). length rs) (runs_same n own may first 0 ys.0 (run ∷ []) ys.1 one) in
            (xs.0, xs.1, elim (cases_lt 0 (length xs.0)) [ inl full ↦ omega (arith, ys.2) | inr empty ↦ absurd (empty_round (label_from n own i) xs.0 xs.1 (omega arith)) ])
      ]

  -- the first near label with the fewest steps is the first of all with the fewest runs
  first_is_fewest : (t : ℕ) → IsFirstNear n own counts t → (runs : List Run) × AreFirstFewest n own may t runs
  first_is_fewest t h =
      let k = h.steps in
      let here = runs_at t k h.off_own h.in_round h.from in
      let near : (i : ℕ) → 0 < i → i < n → i ≤ 1 + slice_index counts (label_from n own 1) → (others : List Run) × AreRunsFrom n own may i others × (k ≤ length others) = λ i some l up.
      let w = h.near i some l up in
      let r = runs_at i w.0 some l w.1 in
      (r.0, r.1, omega (arith, w.2, r.2)) in (
        here.0,
        record {
          off_own = h.off_own;
          in_round = h.in_round;
          runs_from = here.1;
          before = λ i some lt.
              let w = h.before i some lt in
              let inside = h.in_round in
              let r = runs_at i w.0 some (omega arith) w.1 in
              (r.0, r.1, omega (arith, w.2, r.2, here.2));
          any = λ i some l.
              let r = near_is_any k near i some l in
              (r.0, r.1, omega (arith, r.2, here.2));
        },
      )

  -- so the ports of the steps from there are the chosen ones
  pub steps_are_chosen : (held : List (Option ℕ)) (t k : ℕ) → length held ≡ n → port_to held own ≡ None → IsFirstNear n own counts t
      → Steps n counts (label_from n own t) 0 k → HaveStepPorts n own counts ports (label_from n own t) 0 k held → AreChosen n own may held
  steps_are_chosen held t k len none near go have =
      let s = label_from n own t in
      let first = first_is_fewest t near in
      let fewest = first.1 in
      let r = runs_with_ports s (from_is_label n own t valid.has_own) held 0 k (λ _. off_own n own may valid t near.off_own near.in_round) go have in
      let same = runs_same n own may s 0 r.0 first.0 r.1 fewest.runs_from in
      record {
        every = len;
        none = none;
        chosen = λ _. (t, first.0, fewest, subst (λ (rs : List Run). HaveRunPorts n own s 0 rs held) same r.2);
      }

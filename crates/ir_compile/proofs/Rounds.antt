-- Rounds by runs of so many labels from each label.
use Rattle.std.proofs.Common.{◌≡◌, ◌≢◌, ℕ, zero, suc, ◌+◌, ◌-◌, ◌<◌, ◌≤◌, List, ap, sym, subst, ◌∙◌, inl, inr, arith}
use Rattle.std.specs.Prelude.{slice_index}
use Rattle.std.proofs.lemmas.Bool.{cases_lt}
use Rattle.ir_model.specs.Choices.{label_from, Serves}
use Rattle.ir_model.proofs.Going.{from_is_label, from_from}
use Rattle.ir_model.proofs.Steps.{AreLongest, AreSteps, Steps, next_place, next_off}
use Rattle.ir_compile.specs.Rounds.{Reaches, RunOn}

-- steps that lead past the round end it
pub steps_of : (n : ℕ) (counts : List ℕ) (s k i e : ℕ) → n ≤ e → Reaches n counts s i k e → Steps n counts s i k
steps_of n counts s zero i e past go = omega (arith, past, go)
steps_of n counts s (suc k) i e past go = (go.0, steps_of n counts s k (next_place n counts s i) e past go.1)

-- a longest run that begins within another one ends no sooner
pub longest_run_on : (n own : ℕ) (may : ℕ → ℕ → Type 0) (counts ports : List ℕ) → AreLongest n own may counts ports → RunOn n own counts
longest_run_on n own may counts ports longest a i l ne inside off =
    let is = longest a l ne in
    let b : ℕ = label_from n a i in
    let there = longest b (from_is_label n a i l) off in
    let within = is.within in
    let left : ℕ = slice_index counts a - i in
    let serves : Serves n own may (slice_index ports a) b left = λ j lt off_b.
    let at : label_from n b j ≡ label_from n a (j + i) = from_from n a i j in
    subst (λ (x : ℕ). may x (slice_index ports a)) (sym at) (is.serves (j + i) (omega (arith, lt, inside)) (λ e. off_b (at ∙ e))) in
    let le = there.longest (slice_index ports a) left (omega (arith, within)) serves in
    omega (arith, le, inside)

module _ (n own : ℕ) (counts : List ℕ) (steps : AreSteps n own counts) (on : RunOn n own counts) (s : ℕ) (label : s < n) where
  -- from a later place the next one is no earlier
  next_rises : (i j : ℕ) → i ≤ j → label_from n s i ≢ own → label_from n s j ≢ own → next_place n counts s i ≤ next_place n counts s j
  next_rises i j le off_i off_j =
      elim (cases_lt j (next_place n counts s i)) [
        | inl within ↦
            let a : ℕ = label_from n s i in
            let is : j - i + i ≡ j = omega (arith, le) in
            let at : label_from n a (j - i) ≡ label_from n s j = from_from n s i (j - i) ∙ ap (label_from n s) is in
            let more = on a (j - i) (from_is_label n s i label) off_i (omega (arith, within, le)) (λ e. off_j (sym at ∙ e)) in
            let same : slice_index counts (label_from n a (j - i)) ≡ slice_index counts (label_from n s j) = ap (λ (x : ℕ). slice_index counts x) at in
            omega (arith, more, same, le)
        | inr past ↦ omega (arith, past)
      ]

  -- steps of the round from a later label, which are not ahead, are more than those that end before its end
  lag : (d k i e others j : ℕ) → Reaches n counts s i k e → (i < n → label_from n s i ≢ own) → Steps n counts (label_from n s d) j others
      → (j < n → label_from n (label_from n s d) j ≢ own) → j + d ≤ i → e < n + d → k < others
  lag d zero i e zero j go off steps_d off_d behind short = absurd (omega (arith, go, steps_d, behind, short))
  lag d zero i e (suc others) j go off steps_d off_d behind short = omega arith
  lag d (suc k) i e zero j go off steps_d off_d behind short = absurd (omega (arith, go.0, steps_d, behind))
  lag d (suc k) i e (suc others) j go off steps_d off_d behind short =
      let t : ℕ = label_from n s d in
      let at : label_from n t j ≡ label_from n s (j + d) = from_from n s d j in
      let up = next_rises (j + d) i behind (λ e. off_d steps_d.0 (at ∙ e)) (off go.0) in
      let same : slice_index counts (label_from n t j) ≡ slice_index counts (label_from n s (j + d)) = ap (λ (x : ℕ). slice_index counts x) at in
      let rest = lag d k (next_place n counts s i) e others (next_place n counts t j) go.1 (next_off n own counts steps s label i (off go.0)) steps_d.1
      (next_off n own counts steps t (from_is_label n s d label) j (off_d steps_d.0)) (omega (arith, up, same)) short in
      omega (arith, rest)

  -- a round that begins within the first run, but after where the last run of the round from s ends, has no fewer
  pub no_fewer : (k past d others : ℕ) → s ≢ own → label_from n s d ≢ own → Reaches n counts s 0 k (n + past) → d ≤ slice_index counts s → past < d
      → Steps n counts (label_from n s d) 0 others → k ≤ others
  no_fewer zero past d others off off_d go near short steps_d = omega arith
  no_fewer (suc k) past d others off off_d go near short steps_d =
      let more = lag d k (next_place n counts s 0) (n + past) others 0 go.1 (next_off n own counts steps s label 0 off) steps_d (λ _. off_d) (omega (arith, near)) (omega (arith, short)) in
      omega (arith, more)

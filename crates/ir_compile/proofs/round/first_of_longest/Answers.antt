use Rattle.std.proofs.Common.{◌≡◌, ◌≢◌, ◌<◌, ◌+◌, ◌-◌, ℕ, List, ap, sym, subst, ◌∙◌, inl, inr, arith, slice_index}
use Rattle.std.proofs.lemmas.Bool.{cases_lt}
use Rattle.ir_model.specs.Choices.{label_from}
use Rattle.ir_model.proofs.Going.{from_differs, from_from, from_is_label}
use Rattle.ir_model.proofs.Steps.{Steps, some_steps}
use Rattle.ir_compile.specs.Rounds.{Reaches}
use Rattle.ir_compile.proofs.Rounds.{no_fewer, steps_of}
use Rattle.ir_compile.proofs.round.first_of_longest.Goals as goal

pub round_from-steps-requires-clause-off : goal.round_from-steps-requires-clause-off
round_from-steps-requires-clause-off c = λ e. from_differs c.args.n c.args.own 0 1 c.requires.own (omega arith) c.requires.two (sym e ∙ c.label_at-first.ensures.from)

pub first_to-requires-clause-first : goal.first_to-requires-clause-first
first_to-requires-clause-first c =
    subst (λ (x : ℕ). Steps c.args.n c.args.counts.now x 0 c.round_from-steps.result.0) c.label_at-first.ensures.from
    (steps_of c.args.n c.args.counts.now c.label_at-first.result c.round_from-steps.result.0 0 (c.args.n + c.round_from-steps.result.1) (omega arith) c.round_from-steps.ensures)

pub returns : goal.returns
returns c =
    let n : ℕ = c.args.n in
    let own : ℕ = c.args.own in
    let counts : List ℕ = c.args.counts.now in
    let steps = c.requires.steps in
    let own_in = c.requires.own in
    let v = c.first_to.ensures in
    let at : c.label_at-first.result ≡ label_from n own 1 = c.label_at-first.ensures.from in
    let s : ℕ = label_from n own 1 in
    let first : ℕ = c.round_from-steps.result.0 in
    let past : ℕ = c.round_from-steps.result.1 in
    let round : Reaches n counts s 0 first (n + past) = subst (λ (x : ℕ). Reaches n counts x 0 first (n + past)) at c.round_from-steps.ensures in
    let few = v.few in
    let least = c.min.ensures in
    let same : slice_index counts c.label_at-first.result ≡ slice_index counts s = ap (λ (x : ℕ). slice_index counts x) at in
    record {
      off_own = v.off_own;
      in_round = v.in_round;
      steps = v.steps;
      from = v.from;
      before = v.before;
      near = λ i some l up.
          elim (cases_lt i c.last_near.result) [
            | inl tried ↦ v.near i some tried
            | inr left ↦
                let off : label_from n own i ≢ own = λ e. from_differs n own 0 i own_in some l (sym e) in
                let off_first : s ≢ own = λ e. from_differs n own 0 1 own_in (omega arith) c.requires.two (sym e) in
                let others = some_steps n own counts steps (label_from n own i) (from_is_label n own i own_in) n 0 (omega arith) (λ _. off) in
                let d : ℕ = i - 1 in
                let is : d + 1 ≡ i = omega (arith, some) in
                let there : label_from n s d ≡ label_from n own i = from_from n own 1 d ∙ ap (label_from n own) is in
                let behind : past < d =
                elim (cases_lt past d) [
                  | inl more ↦ more
                  | inr near ↦ absurd (omega (arith, left, c.last_near.ensures.near i l (omega (arith, near, is, up, same, least))))
                ] in
                let more = no_fewer n own counts steps c.requires.on s (from_is_label n own 1 own_in) first past d others.0 off_first (λ e. off (sym there ∙ e)) round (omega (arith, up, is)) behind
                (subst (λ (x : ℕ). Steps n counts x 0 others.0) (sym there) others.1) in
                (others.0, others.1, omega (arith, few, more))
          ];
    }

pub bounds-counts-first : goal.bounds-counts-first
bounds-counts-first c = omega (arith, c.label_at-first.ensures.label, c.requires.steps.every)

use Rattle.std.proofs.Common.{◌≡◌, ◌<◌, ◌+◌, ℕ, subst, sym, ◌∙◌, inl, inr, arith}
use Rattle.std.proofs.lemmas.Bool.{cases_eq}
use Rattle.ir_model.specs.Choices.{label_from}
use Rattle.ir_model.proofs.Going.{from_differs}
use Rattle.ir_model.proofs.Steps.{Steps}
use Rattle.ir_compile.proofs.Rounds.{steps_of}
use Rattle.ir_compile.proofs.round.first_to.Goals as goal
use Rattle.ir_compile.proofs.round.first_to.Goals.{then-steps-fewest, else-steps-fewest}

pub loop-t-init : goal.loop-t-init
loop-t-init c = record {
  off_own = omega arith;
  earlier = omega arith;
  in_round = c.requires.two;
  few = omega arith;
  from = c.requires.first;
  before = λ i some l. absurd (omega (arith, some, l));
  near = λ i some l.
      let e : 1 ≡ i = omega (arith, some, l) in (c.args.first, subst (λ (x : ℕ). Steps c.args.n c.args.counts.now (label_from c.args.n c.args.own x) 0 c.args.first) e c.requires.first, omega arith);
}

pub round_from-steps-requires-clause-off : goal.round_from-steps-requires-clause-off
round_from-steps-requires-clause-off c = λ e.
    from_differs c.args.n c.args.own 0 c.loop-t.t c.requires.own (let l = c.loop-t.auto.t in omega arith) (let i = c.requires.last in omega (arith, c.loop-t-test.true)) (sym e ∙ c.label_at.ensures.from)

pub loop-t-preserved : goal.loop-t-preserved
loop-t-preserved c =
    let v = c.loop-t.invariant in
    let n = c.args.n in
    let counts = c.args.counts.now in
    let inside : c.loop-t.t < n = let i = c.requires.last in omega (arith, c.loop-t-test.true) in
    let here : Steps n counts (label_from n c.args.own c.loop-t.t) 0 c.round_from-steps.result.0 =
    subst (λ (x : ℕ). Steps n counts x 0 c.round_from-steps.result.0) c.label_at.ensures.from
    (steps_of n counts c.label_at.result c.round_from-steps.result.0 0 (n + c.round_from-steps.result.1) (omega arith) c.round_from-steps.ensures) in
    elim c.if-steps-fewest.branch [
      | then-steps-fewest w ↦
          let less = w.if-steps-fewest.true in
          rw (w.best-is, w.fewest-is) (record {
            off_own = (let l = c.loop-t.auto.t in omega arith);
            earlier = omega arith;
            in_round = inside;
            few = (let f = v.few in omega (arith, f, less));
            from = here;
            before = λ i some l. let o = v.near i some l in (o.0, o.1, omega (arith, o.2));
            near = λ i some l. elim (cases_eq i c.loop-t.t) [
              | inl e ↦ (c.round_from-steps.result.0, subst (λ (x : ℕ). Steps n counts (label_from n c.args.own x) 0 c.round_from-steps.result.0) (sym e) here, omega arith)
              | inr ne ↦ let o = v.near i some (omega arith) in (o.0, o.1, omega (arith, o.2))
            ];
          })
      | else-steps-fewest w ↦
          let more = w.if-steps-fewest.false in
          let earlier = v.earlier in
          rw (w.best-is, w.fewest-is) (record {
            off_own = v.off_own;
            earlier = omega arith;
            in_round = v.in_round;
            few = v.few;
            from = v.from;
            before = v.before;
            near = λ i some l. elim (cases_eq i c.loop-t.t) [
              | inl e ↦ (c.round_from-steps.result.0, subst (λ (x : ℕ). Steps n counts (label_from n c.args.own x) 0 c.round_from-steps.result.0) (sym e) here, more)
              | inr ne ↦ v.near i some (omega arith)
            ];
          })
    ]

pub returns : goal.returns
returns c =
    let v = c.loop-t.invariant in
    record {
      off_own = v.off_own;
      in_round = v.in_round;
      steps = c.loop-t.fewest;
      few = v.few;
      from = v.from;
      before = v.before;
      near = λ i some l. v.near i some (omega (arith, l, c.loop-t-test.false));
    }

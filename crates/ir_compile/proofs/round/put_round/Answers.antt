use Rattle.std.proofs.Common.{◌≡◌, ℕ, suc, Some, refl, ◌∙◌, ap, arith}
use Rattle.std.specs.Prelude.{slice_index}
use Rattle.ir_model.specs.Choices.{label_from}
use Rattle.ir_model.proofs.Steps.{steps_more, ports_more, after_off, step_some}
use Rattle.ir_compile.proofs.round.put_round.Goals as goal

pub place_after-after-requires-clause-some : goal.place_after-after-requires-clause-some
place_after-after-requires-clause-some c =
    step_some c.args.n c.args.own c.args.counts.now c.requires.steps c.args.start c.requires.start c.loop-place.place (c.loop-place.invariant.off c.loop-place-test.true)

pub loop-place-preserved : goal.loop-place-preserved
loop-place-preserved c =
    let step = c.place_after-after.ensures in
    let n = c.args.n in
    let s = c.args.start in
    let counts = c.args.counts.now in
    let i = c.loop-place.place in
    let after = c.place_after-after.result in
    let more = step.further in
    let every = c.loop-place.invariant.every in
    let at : slice_index c.args.ports.now c.label_at.result ≡ slice_index c.args.ports.now (label_from n s i) = ap (λ (x : ℕ). slice_index c.args.ports.now x) c.label_at.ensures.from in
    record {
      every = c.put_run.ensures.length ∙ every;
      inside = step.inside;
      off = after_off n c.args.own counts c.requires.steps s c.requires.start i after (c.loop-place.invariant.off c.loop-place-test.true) step;
      rest = λ k last go have kept.
          c.loop-place.invariant.rest (suc k) last (steps_more n counts s i after step k go)
          (ports_more n counts s i after step c.args.own c.args.ports.now last k go
          (λ j l u ne. kept j u ne ∙ ap (λ (p : ℕ). Some p) (c.put_run.ensures.put j l u ∙ at)) have)
          (λ j l ne. kept j (omega arith) ne ∙ ap (λ (p : ℕ). Some p) (c.put_run.ensures.kept j l));
    }

pub returns-clause-ports : goal.returns-clause-ports
returns-clause-ports c = λ held at.
    let v = c.loop-place.invariant in
    let inside = v.inside in
    v.rest 0 held (omega (arith, c.loop-place-test.false)) tt (λ j l ne. at j (omega (arith, l, inside)) ne)

pub label_at-requires : goal.label_at-requires
label_at-requires c = record { start = c.requires.start; place = c.loop-place-test.true }

pub bounds-ports-label_at : goal.bounds-ports-label_at
bounds-ports-label_at c = omega (arith, c.label_at.ensures.label, c.requires.ports)

pub put_run-requires : goal.put_run-requires
put_run-requires c = omega (arith, c.requires.room, c.loop-place.invariant.every, c.place_after-after.ensures.inside)

pub loop-place-init : goal.loop-place-init
loop-place-init c = record { every = refl; inside = omega arith; off = λ _. c.requires.off; rest = λ k last go have kept. (k, go, have) }

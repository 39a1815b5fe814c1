use Rattle.std.proofs.Common.{ap, ◌∙◌, arith}
use Rattle.std.specs.Prelude.{slice_index_or}
use Rattle.ir_worker.specs.Turns.{MayEnd}
use Rattle.ir_control.proofs.Kept.{as_promised, kept_back}
use Rattle.ir_control.proofs.working.join_all.Goals as goal

pub returns-clause-back : goal.returns-clause-back
returns-clause-back g c = λ stop gate by.
    (let running = c.args.running.ok.0 in
    let back = c.in-Ok-join_promised.back.ok.0 in
    let many = c.in-Ok-join_promised.ensures.len in
    kept_back g.R.Moments.was_full g.R.Moments.was_empty g.R.Looks.looked (MayEnd g.F.Flag.was_set g.G.Gate.barred stop gate) (λ h. h.promise.node.value) c.args.running.items c.in-Ok-join_promised.back.items
    (omega (arith, running, back, many))
    (λ k b lt. (let kept = (c.in-Ok-join_promised.ensures.each k b (omega (arith, running, lt))).1 in
    let same = by k kept.handle lt in (
      kept.handle,
      kept.handle_is,
      as_promised g.R.Moments.was_full g.R.Moments.was_empty g.R.Looks.looked g.F.Flag.was_set g.G.Gate.barred kept.handle.promise.stop.value stop kept.handle.promise.gate.value gate kept.handle.promise.node.value (slice_index_or c.in-Ok-join_promised.back.items k b)
          (ap (λ h. h.promise.stop.value) kept.handle_is ∙ same.0) (ap (λ h. h.promise.gate.value) kept.handle_is ∙ same.1) kept.kept,
    ))))

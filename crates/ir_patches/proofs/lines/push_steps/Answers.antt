use Rattle.std.proofs.Common.{drop, refl, string_bytes, arith}
use Rattle.ir_model.specs.Graph.{names}
use Rattle.ir_patches.proofs.Steps.{steps_on}
use Rattle.ir_patches.proofs.lines.push_steps.Goals as goal

pub loop-start-preserved : goal.loop-start-preserved
loop-start-preserved c =
    let inv = c.loop-start.invariant in
    record {
      text = steps_on (names c.args.graph.now) c.args.removed.now c.loop-start.start-index _ (drop c.loop-start.place c.args.put.now) (drop c.in_ok-place.place c.args.put.now) (string_bytes c.loop-start.text) (string_bytes c.push_below.new.text) (string_bytes c.push_removed.new.text) _
          (omega (arith, c.loop-start-test.true)) refl inv.text c.in_ok-place.ensures.text c.in_ok-push_removed.ensures c.in_ok-place.ensures.rest;
      within = c.in_ok-place.ensures.within;
    }

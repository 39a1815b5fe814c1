use Rattle.std.proofs.Common.{arith}
use Rattle.ir_tables.specs.Keys.{keys_waiting}
use Rattle.ir_tables.proofs.Waiting.{kept_then}
use Rattle.ir_tables.proofs.keyed.Frontier.bring_near.Goals as goal

pub loop-at-init : goal.loop-at-init
loop-at-init c = (c.in_ok-bring.ensures.fresh, c.in_ok-bring.ensures.load)

pub loop-at-preserved : goal.loop-at-preserved
loop-at-preserved c =
    let so_far = c.loop-at.invariant in
    let next = c.in_ok-bring-2.ensures in (
      kept_then c.args.keys.now (keys_waiting c.args.self.now) (keys_waiting c.loop-at.self) (keys_waiting c.bring-else-entry-limit.new.self) so_far.0 next.fresh,
      omega (arith, so_far.1, next.load),
    )

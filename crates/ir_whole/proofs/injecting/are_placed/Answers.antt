use Rattle.std.proofs.Common.{◌∙◌, arith}
use Rattle.ir_whole.proofs.Numbered.{placed_end}
use Rattle.ir_whole.proofs.injecting.are_placed.Goals as goal

pub returns : goal.returns
returns c =
    placed_end c.args.table.now c.loop-inject.next c.args.injects.now c.loop-inject.inject-index c.loop-inject.invariant.within (omega arith) ∙ c.loop-inject.invariant.same

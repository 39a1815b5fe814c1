use Rattle.std.proofs.Common.{◌∙◌, ap, sym}
use Rattle.ir_bounds.specs.Near.{part_end}
use Rattle.ir_bounds.proofs.Parts.{begin_next}
use Rattle.ir_bounds.proofs.near.begin_after.Goals as goal

pub end_of-begin-requires : goal.end_of-begin-requires
end_of-begin-requires c = rw c.loop.invariant (c.requires c.loop.counter c.loop-test.true)

pub loop-preserved : goal.loop-preserved
loop-preserved c = c.end_of-begin.ensures ∙ (ap (part_end c.args.list.now) c.loop.invariant ∙ sym (begin_next c.args.list.now c.loop.counter))

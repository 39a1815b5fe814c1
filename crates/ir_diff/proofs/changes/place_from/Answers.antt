use Rattle.ir_diff.proofs.Places.{none}
use Rattle.ir_diff.proofs.Cuts.{one_more}
use Rattle.ir_diff.proofs.changes.place_from.Goals as goal

pub loop-end-preserved : goal.loop-end-preserved
loop-end-preserved c = one_more c.args.row.now c.args.start c.loop-end.end none c.loop-end.invariant c.loop-end-test.true c.if-row-end.true

use Rattle.ir_lanes.specs.Marks.{ArePortLanes}
use Rattle.ir_lanes.proofs.marks.push_tied.Given as goal

abbrev pub invariant-loop-p : goal.invariant-loop-p
invariant-loop-p l = ArePortLanes l.words l.begin l.p l.lanes

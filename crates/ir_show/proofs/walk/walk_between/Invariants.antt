use Rattle.std.proofs.Common.{◌-◌, length}
use Rattle.ir_model.specs.Topology.{node_count}
use Rattle.ir_show.proofs.Walks.{AreStopsAlong}
use Rattle.ir_show.proofs.walk.walk_between.Given as goal

abbrev pub invariant-loop-at : goal.invariant-loop-at
invariant-loop-at l = AreStopsAlong l.plan l.from l.to l.at l.weight l.stops.items

abbrev pub decreases-loop-at : goal.decreases-loop-at
decreases-loop-at l = node_count l.plan.topology - length l.stops.items

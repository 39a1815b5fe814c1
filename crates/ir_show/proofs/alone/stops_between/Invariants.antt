use Rattle.std.proofs.Common.{◌-◌, length}
use Rattle.ir_model.specs.Topology.{node_count}
use Rattle.ir_show.proofs.Walks.{AreStopsSoFar}
use Rattle.ir_show.proofs.alone.stops_between.Given as goal

abbrev pub invariant-loop-at : goal.invariant-loop-at
invariant-loop-at l = AreStopsSoFar l.topology l.kind l.numbering l.from l.to l.at l.weight l.stops.items

abbrev pub decreases-loop-at : goal.decreases-loop-at
decreases-loop-at l = node_count l.topology - length l.stops.items

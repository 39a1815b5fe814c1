use Rattle.std.proofs.Common.{◌-◌}
use Rattle.ir_model.specs.Topology.{node_count}
use Rattle.ir_tables.proofs.Flooding.{IsFlooding}
use Rattle.ir_tables.proofs.outward.flood.Given as goal

abbrev pub invariant-loop-passed : goal.invariant-loop-passed
invariant-loop-passed l = IsFlooding l.topology l.u l.weights l.p l.start l.passed l.marks.items l.led.items

abbrev pub decreases-loop-passed : goal.decreases-loop-passed
decreases-loop-passed l = node_count l.topology - l.passed

use Rattle.std.proofs.Common.{◌*◌, min}
use Rattle.ir_model.specs.Topology.{node_count}
use Rattle.ir_figures.specs.Far.{IsFarSum}
use Rattle.ir_figures.proofs.far.far_sum.Given as goal

abbrev pub invariant-loop-batch : goal.invariant-loop-batch
invariant-loop-batch l = IsFarSum l.plan (min (l.batch * 16) (node_count l.plan.topology)) l.sum

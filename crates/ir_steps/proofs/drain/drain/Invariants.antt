use Rattle.std.proofs.Common.{string_bytes}
use Rattle.ir_model.specs.Graph.{names}
use Rattle.ir_core.specs.Quiet.{weight}
use Rattle.ir_steps.proofs.Adding.{RoundsSo}
use Rattle.ir_steps.proofs.drain.drain.Given as goal

abbrev pub invariant-rounds : goal.invariant-rounds
invariant-rounds l = RoundsSo (names l.net.graph.now) l.net.topology.now l.line l.initial.world l.world (string_bytes l.initial.text) (string_bytes l.text)

abbrev pub decreases-rounds : goal.decreases-rounds
decreases-rounds l = weight l.world

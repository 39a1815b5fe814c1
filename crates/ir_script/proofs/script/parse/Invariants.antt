use Rattle.std.proofs.Common.{length}
use Rattle.ir_model.specs.Graph.{names}
use Rattle.ir_script.proofs.Scripts.{IsRead}
use Rattle.ir_script.proofs.script.parse.Given as goal

abbrev pub invariant-loop-rest : goal.invariant-loop-rest
invariant-loop-rest g l = IsRead (g.T.ScriptItem.says l.detour) (names l.graph) l.topology l.text l.steps.items l.numbers.items l.line l.rest

abbrev pub decreases-loop-rest : goal.decreases-loop-rest
decreases-loop-rest g l = length l.rest

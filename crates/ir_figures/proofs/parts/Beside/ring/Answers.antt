use Rattle.std.proofs.Common.{subst}
use Rattle.std.specs.Prelude.{IfNone, IfOk}
use Rattle.ir_model.specs.Plan.{Plan}
use Rattle.ir_figures.specs.Waits.{whole_number, IsWithoutRing, WaitsBeside}
use Rattle.ir_figures.proofs.parts.Beside.ring.Goals as goal

pub returns-clause-acyclic : goal.returns-clause-acyclic
returns-clause-acyclic c =
    subst (λ (s : Plan). IfOk c.ring_beside.result (λ found. IfNone found (IsWithoutRing (WaitsBeside s (whole_number c.args.without) c.args.part.now)))) c.self.view_is c.ring_beside.ensures.acyclic

use Rattle.std.proofs.Common.{subst}
use Rattle.ir_model.specs.Topology.{Topology}
use Rattle.ir_plan.specs.Building.{RefusesPlan, labelling_of}
use Rattle.ir_answer.proofs.Looking.{told_refusal}
use Rattle.ir_answer.proofs.look.plan_of.Goals as goal

pub returns-in-Err-clause-stop : goal.returns-in-Err-clause-stop
returns-in-Err-clause-stop g c =
    let labels = labelling_of c.args.labels in
    told_refusal c.args.graph.now c.args.kind labels (λ plan text. ⊥) c.in-Err.error c.from.result
    c.from.ensures (subst (λ (topology : Topology). RefusesPlan topology labels c.in-Err.error) c.in-Ok.ensures c.in-Err.ensures.refused)
    c.opening_stop.result c.opening_stop.ensures

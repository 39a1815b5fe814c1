use Rattle.std.proofs.Common.{subst}
use Rattle.ir_model.specs.Graph.{names}
use Rattle.ir_model.specs.Topology.{Topology}
use Rattle.ir_plan.specs.Building.{RefusesPlan, labelling_of}
use Rattle.ir_answer.specs.declared.look.Show.TheVariants.{Nodes}
use Rattle.ir_answer.specs.Looks.{Says}
use Rattle.ir_answer.proofs.Looking.{told_refusal}
use Rattle.ir_answer.proofs.look.show_nodes.Goals as goal

pub returns : goal.returns
returns c =
    let labels = labelling_of c.args.labels in
    told_refusal c.args.graph.now c.args.kind labels (Says (Nodes c.args.span.0 c.args.span.1) c.args.graph.now) c.in-Err.error c.from.result
    c.from.ensures (subst (λ (topology : Topology). RefusesPlan topology labels c.in-Err.error) c.in-Ok.ensures c.in-Err.ensures.refused)
    c.opening_stop.result c.opening_stop.ensures

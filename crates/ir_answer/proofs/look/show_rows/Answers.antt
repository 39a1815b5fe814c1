use Rattle.std.proofs.Common.{◌∙◌, ap}
use Rattle.ir_model.specs.Topology.{node_count}
use Rattle.ir_model.specs.Graph.{names}
use Rattle.ir_plan.specs.Building.{labelling_of}
use Rattle.ir_answer.specs.declared.look.Show.TheVariants.{Rows}
use Rattle.ir_answer.specs.Looks.{AnswerShows, AnswersShow}
use Rattle.ir_answer.proofs.Answering.{gives_more}
use Rattle.ir_trace.proofs.ReadWithin.{count}
use Rattle.ir_answer.proofs.Looking.{shown_plan}
use Rattle.ir_answer.proofs.look.show_rows.Goals as goal

pub returns-in-Ok : goal.returns-in-Ok
returns-in-Ok g c =
    let graph = c.args.graph in
    let labels = labelling_of c.args.labels in
    gives_more (AnswerShows Rows graph c.in-Ok.plan) (AnswersShow c.args.kind graph labels Rows)
    (shown_plan graph c.args.kind labels Rows c.in-Ok.plan c.in-Ok.ensures.plan) c.rows_reply.result c.rows_reply.ensures

pub returns-in-Err : goal.returns-in-Err
returns-in-Err g c = c.in-Err.ensures.stop

pub rows_reply-requires : goal.rows_reply-requires
rows_reply-requires g c = ap node_count c.in-Ok.ensures.plan.over ∙ count c.args.graph

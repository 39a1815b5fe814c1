use Rattle.std.proofs.Common.{◌≡◌, ◌∙◌, ℕ, length, refl, sym, ap, subst, arith}
use Rattle.ir_model.specs.Topology.{node_count}
use Rattle.ir_answer.specs.declared.look.Show.{Show}
use Rattle.ir_show.specs.Plans.{NeedsNoTour}
use Rattle.ir_answer.specs.Stops.{Gives}
use Rattle.ir_model.specs.Graph.{names}
use Rattle.ir_plan.specs.Building.{labelling_of}
use Rattle.ir_answer.specs.Looks.{AreAmong, AnswerShows, AnswersShow}
use Rattle.ir_answer.proofs.Answering.{gives_more}
use Rattle.ir_trace.proofs.ReadWithin.{count}
use Rattle.ir_answer.proofs.Looking.{shown_plan}
use Rattle.ir_answer.proofs.look.show_text.Goals as goal

pub returns-in-Ok : goal.returns-in-Ok
returns-in-Ok g c =
    let graph = c.args.graph.now in
    let labels = labelling_of c.args.labels in
    gives_more (AnswerShows c.args.show graph c.in-Ok.plan) (AnswersShow c.args.kind graph labels c.args.show)
    (shown_plan graph c.args.kind labels c.args.show c.in-Ok.plan c.in-Ok.ensures.plan) c.text_reply.result c.text_reply.ensures

pub returns-in-Some : goal.returns-in-Some
returns-in-Some g c =
    subst (λ (show : Show). Gives (AnswersShow c.args.kind c.args.graph.now (labelling_of c.args.labels) show) c.show_walk.result) (sym c.in-Some.ensures.shown) c.show_walk.ensures

pub show_walk-requires-clause-ends : goal.show_walk-requires-clause-ends
show_walk-requires-clause-ends g c some = subst (λ (show : Show). AreAmong (length c.args.graph.now) show) c.in-Some.ensures.shown (c.requires.ends some)

pub show_walk-requires-clause-alone : goal.show_walk-requires-clause-alone
show_walk-requires-clause-alone g c = subst (λ (nodes : ℕ). NeedsNoTour nodes (labelling_of c.args.labels)) c.number_of_nodes.ensures.len (c.in-Some.ensures.alone refl)

pub text_reply-requires-clause-nodes : goal.text_reply-requires-clause-nodes
text_reply-requires-clause-nodes g c κs within = ap node_count c.in-Ok.ensures.plan.over ∙ count c.args.graph.now

pub text_reply-requires-clause-ends : goal.text_reply-requires-clause-ends
text_reply-requires-clause-ends g c κs within =
    let nodes : node_count c.in-Ok.plan.topology ≡ length c.args.graph.now = ap node_count c.in-Ok.ensures.plan.over ∙ count c.args.graph.now in
    c.requires.ends (omega (arith, c.in-Ok.ensures.plan.valid.root_in, nodes))

pub returns-in-Err : goal.returns-in-Err
returns-in-Err g c = c.in-Err.ensures.stop

pub returns-in-Some-span_alone : goal.returns-in-Some-span_alone
returns-in-Some-span_alone g c =
    subst (λ (show : Show). Gives (AnswersShow c.args.kind c.args.graph.now (labelling_of c.args.labels) show) c.show_nodes.result) (sym c.in-Some-span_alone.ensures.shown) c.show_nodes.ensures

pub show_nodes-requires-clause-ends : goal.show_nodes-requires-clause-ends
show_nodes-requires-clause-ends g c some = subst (λ (show : Show). AreAmong (length c.args.graph.now) show) c.in-Some-span_alone.ensures.shown (c.requires.ends some)

pub show_nodes-requires-clause-alone : goal.show_nodes-requires-clause-alone
show_nodes-requires-clause-alone g c = subst (λ (nodes : ℕ). NeedsNoTour nodes (labelling_of c.args.labels)) c.number_of_nodes-2.ensures.len (c.in-Some-span_alone.ensures.alone refl)

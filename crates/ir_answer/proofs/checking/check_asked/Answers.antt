use Rattle.std.proofs.Common.{◌≡◌, ◌∙◌, List, None, ap, sym, subst}
use Rattle.ir_model.specs.Plan.{Plan}
use Rattle.ir_model.specs.Topology.{Topology}
use Rattle.ir_model.specs.OfGraph.{topology_of_graph}
use Rattle.ir_core.specs.declared.event.Step.{Step}
use Rattle.ir_core.specs.declared.built.Install.{Install}
use Rattle.ir_core.specs.declared.opening.Opening.{Opening}
use Rattle.ir_core.specs.Opened.{open_refused}
use Rattle.ir_core.specs.Installed as core
use Rattle.ir_trace.specs.Checked.{ArePlansOf}
use Rattle.ir_trace.proofs.CheckedTrace.{over_from}
use Rattle.ir_trace.proofs.Replayed.{replayed_plans}
use Rattle.ir_cli.specs.Openings.{opening_by}
use Rattle.ir_answer.specs.Checks.{AnswersTraceAsked, AnswersCheck, run_with}
use Rattle.ir_answer.specs.Plays.{listing_in}
use Rattle.ir_answer.proofs.Answering.{gives_more}
use Rattle.ir_answer.proofs.Replays.{by_answer}
use Rattle.ir_answer.proofs.checking.check_asked.Goals as goal

-- the plans beside the installs are those of the network
plans_over : (opening : Opening) (net : Topology) (steps : List Step) (installs : List Install) (plans all : List Plan) → opening.topology ≡ net → all ≡ plans
    → core.AreInstallsWithPlans opening steps installs plans → ArePlansOf net installs all
plans_over opening net steps installs plans all over same are =
    subst (λ (n : Topology). ArePlansOf n installs all) over (subst (ArePlansOf opening.topology installs) (sym same) (replayed_plans opening steps installs plans are))

pub answer_trace-requires-clause-plans : goal.answer_trace-requires-clause-plans
answer_trace-requires-clause-plans g c =
    let net = c.args.asked.now.topology in
    let told = c.in-Ok-installs_with_plans_by in
    over_from net told._built.items c.as_slice.result.now
    (plans_over c.in-Ok.opening net c.steps.result.now told._built.items told.plans.items c.as_slice.result.now (ap (λ (o : Opening). o.topology) c.in-Ok.ensures) c.as_slice.ensures.value told.ensures.built)

pub returns-in-Ok-installs_with_plans_by : goal.returns-in-Ok-installs_with_plans_by
returns-in-Ok-installs_with_plans_by g c =
    let w = c.args.words.now in
    let asked = c.args.asked.now in
    let graph = asked.graph in
    let script = listing_in asked.script in
    let installs : List Install = c.in-Ok-installs_with_plans_by._built.items in
    let plans : List Plan = c.in-Ok-installs_with_plans_by.plans.items in
    let told = c.in-Ok-installs_with_plans_by.ensures in
    let are = plans_over c.in-Ok.opening asked.topology c.steps.result.now installs plans c.as_slice.result.now (ap (λ (o : Opening). o.topology) c.in-Ok.ensures) c.as_slice.ensures.value told.built in
    let opening : Opening = opening_by w (topology_of_graph graph) asked.root in
    let same : c.in-Ok.opening ≡ opening = c.in-Ok.ensures ∙ ap (λ (n : Topology). opening_by w n asked.root) c.requires in
    let accepted : open_refused opening ≡ None = subst (λ (o : Opening). open_refused o ≡ None) same told.accepted in
    let over : core.AreInstallsOf opening c.steps.result.now installs = subst (λ (o : Opening). core.AreInstallsOf o c.steps.result.now installs) same told.built.installs_are in
    let all : core.AreInstallsOf opening asked.script.steps.items installs = subst (λ (s : List Step). core.AreInstallsOf opening s installs) c.steps.ensures.steps over in
    gives_more (AnswersTraceAsked w.whole graph c.args.trace.now installs (run_with w asked.topology asked.script.steps.items)) (AnswersCheck graph w script c.args.trace.now asked.root)
    (λ answer h. by_answer graph w script c.args.trace.now asked.root installs (accepted, all) answer
    (subst (λ (n : Topology). AnswersTraceAsked w.whole graph c.args.trace.now installs (run_with w n asked.script.steps.items) answer) c.requires h))
    c.answer_trace.result (c.answer_trace.ensures installs are)

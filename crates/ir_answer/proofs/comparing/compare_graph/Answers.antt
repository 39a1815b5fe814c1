use Rattle.std.proofs.Common.{◌≡◌, ◌≢◌, ◌∙◌, ℕ, List, length, string_bytes, ap, subst}
use Rattle.ir_model.specs.declared.Detour.{Detour}
use Rattle.ir_model.specs.OfGraph.{topology_of_graph}
use Rattle.ir_model.specs.Topology.{Topology}
use Rattle.ir_plan.specs.declared.error.PlanError.{PlanError}
use Rattle.ir_plan.specs.declared.error.PlanError.TheVariants as plans
use Rattle.ir_plan.specs.declared.tour.LabelOrder.TheVariants.{DepthFirst}
use Rattle.ir_plan.specs.Building.{FromRoot, RefusesPlan}
use Rattle.ir_core.specs.declared.event.OpenError.{OpenError}
use Rattle.ir_core.specs.declared.event.OpenError.TheVariants as errors
use Rattle.ir_core.specs.Codes.{open_error_of}
use Rattle.ir_cli.specs.Answer.{Refused}
use Rattle.ir_cli.specs.Kinds.{AreCompared, landmarks_for}
use Rattle.ir_cli.specs.Lines.{opening_line, steps_text}
use Rattle.ir_figures.specs.Compared.{IsComparison}
use Rattle.ir_cli.specs.Openings.{root_name, AnswersRoot}
use Rattle.ir_answer.specs.Compares.{AnswersComparison}
use Rattle.ir_answer.proofs.Answering.{stops_more, of_root}
use Rattle.ir_answer.proofs.comparing.compare_graph.Goals as goal

pub returns-in-Err : goal.returns-in-Err
returns-in-Err g c =
    let graph = c.args.graph.now in
    let name = root_name c.args.words.now in
    let root = c.in_ok-root.root in
    let error : PlanError = c.in-Err.error in
    let told : OpenError = c.from.result in
    let from : told ≡ open_error_of error = c.from.ensures in
    let refuses : error ≢ plans.NoMemory → RefusesPlan (topology_of_graph graph) (FromRoot DepthFirst root) error =
    subst (λ (t : Topology). error ≢ plans.NoMemory → RefusesPlan t (FromRoot DepthFirst root) error) c.in-Ok.ensures c.in-Err.ensures.refused in
    stops_more (λ (line : List ℕ). (told ≢ errors.NoMemory) × (line ≡ opening_line told)) (λ (line : List ℕ). AnswersRoot graph name (AnswersComparison graph) (Refused line))
    (λ line is.
    let other : error ≢ plans.NoMemory = λ same. is.0 (from ∙ ap open_error_of same) in
    of_root graph name (AnswersComparison graph) (Refused line) root c.in_ok-root.ensures.number (error, other, refuses other, is.1 ∙ ap opening_line from))
    c.opening_stop.result c.opening_stop.ensures

pub returns-in-Ok-compare_text : goal.returns-in-Ok-compare_text
returns-in-Ok-compare_text g c =
    let graph = c.args.graph.now in
    let root = c.in_ok-root.root in
    let detours : Detour × Detour × Detour = c.compared_detours-detours.result in
    let text : List ℕ = string_bytes c.in-Ok-compare_text.text in
    let compared : AreCompared (landmarks_for (length graph)) detours =
    subst (λ (n : ℕ). AreCompared (landmarks_for n) detours) c.number_of_nodes.ensures.len c.compared_detours-detours.ensures in
    let comparison : IsComparison (topology_of_graph graph) root detours text =
    subst (λ (net : Topology). IsComparison net root detours text) c.in-Ok.ensures c.in-Ok-compare_text.ensures.text in
    of_root graph (root_name c.args.words.now) (AnswersComparison graph) _ root c.in_ok-root.ensures.number (detours, compared, comparison, ap steps_text c.new.ensures.items)

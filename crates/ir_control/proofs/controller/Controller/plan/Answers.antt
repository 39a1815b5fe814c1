use Rattle.std.proofs.Common.{◌≡◌, subst, ap, ◌∙◌}
use Rattle.std.proofs.lemmas.Result.{err_from_is_err_and}
use Rattle.ir_model.specs.Plan.{Plan}
use Rattle.ir_model.specs.Topology.{Topology}
use Rattle.ir_plan.specs.Building.{Labelling, IsPlanBy}
use Rattle.ir_core.specs.Drafts.{items_of, labelling_by}
use Rattle.ir_control.specs.Changes.{topology_up, labelling_next}
use Rattle.ir_core.specs.declared.board.Board.{Board}
use Rattle.ir_epochs.specs.Entries.{board_of}
use Rattle.ir_epochs.specs.Handles.{published}
use Rattle.ir_epochs.specs.Stamps.{knows}
use Rattle.ir_control.proofs.Numbered.{no_plan}
use Rattle.ir_control.proofs.Unplanned.{later_refused, up_in}
use Rattle.ir_control.proofs.controller.Controller.plan.Goals as goal

pub returns-in_err-plan-clause-answer : goal.returns-in_err-plan-clause-answer
returns-in_err-plan-clause-answer g c =
    let own = c.args.self.now in
    let is = err_from_is_err_and c.from_residual-in_err-plan.result c.from_residual-in_err-plan.ensures.1 in
    rw (is.1, is.2)
    (later_refused (knows own.opening).topology c.topology-topology.result.now (board_of (published own.writer)) c.board-board.result (c.topology-topology.ensures ∙ ap (λ (t : Plan). t.topology) c.plan.ensures) c.board-board.ensures.board own.labels c.args.root (items_of c.in_ok-kept.kept) c.requires _
    c.in_err-plan.ensures.refused)

pub returns-in_err-plan-clause-number : goal.returns-in_err-plan-clause-number
returns-in_err-plan-clause-number g c =
    let is = err_from_is_err_and c.from_residual-in_err-plan.result c.from_residual-in_err-plan.ensures.1 in
    rw (is.1, is.2) (no_plan _)

pub returns-clause-answer : goal.returns-clause-answer
returns-clause-answer g c =
    let own = c.args.self.now in
    let labels : labelling_by own.labels c.args.root (items_of c.in_ok-kept.kept) ≡ labelling_next own c.args.keeps c.args.kind c.args.root = ap (labelling_by own.labels c.args.root) c.in_ok-kept.ensures.kept in
    subst (λ (l : Labelling). IsPlanBy (topology_up own) c.args.kind l c.in_ok-plan.plan) labels
    (subst (λ (b : Board). IsPlanBy (up_in (knows own.opening).topology b) c.args.kind (labelling_by own.labels c.args.root (items_of c.in_ok-kept.kept)) c.in_ok-plan.plan) c.board-board.ensures.board
    (subst (λ (net : Topology). IsPlanBy (up_in net c.board-board.result) c.args.kind (labelling_by own.labels c.args.root (items_of c.in_ok-kept.kept)) c.in_ok-plan.plan) (c.topology-topology.ensures ∙ ap (λ (t : Plan). t.topology) c.plan.ensures) c.in_ok-plan.ensures.made))

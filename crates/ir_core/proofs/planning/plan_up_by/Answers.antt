use Rattle.std.proofs.Common.{◌∙◌, ℕ, List, Bool, ap, subst}
use Rattle.std.specs.Prelude.{IfOk, IfErr}
use Rattle.ir_model.specs.Topology.{Topology, restrict}
use Rattle.ir_plan.specs.Building.{IsPlanBy, RefusesPlan}
use Rattle.ir_core.specs.Drafts.{labelling_of_draft}
use Rattle.ir_core.specs.Board.{links_used}
use Rattle.ir_core.proofs.planning.plan_up_by.Goals as goal

pub returns-clause-made : goal.returns-clause-made
returns-clause-made g c =
    let marks = c.as_slice.ensures.value ∙ c.in_ok-used.ensures.marks ∙ ap (λ (n : ℕ). links_used c.args.board.now n) c.links.ensures.count in
    let over = c.in_ok-over.ensures ∙ ap (λ (up : List Bool). restrict up c.args.topology.now) marks in
    subst (λ (net : Topology). IfOk c.plan_over_by.result (IsPlanBy net c.args.draft.kind (labelling_of_draft c.args.draft))) over c.plan_over_by.ensures.made

pub returns-clause-refused : goal.returns-clause-refused
returns-clause-refused g c =
    let marks = c.as_slice.ensures.value ∙ c.in_ok-used.ensures.marks ∙ ap (λ (n : ℕ). links_used c.args.board.now n) c.links.ensures.count in
    let over = c.in_ok-over.ensures ∙ ap (λ (up : List Bool). restrict up c.args.topology.now) marks in
    subst (λ (net : Topology). IfErr c.plan_over_by.result (RefusesPlan net (labelling_of_draft c.args.draft))) over c.plan_over_by.ensures.refused

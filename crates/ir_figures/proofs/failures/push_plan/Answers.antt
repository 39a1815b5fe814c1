use Rattle.std.proofs.Common.{inl, inr, ◌∷◌, [], codes, refl, subst, sym}
use Rattle.ir_model.specs.Topology.{Topology, node_count}
use Rattle.ir_figures.specs.Made.{HaveNumbers}
use Rattle.ir_plan.specs.Building.{RefusesPlan, labelling_of}
use Rattle.ir_plan.specs.declared.error.PlanError.{PlanError}
use Rattle.ir_plan.specs.declared.error.PlanError.TheVariants.{Empty, Disconnected}
use Rattle.ir_figures.proofs.Results.{on_ok_then}
use Rattle.ir_figures.proofs.failures.push_plan.Goals as goal

pub push_words-requires : goal.push_words-requires
push_words-requires c =
    subst (λ (net : Topology). HaveNumbers c.args.other.now c.args.without (node_count net)) (sym c.in-Ok.ensures.made.over) c.requires.numbers

pub returns-in-Ok : goal.returns-in-Ok
returns-in-Ok c = on_ok_then c.push_words.result (λ told. (told.0, inl (c.in-Ok.plan, c.in-Ok.ensures.made, told.1), told.2)) c.push_words.ensures

pub returns-in-Disconnected : goal.returns-in-Disconnected
returns-in-Disconnected c =
    let refuses : RefusesPlan c.args.net (labelling_of c.args.labels) Disconnected = subst (λ (e : PlanError). RefusesPlan c.args.net (labelling_of c.args.labels) e) c.in-Disconnected.is c.in-Err.ensures.refused in
    on_ok_then c.push_word.result (λ told. (codes "disconnected" ∷ [], inr (inl (refuses.2, refl)), told)) c.push_word.ensures

pub returns-in-Empty : goal.returns-in-Empty
returns-in-Empty c =
    let refuses : RefusesPlan c.args.net (labelling_of c.args.labels) Empty = subst (λ (e : PlanError). RefusesPlan c.args.net (labelling_of c.args.labels) e) c.in-Empty.is c.in-Err.ensures.refused in
    on_ok_then c.push_word-in-Empty.result (λ told. (codes "empty" ∷ [], inr (inr (refuses, refl)), told)) c.push_word-in-Empty.ensures

use Rattle.std.proofs.Common.{Some, arith, refl, sym, subst, length, ◌+◌, ◌∙◌}
use Rattle.ir_plan.specs.Building.{Labelling}
use Rattle.ir_core.specs.Drafts.{items_of}
use Rattle.ir_core.specs.Meaning.{IsMade}
use Rattle.ir_core.specs.Inside.{world_of}
use Rattle.ir_core.specs.Board.{links_used}
use Rattle.ir_core.proofs.Keeps.{newest_known, installed_at}
use Rattle.ir_core.proofs.Refusals.{none_there, install_free}
use Rattle.ir_core.proofs.Installing.{up_in, labels_asked, answers_asked, may_ask, refused_here, asked_here, plan_refused_here, made_plan, installed_here, installed_world}
use Rattle.std.proofs.lemmas.Result.{err_from_is_err_and}
use Rattle.ir_core.proofs.world.World.install.Goals as goal

pub returns-in-Some : goal.returns-in-Some
returns-in-Some g c =
    let n = newest_known _ _ c.self.view_is c.newest-newest.result c.newest-newest.ensures.value in
    let asked = asked_here (world_of c.self.inside) c.nodes.result c.len-epochs.result c.newest-newest.result c.args.root c.install_refusal.result c.nodes.ensures.count (omega (arith, c.self.inside.plans.ok.0, c.len-epochs.ensures)) n c.install_refusal.ensures in
    refused_here (world_of c.self.inside) _ c.self.view_is _ c.args.kind c.args.root _ (asked ∙ c.in-Some.is)

pub returns-in_err-plan : goal.returns-in_err-plan
returns-in_err-plan g c =
    let n = newest_known _ _ c.self.view_is c.newest-newest.result c.newest-newest.ensures.value in
    let asked = asked_here (world_of c.self.inside) c.nodes.result c.len-epochs.result c.newest-newest.result c.args.root c.install_refusal.result c.nodes.ensures.count (omega (arith, c.self.inside.plans.ok.0, c.len-epochs.ensures)) n c.install_refusal.ensures in
    let free = install_free c.nodes.result c.len-epochs.result c.newest-newest.result c.args.root (sym c.install_refusal.ensures ∙ none_there c.install_refusal.result c.in_default.not-Some) in
    let no = err_from_is_err_and c.from_residual.result c.from_residual.ensures.1 in
    rw (no.1, no.2)
    (answers_asked (world_of c.self.inside) c.args.self.now c.self.view_is c.args.keeps c.args.kind c.args.root (items_of c.in-Ok.kept) c.in-Ok.ensures _
    (plan_refused_here (world_of c.self.inside) _ c.self.view_is c.args.kind c.args.root c.newest-newest.result n (asked ∙ none_there c.install_refusal.result c.in_default.not-Some)
    (omega (arith, free.0, c.nodes.ensures.count)) c.self.inside.labels (items_of c.in-Ok.kept) _ c.in_err-plan.ensures.refused))

pub invariant_of-self-2 : goal.invariant_of-self-2
invariant_of-self-2 g c =
    let n = newest_known _ _ c.self.view_is c.newest-newest.result c.newest-newest.ensures.value in
    let free = install_free c.nodes.result c.len-epochs.result c.newest-newest.result c.args.root (sym c.install_refusal.ensures ∙ none_there c.install_refusal.result c.in_default.not-Some) in
    record {
      world = installed_at (world_of c.self.inside) c.self.invariant.world refl (c.len-epochs.result + 1) c.newest-newest.result c.installed-board.result c.in_ok-plan.plan c.self.inside.boards.items c.keep_epoch.new.boards.items c.keep_epoch.new.plans.items
          n (omega (arith, c.self.inside.plans.ok.0, c.len-epochs.ensures, free.1)) free.2 (omega (arith, c.self.inside.plans.ok.0, c.len-epochs.ensures))
          (made_plan _ _ c.args.kind (links_used c.newest-newest.result (length c.self.inside.topology.links)) c.in_ok-plan.plan c.in_ok-plan.ensures.made) c.installed-board.ensures refl c.in-Ok-keep_epoch.ensures.board c.in-Ok-keep_epoch.ensures.plan;
      room = c.self.invariant.room;
    }

pub returns : goal.returns
returns g c =
    let n = newest_known _ _ c.self.view_is c.newest-newest.result c.newest-newest.ensures.value in
    let asked = asked_here (world_of c.self.inside) c.nodes.result c.len-epochs.result c.newest-newest.result c.args.root c.install_refusal.result c.nodes.ensures.count (omega (arith, c.self.inside.plans.ok.0, c.len-epochs.ensures)) n c.install_refusal.ensures in
    let labels = labels_asked (world_of c.self.inside) c.args.self.now c.self.view_is c.args.keeps c.args.kind c.args.root (items_of c.in-Ok.kept) c.in-Ok.ensures in
    installed_here (world_of c.self.inside) _ c.self.view_is _ c.args.kind c.args.root (c.len-epochs.result + 1) c.newest-newest.result c.in_ok-plan.plan _ n
    (asked ∙ none_there c.install_refusal.result c.in_default.not-Some)
    (subst (λ (l : Labelling). IsMade l c.args.kind (up_in (world_of c.self.inside).opening c.newest-newest.result) (Some c.in_ok-plan.plan)) labels c.in_ok-plan.ensures.made) (omega (arith, c.self.inside.plans.ok.0, c.len-epochs.ensures))
    (installed_world (world_of c.self.inside) c.self.invariant.world.plans.some refl (c.len-epochs.result + 1) c.newest-newest.result c.installed-board.result c.in_ok-plan.plan c.self.inside.boards.items c.keep_epoch.new.boards.items c.keep_epoch.new.plans.items
    c.installed-board.ensures refl c.in-Ok-keep_epoch.ensures.board c.in-Ok-keep_epoch.ensures.plan)

pub plan_up_by-requires-clause-labels : goal.plan_up_by-requires-clause-labels
plan_up_by-requires-clause-labels g c = λ κs le.
    may_ask (world_of c.self.inside) c.args.self.now c.self.view_is c.args.keeps c.args.kind c.args.root (items_of c.in-Ok.kept) c.in-Ok.ensures c.self.invariant.world

use Rattle.std.proofs.Common.{refl, ◌++◌, ◌∷◌, [], Some, None, List, ◌∙◌, sym, subst, ap}
use Rattle.ir_core.specs.declared.built.Install.{Install}
use Rattle.ir_core.specs.Installed.{AreBuiltFrom}
use Rattle.ir_core.specs.Meaning.{IsMade}
use Rattle.ir_plan.specs.declared.tour.LabelOrder.{LabelOrder}
use Rattle.ir_plan.specs.Building.{FromRoot}
use Rattle.ir_core.proofs.Controls.{first_built}
use Rattle.ir_core.proofs.built.first_install.Goals as goal

pub returns-in-Ok-push-clause-built : goal.returns-in-Ok-push-clause-built
returns-in-Ok-push-clause-built c =
    let i : Install = record { labels = c.labels-labels.result; kind = c.args.kind; root = c.args.root; up = c.in-Ok.up; kept = None } in
    let is = c.in-Ok-push.ensures.items ∙ ap (λ (xs : List Install). xs ++ i ∷ []) c.in-Ok-with_capacity.ensures.items in
    subst (λ (xs : List Install). AreBuiltFrom c.args.world.now.opening xs (c.args.world.now.opening.first ∷ [])) (sym is)
    (first_built c.args.world.now c.invariant.ensures.world c.requires.history i c.in-Ok.ensures.count c.in-Ok.ensures.marks c.labels-labels.ensures refl
    (subst (λ (n : LabelOrder). IsMade (FromRoot n c.args.root) c.args.kind c.args.world.now.opening.topology (Some c.args.world.now.opening.first)) (sym c.labels-labels.ensures) c.requires.made))

use Rattle.std.proofs.Common.{◌≡◌, ◌∙◌, ℕ, sym, subst}
use Rattle.std.specs.Prelude.{IfOk}
use Rattle.ir_model.specs.declared.Kind.{Kind}
use Rattle.ir_model.specs.declared.Kind.TheVariants.{Landmark}
use Rattle.ir_model.specs.Landmark.{AreMostLinked}
use Rattle.ir_model.specs.Topology.{Topology}
use Rattle.ir_show.specs.Drawing.{ArePlanLandmarks}
use Rattle.ir_show.proofs.draw.plan_landmarks.Goals as goal

pub returns-clause-chosen : goal.returns-clause-chosen
returns-clause-chosen c =
    let plan = c.args.plan.now in
    let t = c.in-Landmark.detour in
    let kind : plan.kind ≡ Landmark t = sym c.kind.ensures ∙ c.in-Landmark.is in
    subst (λ (k : Kind). IfOk c.most_linked.result (λ v. ArePlanLandmarks k plan v.items)) (sym kind)
    (subst (λ (net : Topology). IfOk c.most_linked.result (λ v. AreMostLinked net plan.root t.landmarks v.items)) c.topology.ensures
    (subst (λ (root : ℕ). IfOk c.most_linked.result (λ v. AreMostLinked c.topology.result.now root t.landmarks v.items)) c.root.ensures c.most_linked.ensures.chosen))

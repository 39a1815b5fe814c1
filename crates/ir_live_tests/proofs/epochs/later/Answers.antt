use Rattle.std.proofs.Common.{◌≡◌, ◌∙◌, Option, Some, None, IfSome, List, [], ◌∷◌, Bool, true, length, sym, ap, subst}
use Rattle.ir_model.specs.Topology.{Topology, restrict}
use Rattle.ir_model.specs.Plan.{Plan}
use Rattle.ir_epochs.specs.declared.registry.Stamp.{Stamp}
use Rattle.ir_epochs.specs.Over.{IsOver}
use Rattle.ir_epochs.specs.Stamps.{knows, IsOf}
use Rattle.ir_live_tests.proofs.epochs.later.Goals as goal

-- what follows for each value follows for one that is there
if_there : {T : Type 0} (P Q : T → Type 0) → ((x : T) → P x → Q x) → (o : Option T) → IfSome o P → IfSome o Q
if_there P Q each None h = tt
if_there P Q each (Some x) h = each x h

pub returns-clause-over : goal.returns-clause-over
returns-clause-over c =
    let opening : Topology = (knows c.args.opening.now).topology in
    let plan : Plan = c.in-Ok-build.plan in
    let whole : c.topology-whole.result.now ≡ opening = c.topology-whole.ensures ∙ ap (λ (p : Plan). p.topology) c.plan.ensures in
    let all : List Bool = true ∷ true ∷ [] in
    let made : plan.topology ≡ restrict all opening = c.in-Ok-build.ensures.made.over ∙ c.in-Ok.ensures ∙ ap (restrict all) whole in
    let marks : length all ≡ length opening.links = sym c.if-links-ne2.false ∙ c.links.ensures.count ∙ ap (λ (net : Topology). length net.links) whole in
    let over : IsOver opening plan.topology = ∣ (all, marks, made) ∣₁ in
    if_there (λ (s : Stamp). IsOf c.args.registry.now s × (s.epoch ≡ c.args.epoch) × (knows s ≡ plan)) (λ (s : Stamp). IsOver opening (knows s).topology)
    (λ s told. let P : Plan → Type 0 = λ p. IsOver opening p.topology in subst P (sym told.2) over)
    c.registered.result c.registered.ensures

use Rattle.std.proofs.Common.{◌≡◌, ◌∙◌, List, ap, sym, subst}
use Rattle.ir_model.specs.Topology.{Topology}
use Rattle.ir_core.specs.declared.built.Install.{Install}
use Rattle.ir_core.specs.declared.opening.Opening.{Opening}
use Rattle.ir_trace.specs.Checked.{AreInstalls}
use Rattle.ir_trace.proofs.Replayed.{replayed}
use Rattle.ir_tests.proofs.checks.is_checked_over.Goals as goal

pub is_clean-requires-clause-installs : goal.is_clean-requires-clause-installs
is_clean-requires-clause-installs c =
    let built : List Install = c.in-Ok-installs.built.items in
    let same : c.of-opening.result.topology ≡ c.args.topology.now = ap (λ (o : Opening). o.topology) c.of-opening.ensures ∙ c.in-Ok.ensures in
    let are : AreInstalls c.of-opening.result.topology built = replayed c.of-opening.result _ built c.in-Ok-installs.ensures.built in
    subst (λ (xs : List Install). AreInstalls c.args.topology.now xs) (sym c.as_slice.ensures.value) (subst (λ (n : Topology). AreInstalls n built) same are)

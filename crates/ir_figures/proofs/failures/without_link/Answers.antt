use Rattle.ir_figures.proofs.FailureLines.{over_left, on_text}
use Rattle.ir_figures.proofs.failures.without_link.Goals as goal

pub returns : goal.returns
returns c =
    let plan = c.args.plan.now in
    on_text c.only.result
    (λ left is. over_left plan.topology c.topology-topology.result.now left c.args.l c.links.result c.in_ok-up.up.items c.as_slice.result.now is c.as_slice.ensures.value c.in_ok-up.ensures c.links.ensures.count c.topology-topology.ensures)
    c.only.ensures

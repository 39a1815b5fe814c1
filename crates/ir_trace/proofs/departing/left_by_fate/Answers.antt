use Rattle.std.proofs.Common.{◌≡◌, ◌∙◌, ap, arith}
use Rattle.ir_model.specs.Topology.{node_count}
use Rattle.ir_model.specs.Plan.{Plan}
use Rattle.ir_trace.specs.Row.{Segment}
use Rattle.ir_trace.specs.Checked.{plan_at}
use Rattle.ir_trace.proofs.Inspecting.{part_facts}
use Rattle.ir_trace.proofs.departing.left_by_fate.Goals as goal

pub next_of-next-requires-clause-at : goal.next_of-next-requires-clause-at
next_of-next-requires-clause-at c =
    let t : Plan = plan_at c.args.plans.now c.args.last.now.epoch in
    let facts = part_facts (node_count t.topology) c.args.last.now c.requires.hops in
    let same : node_count c.plan_at.result.now.topology ≡ node_count t.topology = ap (λ (s : Plan). node_count s.topology) (c.plan_at.ensures ∙ ap (λ (p : Segment). plan_at c.args.plans.now p.epoch) c.last.view_is) in
    omega (arith, facts.last, same, c.last_hop-at.ensures)

use Rattle.std.proofs.Common.{◌≡◌, ◌<◌, ◌∙◌, ℕ, sym, ap, subst, arith}
use Rattle.std.specs.Prelude.{length, slice_index}
use Rattle.ir_model.specs.Topology.{ports_of}
use Rattle.ir_model.specs.Interval.{PortInterval}
use Rattle.ir_show.specs.Intervals.{as_interval}
use Rattle.ir_show.specs.WalkText.{interval_with}
use Rattle.ir_show.proofs.Plans.{plan_some}
use Rattle.ir_show.proofs.PlanRows.{plan_interval, port_within, plan_hop}
use Rattle.ir_show.proofs.alone.stop_at.Goals as goal

pub port-requires-clause-port : goal.port-requires-clause-port
port-requires-clause-port c =
    let net = c.args.topology.now in
    let numbers = c.args.numbering.now in
    let row = c.in_ok-row.row in
    let plan = plan_some net c.invariant.ensures.topology c.requires.connected numbers c.requires.labels c.args.kind c.requires.kind (omega (arith, c.requires.node)) in
    let is : as_interval c.interval_with-interval.result ≡ interval_with row (slice_index numbers.labels c.args.to) = c.interval_with-interval.ensures ∙ ap (interval_with row) c.label_of.ensures in
    subst (λ (p : ℕ). p < length (ports_of net c.args.u)) (sym (ap (λ (m : PortInterval). m.port) is))
    (port_within net c.args.kind c.requires.kind numbers plan.0 plan.1 c.args.u c.requires.node row c.in_ok-row.ensures c.args.to c.requires.end c.requires.other)

pub returns-clause-stop : goal.returns-clause-stop
returns-clause-stop c = λ plan is.
    let net = c.args.topology.now in
    let numbers = c.args.numbering.now in
    let row = c.in_ok-row.row in
    let to = c.args.to in
    let same = plan_interval net c.args.kind c.requires.kind numbers plan is c.args.u c.requires.node row c.in_ok-row.ensures to c.requires.end c.requires.other in
    let found : as_interval c.interval_with-interval.result ≡ interval_with row (slice_index numbers.labels to) = c.interval_with-interval.ensures ∙ ap (interval_with row) c.label_of.ensures in
    record {
      before = c.requires.other;
      label = c.label_of-2.ensures ∙ ap (λ xs. slice_index xs c.args.u) (sym is.labels);
      start = ap (λ (m : PortInterval). m.start) (found ∙ same);
      end = ap (λ (m : PortInterval). m.end) (found ∙ same);
      hop = plan_hop net c.args.kind c.requires.kind numbers plan is c.args.u c.requires.node row c.in_ok-row.ensures to c.requires.end c.requires.other c.interval_with-interval.result.port _ (ap (λ (m : PortInterval). m.port) found) c.port.ensures;
    }

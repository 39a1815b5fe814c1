use Rattle.std.proofs.Common.{sym, subst}
use Rattle.ir_model.specs.Topology.{node_count}
use Rattle.ir_trace.specs.Inspect.{AreOver}
use Rattle.ir_trace.proofs.CheckedTrace.{over_from}
use Rattle.ir_trace.proofs.departing.departure_by.Goals as goal

pub first_departure-requires : goal.first_departure-requires
first_departure-requires g c = record {
  topology = c.args.topology.now;
  plans_are = subst (AreOver (node_count c.args.topology.now)) (sym c.as_slice.ensures.value) (over_from c.args.topology.now c.args.installs.now c.in_ok-plans.plans.items c.in_ok-plans.ensures);
  row_is = c.requires.row;
}

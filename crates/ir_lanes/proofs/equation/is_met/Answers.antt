use Rattle.std.proofs.Common.{List, length, subst}
use Rattle.ir_model.specs.declared.Hop.{Hop}
use Rattle.ir_lanes.specs.Lanes.{AreLeastOffers}
use Rattle.ir_lanes.proofs.Starts.{ports_have, ports_light}
use Rattle.ir_lanes.proofs.equation.is_met.Goals as goal

pub least_over-offered-requires : goal.least_over-offered-requires
least_over-offered-requires c =
    let net = c.args.topology.now in
    let ok = c.invariant.ensures.topology in
    let ports = c.ports.result.now in
    record {
      have = ports_have net ok c.args.lanes.now c.requires.lanes c.args.u ports c.ports.ensures;
      light = ports_light net ok c.args.unit c.requires.unit c.args.u ports c.ports.ensures;
      near = c.requires.lanes.near;
    }

pub is_least-requires : goal.is_least-requires
is_least-requires c =
    let lanes = c.args.lanes.now in
    let found = c.least_over-offered.result in
    record {
      node = c.requires.node;
      starts = c.requires.starts;
      lanes = c.requires.lanes;
      offered = subst (λ (hops : List Hop). AreLeastOffers hops c.args.unit (length hops) lanes found) c.ports.ensures
          c.least_over-offered.ensures;
    }

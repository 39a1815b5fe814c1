use Rattle.std.proofs.Common.{◌∙◌, length, drop, ap, arith}
use Rattle.std.proofs.lemmas.List.{length-map, take_at}
use Rattle.ir_lanes.specs.Outward.{lane_port}
use Rattle.ir_lanes.proofs.outward.OutwardLanes.ports_along.Goals as goal

pub put_ports-requires : goal.put_ports-requires
put_ports-requires c = record {
  ways = c.requires.ways;
  lane = c.requires.lane;
  nodes = c.requires.nodes;
  every = omega (arith, c.as_mut_slice.ensures.len, c.in_ok-ports.ensures.len);
}

pub returns : goal.returns
returns c =
    let now = c.put_ports.new.ports in
    let old = c.in_ok-ports.ports.items in
    let long = ap length c.put_ports.ensures ∙ length-map c.args.nodes.now (lane_port c.args.self.now c.args.lane) in
    take_at now (drop (length now) old) c.in_ok-ports.ports.len (omega (arith, long, c.in_ok-ports.ensures.len)) ∙ c.put_ports.ensures

use Rattle.std.proofs.Common.{get_or, refl, arith}
use Rattle.ir_lanes.proofs.Ends.{ended_more}
use Rattle.ir_lanes.proofs.inward.put_ends.Goals as goal

pub loop-lane-init : goal.loop-lane-init
loop-lane-init c = record {
  near = c.requires.near;
  begun = λ k less k_in. absurd (omega (arith, less));
  empty = λ k v ge k_in v_in. c.requires.empty k v k_in v_in;
}

pub loop-lane-preserved : goal.loop-lane-preserved
loop-lane-preserved c =
    let lane = c.loop-lane.lane in
    let lane_in = c.loop-lane-test.true in
    let ends = c.args.ends.now in
    let end_in = c.requires.nodes lane lane_in in
    ended_more c.args.topology.now ends lane (get_or ends lane 0) c.loop-lane.starts lane_in refl end_in
    c.loop-lane.invariant

pub returns : goal.returns
returns c =
    let i = c.loop-lane.invariant in
    record { near = i.near; starts = λ k k_in. i.begun k (omega (arith, k_in, c.loop-lane-test.false)) k_in }

use Rattle.std.proofs.Common.{arith}
use Rattle.ir_lanes.proofs.inward.near_ends.Goals as goal

pub bounds-ends-lane : goal.bounds-ends-lane
bounds-ends-lane c = omega (arith, c.loop-lane-test.true, c.requires.sixteen)

pub near_end-requires : goal.near_end-requires
near_end-requires c = record {
  node = c.requires.nodes c.loop-lane.lane c.loop-lane-test.true;
  lane = c.loop-lane-test.true;
  near = c.loop-lane.invariant;
}

pub loop-lane-preserved : goal.loop-lane-preserved
loop-lane-preserved c = c.near_end.ensures

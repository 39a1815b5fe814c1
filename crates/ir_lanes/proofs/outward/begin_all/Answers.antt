use Rattle.std.proofs.Common.{arith}
use Rattle.ir_lanes.proofs.Starts.{begun_more}
use Rattle.ir_lanes.proofs.outward.begin_all.Goals as goal

pub loop-lane-init : goal.loop-lane-init
loop-lane-init c = record { near = c.requires.near; begun = λ k none. absurd (omega (arith, none)); empty = λ k v any. c.requires.empty k v }

pub bounds-sources-lane : goal.bounds-sources-lane
bounds-sources-lane c = omega (arith, c.loop-lane-test.true, c.requires.sixteen)

pub begin-requires-clause-unit : goal.begin-requires-clause-unit
begin-requires-clause-unit c = c.requires.unit

pub begin-requires-clause-node : goal.begin-requires-clause-node
begin-requires-clause-node c = c.requires.nodes c.loop-lane.lane c.loop-lane-test.true

pub begin-requires-clause-ports : goal.begin-requires-clause-ports
begin-requires-clause-ports c = c.requires.ports _ (c.requires.nodes c.loop-lane.lane c.loop-lane-test.true)

pub begin-requires-clause-lane : goal.begin-requires-clause-lane
begin-requires-clause-lane c = c.loop-lane-test.true

pub begin-requires-clause-near : goal.begin-requires-clause-near
begin-requires-clause-near c = c.loop-lane.invariant.near

pub begin-requires-clause-empty : goal.begin-requires-clause-empty
begin-requires-clause-empty c v v_in = c.loop-lane.invariant.empty c.loop-lane.lane v (omega arith) c.loop-lane-test.true v_in

pub loop-lane-preserved : goal.loop-lane-preserved
loop-lane-preserved c =
    let made = c.begin.ensures in
    begun_more c.args.topology.now c.args.unit c.args.sources.now c.loop-lane.lane c.loop-lane.starts c.begin.new.starts c.loop-lane.invariant made.near made.begun made.others

pub returns-clause-near : goal.returns-clause-near
returns-clause-near c = c.loop-lane.invariant.near

pub returns-clause-starts : goal.returns-clause-starts
returns-clause-starts c k k_in = c.loop-lane.invariant.begun k (omega (arith, k_in, c.loop-lane-test.false)) k_in

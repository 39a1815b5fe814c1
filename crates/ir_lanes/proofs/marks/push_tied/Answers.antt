use Rattle.std.proofs.Common.{◌+◌, refl, slice_index}
use Rattle.ir_lanes.proofs.PortLanes.{ports_none, ports_more}
use Rattle.ir_lanes.proofs.marks.push_tied.Goals as goal

pub loop-p-init : goal.loop-p-init
loop-p-init c = ports_none c.args.words.now c.args.begin

pub loop-p-preserved : goal.loop-p-preserved
loop-p-preserved c =
    ports_more c.args.words.now c.args.begin c.loop-p.p (slice_index c.args.words.now (c.args.begin + c.loop-p.p)) c.loop-p.lanes c.with_port-lanes.result refl c.loop-p.invariant c.with_port-lanes.ensures

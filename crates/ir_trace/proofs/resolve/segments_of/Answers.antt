use Rattle.std.proofs.Common.{arith, refl}
use Rattle.ir_trace.proofs.ReadHops.{parts_more, no_parts_at}
use Rattle.ir_trace.proofs.resolve.segments_of.Goals as goal

pub returns-in_default : goal.returns-in_default
returns-in_default c = no_parts_at c.args.graph.now c.args.spellings.now c.loop-spelling.spelling-index _ (omega arith) (rw c.in_default.is at c.in_ok-hops.ensures)

pub loop-spelling-preserved : goal.loop-spelling-preserved
loop-spelling-preserved c =
    let hops = rw c.in-Some.is at c.in_ok-hops.ensures in
    parts_more c.args.graph.now c.args.spellings.now c.loop-spelling.spelling-index _ c.loop-spelling.segments.items c.push.new.self.items (record { epoch = _; hops = c.in-Some.hops.items }) (omega arith) c.in_ok-push.ensures.items refl hops c.loop-spelling.invariant

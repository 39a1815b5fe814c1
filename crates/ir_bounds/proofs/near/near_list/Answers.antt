use Rattle.std.proofs.Common.{◌+◌, ◌*◌, ℕ, refl}
use Rattle.ir_bounds.proofs.Parts.{parts_more}
use Rattle.ir_bounds.proofs.near.near_list.Goals as goal

pub loop-lane-preserved : goal.loop-lane-preserved
loop-lane-preserved c =
    let net = c.args.topology.now in
    let landmarks = c.args.owners.now.landmarks.items in
    let list = c.loop-lane.list.items in
    let part = c.in_ok-part.part.items in
    let first : ℕ = c.args.batch * 16 in
    let put = rw c.as_slice.ensures.value at c.in_ok-extend_from_slice.ensures.items in
    rw put (parts_more list part net landmarks c.args.stretch first c.loop-lane.lane (first + c.loop-lane.lane) refl c.loop-lane.invariant c.in_ok-part.ensures)

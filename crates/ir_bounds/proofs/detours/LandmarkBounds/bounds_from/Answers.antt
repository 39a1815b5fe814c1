use Rattle.std.proofs.Common.{◌≡◌, ℕ, List, length, drop, ap, arith}
use Rattle.std.proofs.lemmas.List.{take_at}
use Rattle.ir_bounds.specs.Bounds.{AreBoundsFrom}
use Rattle.ir_bounds.proofs.Parts.{put_are_bounds}
use Rattle.ir_bounds.proofs.detours.LandmarkBounds.bounds_from.Goals as goal

pub put_bounds-requires-clause-nodes : goal.put_bounds-requires-clause-nodes
put_bounds-requires-clause-nodes c =
    let every : length c.as_mut_slice.result.now ≡ length c.in_ok-row.row.items = ap length c.as_mut_slice.ensures.value in
    λ j lt. (let l = (c.part-begin.ensures.near.each j lt).0 in omega (arith, l, every, c.in_ok-row.ensures.every))

pub returns : goal.returns
returns c =
    let self = c.args.self.now in
    let old : List ℕ = c.in_ok-row.row.items in
    let row : List ℕ = c.put_bounds.new.row in
    let put = rw c.as_mut_slice.ensures.value at c.put_bounds.ensures in
    let bounds : AreBoundsFrom c.args.topology.now self.owners.landmarks.items self.stretch c.args.u row =
    put_are_bounds c.args.topology.now self.owners.landmarks.items self.stretch c.args.u c.part-begin.result.0.now c.part-begin.result.1 old row c.part-begin.ensures c.in_ok-row.ensures put in
    let back = take_at row (drop (length row) old) c.in_ok-row.row.len (omega (arith, bounds.every, c.in_ok-row.ensures.every, c.in_ok-row.row.ok.0)) in
    rw back bounds

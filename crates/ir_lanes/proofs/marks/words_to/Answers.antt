use Rattle.std.proofs.Common.{◌≡◌, ◌<◌, ◌+◌, ◌-◌, ◌*◌, min, ℕ, List, length, slice_index, arith, sym, subst}
use Rattle.ir_lanes.specs.Inward.{ArePortWords}
use Rattle.ir_lanes.proofs.marks.words_to.Goals as goal

pub words_toward-requires-clause-nodes : goal.words_toward-requires-clause-nodes
words_toward-requires-clause-nodes c k k_in =
    let order = c.args.order.now in
    let place : ℕ = min (c.args.batch * 16 + k) (length order - 1) in
    let in_order : place < length order = omega (arith, c.requires.batch) in
    let node : slice_index c.as_slice.result.now k ≡ slice_index order place =
    subst (λ (xs : List ℕ). slice_index xs k ≡ slice_index order place) (sym c.as_slice.ensures.value) (c.in_ok-ends.ensures.each k k_in) in
    omega (arith, node, c.requires.nodes place in_order)

pub returns : goal.returns
returns c =
    let ends : List ℕ = c.in_ok-ends.ends.items in
    let words : List ℕ = c.in-Some.words.items in
    let told = rw c.in-Some.is at c.in_ok-words.ensures in
    record { ends = ends; sixteen = c.in_ok-ends.ensures; told = subst (λ (xs : List ℕ). ArePortWords c.args.topology.now xs words) c.as_slice.ensures.value told }

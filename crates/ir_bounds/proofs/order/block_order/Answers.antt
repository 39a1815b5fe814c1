use Rattle.std.proofs.Common.{◌≡◌, ◌≤◌, ◌<◌, ℕ, List, length, subst, arith}
use Rattle.std.specs.Prelude.{slice_index}
use Rattle.std.proofs.lemmas.List.{get_or_read}
use Rattle.std.proofs.lemmas.List.Elements.{All-get_or}
use Rattle.ir_model.specs.Topology.{node_count}
use Rattle.ir_model.specs.Numbering.{IsDepthFirst}
use Rattle.ir_model.specs.Landmark.{followers}
use Rattle.ir_model.proofs.Reach.{connected_distances}
use Rattle.ir_numbering.specs.Search.{list_at, IsClosed}
use Rattle.ir_bounds.proofs.Blocks.{followers_below, blocks_found}
use Rattle.ir_bounds.proofs.order.block_order.Goals as goal

pub follower_lists-requires-clause-some : goal.follower_lists-requires-clause-some
follower_lists-requires-clause-some c = let are = c.requires.landmarks in rw c.as_slice.ensures.value are.some

pub follower_lists-requires-clause-parents : goal.follower_lists-requires-clause-parents
follower_lists-requires-clause-parents c = rw c.as_slice-2.ensures.value c.in_ok-parents.ensures.every

pub search_lists-requires-clause-nodes : goal.search_lists-requires-clause-nodes
search_lists-requires-clause-nodes c =
    let net = c.args.topology.now in
    let landmarks : List ℕ = c.args.owners.now.landmarks.items in
    let lists = c.in_ok-lists.lists.items in
    let every : length lists ≡ node_count net = c.in_ok-lists.ensures.every in
    let parent : ℕ → ℕ = slice_index c.in_ok-parents.parents.items in
    let same : (u : ℕ) → u < node_count net → list_at lists u ≡ followers net landmarks parent u = rw (c.as_slice.ensures.value, c.as_slice-2.ensures.value) at c.in_ok-lists.ensures.each in
    rw c.as_slice-3.ensures.value
    (λ u lt.
    let below = followers_below net c.invariant.ensures.topology landmarks c.requires.landmarks parent u in
    rw (every, same u (omega (arith, lt, every))) below)

pub search_lists-requires-clause-root : goal.search_lists-requires-clause-root
search_lists-requires-clause-root c =
    let landmarks : List ℕ = c.args.owners.now.landmarks.items in
    let are = c.requires.landmarks in
    let first = get_or_read landmarks 0 c.index.result.now are.some c.index.ensures 0 in
    let first_in = All-get_or (λ l. l < node_count c.args.topology.now) landmarks 0 0 are.some are.nodes in
    rw c.as_slice-3.ensures.value (omega (arith, first, first_in, c.in_ok-lists.ensures.every))

pub returns : goal.returns
returns c =
    let net = c.args.topology.now in
    let ok = c.invariant.ensures.topology in
    let landmarks : List ℕ = c.args.owners.now.landmarks.items in
    let are = c.requires.landmarks in
    let lists = c.in_ok-lists.lists.items in
    let every : length lists ≡ node_count net = c.in_ok-lists.ensures.every in
    let parent : ℕ → ℕ = slice_index c.in_ok-parents.parents.items in
    let same : (u : ℕ) → u < node_count net → list_at lists u ≡ followers net landmarks parent u = rw (c.as_slice.ensures.value, c.as_slice-2.ensures.value) at c.in_ok-lists.ensures.each in
    let root = c.index.result.now in
    let order = c.in_ok-order.order.nodes.items in
    let places = c.in_ok-order.order.parents.items in
    let all : length lists ≤ length order → IsDepthFirst (list_at lists) (length lists) root order places = rw c.as_slice-3.ensures.value at c.in_ok-order.ensures.all in
    let some : length order < length lists → IsClosed (list_at lists) root order = rw c.as_slice-3.ensures.value at c.in_ok-order.ensures.some in
    blocks_found net ok (connected_distances net ok c.requires.connected) landmarks are parent c.in_ok-parents.ensures.each (list_at lists) same root (get_or_read landmarks 0 root are.some c.index.ensures 0) order places
    (subst (λ (n : ℕ). n ≤ length order → IsDepthFirst (list_at lists) n root order places) every all) (subst (λ (n : ℕ). length order < n → IsClosed (list_at lists) root order) every some)

use Rattle.std.proofs.Common.{◌≡◌, ◌∙◌, ◌%◌, ℕ, List, replicate, sym, subst, ap, arith}
use Rattle.std.proofs.lemmas.List.{get_or_read}
use Rattle.std.specs.BinaryHeap.{heap_items}
use Rattle.ir_model.specs.Topology.{node_count}
use Rattle.ir_tables.specs.Keys.{KeyEntry, Only}
use Rattle.ir_tables.specs.Relaxation.{at}
use Rattle.ir_bounds.specs.Searches.{IsSearching}
use Rattle.ir_bounds.proofs.Searching.{IsPopped, popped, popped_fresh, popped_stale, search_start, search_done}
use Rattle.ir_bounds.proofs.search.weights_within.Goals as goal

pub loop-entry-init : goal.loop-entry-init
loop-entry-init c =
    let net = c.args.topology.now in
    let start = search_start net c.args.u c.args.reaches.now c.requires.node (heap_items c.new-waiting.result) (heap_items c.push.new.self) c.new-waiting.ensures.items c.in_ok-push.ensures.permutation in
    let items : c.in_ok-weights.weights.items ≡ replicate (node_count net) 4294967295 = c.in_ok-weights.ensures.items_if_clones_equal (λ y e. e) ∙ ap (λ (n : ℕ). replicate n 4294967295) c.nodes.ensures.count in
    rw items start

pub index-requires : goal.index-requires
index-requires c =
    let is : IsPopped c.args.topology.now c.in-Some.field-0.0 = popped c.args.topology.now c.nodes.ensures.topology c.args.u c.args.reaches.now c.loop-entry.weights.items (heap_items c.loop-entry.waiting) (heap_items c.pop.new.self)
    c.in-Some.field-0 c.in-Some.ensures.permutation c.loop-entry.invariant in
    omega (arith, is.node_in, c.loop-entry.invariant.every, c.loop-entry.weights.ok.0)

pub go_on-requires-clause-node : goal.go_on-requires-clause-node
go_on-requires-clause-node c =
    let is : IsPopped c.args.topology.now c.in-Some.field-0.0 = popped c.args.topology.now c.nodes.ensures.topology c.args.u c.args.reaches.now c.loop-entry.weights.items (heap_items c.loop-entry.waiting) (heap_items c.pop.new.self)
    c.in-Some.field-0 c.in-Some.ensures.permutation c.loop-entry.invariant in
    is.node_in

pub go_on-requires-clause-so_far : goal.go_on-requires-clause-so_far
go_on-requires-clause-so_far c =
    let e : KeyEntry = c.in-Some.field-0 in
    let P : List ℕ → Type 0 = λ ws. IsSearching c.args.topology.now c.args.u c.args.reaches.now (Only (e.0 % 65536)) ws (heap_items c.pop.new.self) in
    subst P (sym c.as_mut_slice.ensures.value)
    (popped_fresh c.args.topology.now c.nodes.ensures.topology c.args.u c.args.reaches.now c.loop-entry.weights.items (heap_items c.loop-entry.waiting) (heap_items c.pop.new.self) e c.in-Some.ensures.permutation c.loop-entry.invariant)

pub loop-entry-preserved : goal.loop-entry-preserved
loop-entry-preserved c =
    let e : KeyEntry = c.in-Some.field-0 in
    let ws : List ℕ = c.loop-entry.weights.items in
    let is : IsPopped c.args.topology.now e.0 = popped c.args.topology.now c.nodes.ensures.topology c.args.u c.args.reaches.now ws (heap_items c.loop-entry.waiting) (heap_items c.pop.new.self) e c.in-Some.ensures.permutation c.loop-entry.invariant in
    let read : c.index.result.now ≡ at ws (e.0 % 65536) = get_or_read ws (e.0 % 65536) c.index.result.now (omega (arith, is.node_in, c.loop-entry.invariant.every)) c.index.ensures 0 in
    popped_stale c.args.topology.now c.nodes.ensures.topology c.args.u c.args.reaches.now ws (heap_items c.loop-entry.waiting) (heap_items c.pop.new.self) e c.in-Some.ensures.permutation
    (λ same. c.if-entry-index.false (same ∙ sym read)) c.loop-entry.invariant

pub returns : goal.returns
returns c =
    let none = c.in_default.ensures.none in
    let held = c.loop-entry.waiting.data.ok.0 in
    search_done c.args.topology.now c.nodes.ensures.topology c.args.u c.args.reaches.now c.loop-entry.weights.items (heap_items c.loop-entry.waiting) c.requires.node c.requires.connected c.requires.slow (omega (arith, none, held)) c.loop-entry.invariant

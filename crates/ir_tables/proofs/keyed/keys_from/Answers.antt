use Rattle.std.proofs.Common.{◌≡◌, ◌<◌, ◌≤◌, ◌∷◌, ◌++◌, ◌%◌, ℕ, Bool, true, false, List, length, sum, drop, replicate, ⊎_elim, arith, subst, sym, ap, ◌∙◌}
use Rattle.std.specs.Prelude.{IsPermutation}
use Rattle.std.proofs.lemmas.Bool.{cases_lt}
use Rattle.std.proofs.lemmas.List.{get_or_read, length-append, take_at}
use Rattle.std.proofs.lemmas.List.Sorted.{length_permutation}
use Rattle.std.specs.BinaryHeap.{heap_items}
use Rattle.ir_model.specs.Topology.{node_count}
use Rattle.ir_tables.specs.Relaxation.{at}
use Rattle.ir_tables.specs.Keys.{KeyEntry, IsKeying, KeepsFresh, keys_waiting, Only}
use Rattle.ir_tables.proofs.KeySteps.{Popped, popped, popped_fresh, keying_start, keying_empty}
use Rattle.ir_tables.proofs.Waiting.{gone, left_near, keying_kept, stale_key}
use Rattle.ir_tables.proofs.keyed.keys_from.Goals as goal

pub loop-frontier-init : goal.loop-frontier-init
loop-frontier-init c =
    let start = keying_start c.args.topology.now c.args.u c.requires (keys_waiting c.new-frontier.result) (keys_waiting c.push.new.self) c.new-frontier.ensures c.in_ok-push.ensures.waits in
    let items : c.in_ok-keys.keys.items ≡ replicate (node_count c.args.topology.now) 281474976645120 =
    c.in_ok-keys.ensures.items_if_clones_equal (λ y e. e) ∙ ap (λ n. replicate n 281474976645120) c.nodes.ensures.count in
    rw items start

pub loop-frontier-preserved-in_default : goal.loop-frontier-preserved-in_default
loop-frontier-preserved-in_default c =
    let ks : List ℕ = c.loop-frontier.keys.items in
    let P : List KeyEntry → Type 0 = λ es. KeepsFresh ks (es ++ c.loop-frontier.frontier.far.items) (keys_waiting c.bring_near.new.self) in
    let Q : List ℕ → Type 0 = λ keys. KeepsFresh keys (heap_items c.pop.new.self ++ c.loop-frontier.frontier.far.items) (keys_waiting c.bring_near.new.self) in
    keying_kept c.args.topology.now c.nodes.ensures.topology c.args.u ks (keys_waiting c.loop-frontier.frontier) (keys_waiting c.bring_near.new.self)
    (subst P c.in_default.ensures.unchanged.0 (subst Q c.as_slice.ensures.value c.in_ok-bring_near.ensures.fresh)) c.loop-frontier.invariant

apart : (b : Bool) → b ≡ true → b ≡ false → ⊥
apart b t f = cc (t, f)

pub bring_near-requires : goal.bring_near-requires
bring_near-requires c =
    let far : List KeyEntry = c.loop-frontier.frontier.far.items in
    let near : List KeyEntry = heap_items c.loop-frontier.frontier.near in
    let none = c.in_default.ensures.none in
    let held = c.loop-frontier.frontier.near.data.ok.0 in
    record {
      far = ⊎_elim (λ (some : 0 < length far). some)
          (λ (empty : length far ≤ 0). absurd (apart c.is_empty.result (c.is_empty.ensures.1 (length-append near far ∙ omega (arith, none, held, empty))) c.loop-frontier-test.true))
          (cases_lt 0 (length far));
    }

pub index-requires : goal.index-requires
index-requires c =
    let e : KeyEntry = c.in-Some.field-0 in
    let far : List KeyEntry = c.loop-frontier.frontier.far.items in
    let near : List KeyEntry = heap_items c.pop.new.self in
    let is : Popped c.args.topology.now e.0 = popped c.args.topology.now c.nodes.ensures.topology c.args.u c.loop-frontier.keys.items (keys_waiting c.loop-frontier.frontier) (near ++ far) e
    (left_near e (heap_items c.loop-frontier.frontier.near) near far c.in-Some.ensures.permutation) c.loop-frontier.invariant in
    omega (arith, is.node_in, c.loop-frontier.invariant.ways.every, c.loop-frontier.keys.ok.0)

pub offer-requires-clause-node : goal.offer-requires-clause-node
offer-requires-clause-node c =
    let e : KeyEntry = c.in-Some.field-0 in
    let far : List KeyEntry = c.loop-frontier.frontier.far.items in
    let near : List KeyEntry = heap_items c.pop.new.self in
    let is : Popped c.args.topology.now e.0 = popped c.args.topology.now c.nodes.ensures.topology c.args.u c.loop-frontier.keys.items (keys_waiting c.loop-frontier.frontier) (near ++ far) e
    (left_near e (heap_items c.loop-frontier.frontier.near) near far c.in-Some.ensures.permutation) c.loop-frontier.invariant in
    is.node_in

pub offer-requires-clause-so_far : goal.offer-requires-clause-so_far
offer-requires-clause-so_far c =
    let e : KeyEntry = c.in-Some.field-0 in
    let far : List KeyEntry = c.loop-frontier.frontier.far.items in
    let near : List KeyEntry = heap_items c.pop.new.self in
    let P : List ℕ → Type 0 = λ ks. IsKeying c.args.topology.now c.args.u (Only (e.0 % 65536)) ks (near ++ far) in
    subst P (sym c.as_mut_slice.ensures.value)
    (popped_fresh c.args.topology.now c.nodes.ensures.topology c.args.u c.loop-frontier.keys.items (keys_waiting c.loop-frontier.frontier) (near ++ far) e
    (left_near e (heap_items c.loop-frontier.frontier.near) near far c.in-Some.ensures.permutation) c.loop-frontier.invariant)

pub loop-frontier-preserved : goal.loop-frontier-preserved
loop-frontier-preserved c =
    let ks : List ℕ = c.loop-frontier.keys.items in
    let e : KeyEntry = c.in-Some.field-0 in
    let far : List KeyEntry = c.loop-frontier.frontier.far.items in
    let near : List KeyEntry = heap_items c.pop.new.self in
    let moved : IsPermutation (keys_waiting c.loop-frontier.frontier) (e ∷ (near ++ far)) = left_near e (heap_items c.loop-frontier.frontier.near) near far c.in-Some.ensures.permutation in
    let is : Popped c.args.topology.now e.0 = popped c.args.topology.now c.nodes.ensures.topology c.args.u ks (keys_waiting c.loop-frontier.frontier) (near ++ far) e moved c.loop-frontier.invariant in
    let read : c.index.result.now ≡ at ks (e.0 % 65536) = get_or_read ks (e.0 % 65536) c.index.result.now (omega (arith, is.node_in, c.loop-frontier.invariant.ways.every)) c.index.ensures 0 in
    keying_kept c.args.topology.now c.nodes.ensures.topology c.args.u ks (keys_waiting c.loop-frontier.frontier) (near ++ far)
    (gone ks e (keys_waiting c.loop-frontier.frontier) (near ++ far) moved (stale_key ks e (λ same. c.if-waiting-index.false (same ∙ sym read)))) c.loop-frontier.invariant

pub loop-frontier-smaller-in-Continue-branch-4 : goal.loop-frontier-smaller-in-Continue-branch-4
loop-frontier-smaller-in-Continue-branch-4 c =
    let ks : List ℕ = c.loop-frontier.keys.items in
    let len : length c.offer.new.keys ≡ length ks = c.offer.auto.keys ∙ ap length c.as_mut_slice.ensures.value in
    let back = ap sum (take_at c.offer.new.keys (drop (length c.offer.new.keys) ks) c.loop-frontier.keys.len (omega (arith, len, c.loop-frontier.keys.ok.0))) in
    let given = ap sum c.as_mut_slice.ensures.value in
    let gone = length_permutation (heap_items c.loop-frontier.frontier.near) (c.in-Some.field-0 ∷ heap_items c.pop.new.self) c.in-Some.ensures.permutation in
    let falls = c.in_ok-offer.ensures.falls in
    omega (arith, back, given, gone, falls)

pub returns : goal.returns
returns c =
    keying_empty c.args.topology.now c.nodes.ensures.topology c.args.u c.loop-frontier.keys.items (keys_waiting c.loop-frontier.frontier) (c.is_empty.ensures.0 c.loop-frontier-test.false) c.loop-frontier.invariant

pub loop-frontier-smaller-in_default : goal.loop-frontier-smaller-in_default
loop-frontier-smaller-in_default c =
    let same = ap (λ (es : List KeyEntry). length es) c.in_default.ensures.unchanged.0 in
    let falls = c.in_ok-bring_near.ensures.load in
    omega (arith, same, falls)

pub loop-frontier-smaller : goal.loop-frontier-smaller
loop-frontier-smaller c =
    let gone = length_permutation (heap_items c.loop-frontier.frontier.near) (c.in-Some.field-0 ∷ heap_items c.pop.new.self) c.in-Some.ensures.permutation in
    omega (arith, gone)

use Rattle.std.proofs.Common.{◌≡◌, ◌≤◌, ◌∙◌, ℕ, List, [], length, ap, sym, subst, arith}
use Rattle.std.specs.Prelude.{slice_index, slice_index_or}
use Rattle.std.proofs.lemmas.List.{get_or_read}
use Rattle.ir_model.specs.Topology.{node_count, ports_of}
use Rattle.ir_model.specs.Landmark.{IsLandmarkBound}
use Rattle.ir_model.proofs.Landmarks.{landmark_bound_one}
use Rattle.ir_tables.specs.FromNode.{AreFrom}
use Rattle.ir_bounds.specs.Bounds.{held_lists}
use Rattle.ir_bounds.specs.Near.{IsWayRound, entry_node, entry_bound}
use Rattle.ir_bounds.specs.Words.{IsLedWord, IsWordBy}
use Rattle.ir_bounds.proofs.Numbers.{owner_in, lists_length}
use Rattle.ir_bounds.proofs.Parts.{read_list}
use Rattle.ir_bounds.proofs.LedWords.{owner_from, own_begun, settle, settled_all, word_leads}
use Rattle.ir_bounds.proofs.words.put_own.Goals as goal

pub loop-j-init : goal.loop-j-init
loop-j-init c =
    let numbers = c.args.numbering.now in
    let held = c.args.held.now in
    let list : List ℕ = c.part-begin.result.0.now in
    let begin : ℕ = c.part-begin.result.1 in
    own_begun c.args.topology.now c.invariant.ensures.topology held.owners.landmarks.items held.stretch numbers.order numbers.labels c.requires.labels c.args.u (slice_index list begin) (entry_node list begin) (entry_bound list begin)
    c.args.words.now c.part-begin.ensures.near c.requires.words

pub index-slot-requires : goal.index-slot-requires
index-slot-requires c =
    let net = c.args.topology.now in
    let ok = c.invariant.ensures.topology in
    let u : ℕ = c.args.u in
    let numbers = c.args.numbering.now in
    let held = c.args.held.now in
    let owners = held.owners in
    let landmarks = owners.landmarks.items in
    let around = c.requires.bounds.around in
    let lists : List (List ℕ) = held_lists owners.away.items in
    let list : List ℕ = c.part-begin.result.0.now in
    let begin : ℕ = c.part-begin.result.1 in
    let j : ℕ = c.loop-j.j in
    let entry = c.part-begin.ensures.near.each j (omega (arith, c.loop-j-test.true, c.loop-j.auto.j-end)) in
    let node : ℕ = entry_node list begin j in
    let named = c.entry-node.ensures.node in
    let of = c.requires.bounds.owners.each node entry.0 in
    let owner : ℕ = slice_index owners.nodes.items node in
    let radius : ℕ = slice_index owners.radii.items node in
    let l = owner_in net ok landmarks node owner radius of in
    let owner_is : c.index.result.now ≡ owner = get_or_read owners.nodes.items c.entry-node.result.0 c.index.result.now (omega (arith, named, entry.0, c.requires.bounds.owners.nodes_len)) c.index.ensures 0 ∙ ap (slice_index owners.nodes.items) named in
    omega (arith, owner_is, l.0, around.every, owners.slots.ok.0)

pub index-requires-in-loop-j : goal.index-requires-in-loop-j
index-requires-in-loop-j c =
    let net = c.args.topology.now in
    let ok = c.invariant.ensures.topology in
    let u : ℕ = c.args.u in
    let numbers = c.args.numbering.now in
    let held = c.args.held.now in
    let owners = held.owners in
    let landmarks = owners.landmarks.items in
    let around = c.requires.bounds.around in
    let lists : List (List ℕ) = held_lists owners.away.items in
    let list : List ℕ = c.part-begin.result.0.now in
    let begin : ℕ = c.part-begin.result.1 in
    let j : ℕ = c.loop-j.j in
    let entry = c.part-begin.ensures.near.each j (omega (arith, c.loop-j-test.true, c.loop-j.auto.j-end)) in
    let node : ℕ = entry_node list begin j in
    let named = c.entry-node.ensures.node in
    let of = c.requires.bounds.owners.each node entry.0 in
    let owner : ℕ = slice_index owners.nodes.items node in
    let radius : ℕ = slice_index owners.radii.items node in
    let l = owner_in net ok landmarks node owner radius of in
    let owner_is : c.index.result.now ≡ owner = get_or_read owners.nodes.items c.entry-node.result.0 c.index.result.now (omega (arith, named, entry.0, c.requires.bounds.owners.nodes_len)) c.index.ensures 0 ∙ ap (slice_index owners.nodes.items) named in
    let from = owner_from net landmarks owners.slots.items lists around.slots around.away node owner radius of in
    let slot_is : c.index-slot.result.now ≡ slice_index owners.slots.items owner = get_or_read owners.slots.items c.index.result.now c.index-slot.result.now (omega (arith, owner_is, l.0, around.every)) c.index-slot.ensures 0 ∙ ap (slice_index owners.slots.items) owner_is in
    let e = lists_length owners.away.items in
    omega (arith, slot_is, from.0, e, around.lists, owners.away.ok.0)

pub led_word-requires-clause-every : goal.led_word-requires-clause-every
led_word-requires-clause-every c =
    let net = c.args.topology.now in
    let ok = c.invariant.ensures.topology in
    let u : ℕ = c.args.u in
    let numbers = c.args.numbering.now in
    let held = c.args.held.now in
    let owners = held.owners in
    let landmarks = owners.landmarks.items in
    let around = c.requires.bounds.around in
    let lists : List (List ℕ) = held_lists owners.away.items in
    let list : List ℕ = c.part-begin.result.0.now in
    let begin : ℕ = c.part-begin.result.1 in
    let j : ℕ = c.loop-j.j in
    let entry = c.part-begin.ensures.near.each j (omega (arith, c.loop-j-test.true, c.loop-j.auto.j-end)) in
    let node : ℕ = entry_node list begin j in
    let named = c.entry-node.ensures.node in
    let of = c.requires.bounds.owners.each node entry.0 in
    let owner : ℕ = slice_index owners.nodes.items node in
    let radius : ℕ = slice_index owners.radii.items node in
    let l = owner_in net ok landmarks node owner radius of in
    let owner_is : c.index.result.now ≡ owner = get_or_read owners.nodes.items c.entry-node.result.0 c.index.result.now (omega (arith, named, entry.0, c.requires.bounds.owners.nodes_len)) c.index.ensures 0 ∙ ap (slice_index owners.nodes.items) named in
    let from = owner_from net landmarks owners.slots.items lists around.slots around.away node owner radius of in
    let slot_is : c.index-slot.result.now ≡ slice_index owners.slots.items owner = get_or_read owners.slots.items c.index.result.now c.index-slot.result.now (omega (arith, owner_is, l.0, around.every)) c.index-slot.ensures 0 ∙ ap (slice_index owners.slots.items) owner_is in
    let e = lists_length owners.away.items in
    let row : slice_index_or lists (slice_index owners.slots.items owner) [] ≡ c.as_slice.result.now =
    ap (λ (x : ℕ). slice_index_or lists x []) (sym slot_is)
    ∙ (read_list owners.away.items c.index-slot.result.now c.index-in-loop-j.result.now (omega (arith, slot_is, from.0, e, around.lists)) c.index-in-loop-j.ensures ∙ sym c.as_slice.ensures.value) in
    let here = subst (AreFrom net owner) row from.1 in
    here.every

pub loop-j-preserved : goal.loop-j-preserved
loop-j-preserved c =
    let net = c.args.topology.now in
    let ok = c.invariant.ensures.topology in
    let u : ℕ = c.args.u in
    let numbers = c.args.numbering.now in
    let held = c.args.held.now in
    let owners = held.owners in
    let landmarks = owners.landmarks.items in
    let around = c.requires.bounds.around in
    let lists : List (List ℕ) = held_lists owners.away.items in
    let list : List ℕ = c.part-begin.result.0.now in
    let begin : ℕ = c.part-begin.result.1 in
    let j : ℕ = c.loop-j.j in
    let entry = c.part-begin.ensures.near.each j (omega (arith, c.loop-j-test.true, c.loop-j.auto.j-end)) in
    let node : ℕ = entry_node list begin j in
    let named = c.entry-node.ensures.node in
    let of = c.requires.bounds.owners.each node entry.0 in
    let owner : ℕ = slice_index owners.nodes.items node in
    let radius : ℕ = slice_index owners.radii.items node in
    let l = owner_in net ok landmarks node owner radius of in
    let owner_is : c.index.result.now ≡ owner = get_or_read owners.nodes.items c.entry-node.result.0 c.index.result.now (omega (arith, named, entry.0, c.requires.bounds.owners.nodes_len)) c.index.ensures 0 ∙ ap (slice_index owners.nodes.items) named in
    let from = owner_from net landmarks owners.slots.items lists around.slots around.away node owner radius of in
    let slot_is : c.index-slot.result.now ≡ slice_index owners.slots.items owner = get_or_read owners.slots.items c.index.result.now c.index-slot.result.now (omega (arith, owner_is, l.0, around.every)) c.index-slot.ensures 0 ∙ ap (slice_index owners.slots.items) owner_is in
    let e = lists_length owners.away.items in
    let row : slice_index_or lists (slice_index owners.slots.items owner) [] ≡ c.as_slice.result.now =
    ap (λ (x : ℕ). slice_index_or lists x []) (sym slot_is)
    ∙ (read_list owners.away.items c.index-slot.result.now c.index-in-loop-j.result.now (omega (arith, slot_is, from.0, e, around.lists)) c.index-in-loop-j.ensures ∙ sym c.as_slice.ensures.value) in
    let here = subst (AreFrom net owner) row from.1 in
    let away : List ℕ = c.as_slice.result.now in
    let whole : ℕ = entry_bound list begin j in
    let word : ℕ = c.led_word.result in
    let count : ℕ = length (ports_of net u) in
    let radius_is : c.index-radius.result.now ≡ radius = get_or_read owners.radii.items c.entry-node.result.0 c.index-radius.result.now (omega (arith, named, entry.0, c.requires.bounds.owners.radii_len)) c.index-radius.ensures 0 ∙ ap (slice_index owners.radii.items) named in
    let by = subst (λ (x : ℕ). IsWordBy net away x whole u count word) radius_is (subst (λ (x : ℕ). IsWordBy net away c.index-radius.result.now x u count word) c.entry-node.ensures.bound c.led_word.ensures) in
    let bound : ℕ → ℕ → ℕ → Type 0 = IsLandmarkBound net landmarks held.stretch in
    let led : IsLedWord net (IsWayRound net landmarks) bound u node word =
    word_leads net ok landmarks held.stretch bound u node owner radius whole word away of here entry.1 (λ w is. landmark_bound_one net ok landmarks held.stretch u node w whole is entry.1) by in
    let label_is : c.label_of.result ≡ slice_index numbers.labels node = c.label_of.ensures ∙ ap (slice_index numbers.labels) named in
    let there : slice_index numbers.order c.label_of.result ≡ node = ap (slice_index numbers.order) label_is ∙ c.requires.labels.there node entry.0 in
    settle (node_count net) numbers.order numbers.labels c.requires.labels (entry_node list begin) (slice_index list begin) (λ (a w : ℕ). IsLedWord net (IsWayRound net landmarks) bound u (slice_index numbers.order a) w)
    j c.label_of.result word c.loop-j.words c.loop-j.invariant entry.0 label_is (subst (λ (d : ℕ). IsLedWord net (IsWayRound net landmarks) bound u d word) (sym there) led)

pub returns : goal.returns
returns c =
    let net = c.args.topology.now in
    let numbers = c.args.numbering.now in
    let held = c.args.held.now in
    let landmarks = held.owners.landmarks.items in
    let list : List ℕ = c.part-begin.result.0.now in
    let begin : ℕ = c.part-begin.result.1 in
    let last : slice_index list begin ≤ c.loop-j.j = omega (arith, c.loop-j-test.false) in
    record {
      every = c.loop-j.invariant.every;
      each = settled_all (node_count net) numbers.order numbers.labels c.requires.labels (entry_node list begin) (slice_index list begin)
          (λ (a w : ℕ). IsLedWord net (IsWayRound net landmarks) (IsLandmarkBound net landmarks held.stretch) c.args.u (slice_index numbers.order a) w) c.loop-j.j c.loop-j.words c.loop-j.invariant last;
    }

use Rattle.std.proofs.Common.{◌≡◌, ◌<◌, ◌∙◌, ℕ, List, length, ap, subst, arith}
use Rattle.std.specs.Prelude.{slice_index}
use Rattle.std.proofs.lemmas.List.{get_or_read, get_or_default}
use Rattle.ir_model.specs.Topology.{node_count, ports_of}
use Rattle.ir_tables.specs.FromNode.{AreFrom}
use Rattle.ir_bounds.specs.Near.{IsWayRound}
use Rattle.ir_bounds.specs.Words.{IsLedWord, IsWordBy}
use Rattle.ir_bounds.proofs.Numbers.{owner_in, number_pushed}
use Rattle.ir_bounds.proofs.LedWords.{block_leads}
use Rattle.ir_bounds.proofs.words.round_words.Goals as goal

pub index-requires-in-loop-label : goal.index-requires-in-loop-label
index-requires-in-loop-label c =
    let net = c.args.topology.now in
    let numbers = c.args.numbering.now in
    let owners = c.args.held.now.owners in
    let label : ℕ = c.loop-label.label in
    let inside : label < node_count net = omega (arith, c.loop-label-test.true, c.loop-label.auto.label-end, c.nodes-nodes.ensures.count) in
    let d : ℕ = slice_index numbers.order label in
    let hd = c.requires.labels.node label inside in
    let of = c.requires.bounds.owners.each d hd in
    let read = get_or_read owners.nodes.items c.node_of-d.result c.index.result.now (omega (arith, hd, c.node_of-d.ensures, c.requires.bounds.owners.nodes_len)) c.index.ensures 0 ∙ ap (slice_index owners.nodes.items) c.node_of-d.ensures in
    let l = owner_in net c.nodes-nodes.ensures.topology owners.landmarks.items d (slice_index owners.nodes.items d) (slice_index owners.radii.items d) of in
    omega (arith, read, l.0, c.in_ok-blocks.ensures.every, c.in_ok-blocks.blocks.ok.0)

pub loop-label-preserved : goal.loop-label-preserved
loop-label-preserved c =
    let net = c.args.topology.now in
    let ok = c.nodes-nodes.ensures.topology in
    let u : ℕ = c.args.u in
    let numbers = c.args.numbering.now in
    let held = c.args.held.now in
    let owners = held.owners in
    let landmarks = owners.landmarks.items in
    let blocks : List ℕ = c.in_ok-blocks.blocks.items in
    let label : ℕ = c.loop-label.label in
    let inside : label < node_count net = omega (arith, c.loop-label-test.true, c.loop-label.auto.label-end, c.nodes-nodes.ensures.count) in
    let d : ℕ = slice_index numbers.order label in
    let hd = c.requires.labels.node label inside in
    let of = c.requires.bounds.owners.each d hd in
    let owner : ℕ = slice_index owners.nodes.items d in
    let radius : ℕ = slice_index owners.radii.items d in
    let read = get_or_read owners.nodes.items c.node_of-d.result c.index.result.now (omega (arith, hd, c.node_of-d.ensures, c.requires.bounds.owners.nodes_len)) c.index.ensures 0 ∙ ap (slice_index owners.nodes.items) c.node_of-d.ensures in
    let l = owner_in net ok landmarks d owner radius of in
    let word : ℕ = c.index-in-loop-label.result.now in
    let word_is : word ≡ slice_index blocks owner = get_or_read blocks c.index.result.now word (omega (arith, read, l.0, c.in_ok-blocks.ensures.every)) c.index-in-loop-label.ensures 0 ∙ ap (slice_index blocks) read in
    let k = of.among.0 in
    let at : slice_index landmarks k ≡ owner = get_or_default landmarks k 0 owner of.among.1 ∙ of.among.2 in
    let block = subst (λ (x : ℕ). (away : List ℕ) × AreFrom net x away × IsWordBy net away 0 (slice_index away u) u (length (ports_of net u)) (slice_index blocks x)) at (c.in_ok-blocks.ensures.each k of.among.1) in
    let led = block_leads net ok landmarks held.stretch u d owner radius (slice_index blocks owner) block.0 c.requires.node of block.1 block.2 in
    let put : IsLedWord net (IsWayRound net landmarks) (IsWayRound net landmarks) u d word = rw word_is led in
    let more = number_pushed (λ (a w : ℕ). IsLedWord net (IsWayRound net landmarks) (IsWayRound net landmarks) u (slice_index numbers.order a) w) label c.loop-label.words.items c.push.new.self.items word
    c.loop-label.invariant.every c.loop-label.invariant.each c.in_ok-push.ensures.items put in
    record { every = more.0; each = more.1 }

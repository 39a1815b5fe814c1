use Rattle.std.proofs.Common.{◌<◌, ◌∙◌, ℕ, List, length, length-set, sym, subst, arith}
use Rattle.std.specs.Prelude.{slice_index}
use Rattle.std.proofs.lemmas.List.{get_or_read}
use Rattle.ir_model.specs.Topology.{ports_of}
use Rattle.ir_tables.specs.FromNode.{AreFrom}
use Rattle.ir_bounds.specs.Words.{IsWordBy}
use Rattle.ir_bounds.proofs.Numbers.{lists_length}
use Rattle.ir_bounds.proofs.Parts.{read_list, put_more}
use Rattle.ir_bounds.proofs.words.block_words.Goals as goal

pub bounds-away-u : goal.bounds-away-u
bounds-away-u c =
    let owners = c.args.held.now.owners in
    let around = c.requires.bounds.around in
    let i = c.loop-i.i in
    let inside : i < length owners.landmarks.items = omega (arith, c.loop-i-test.true, c.len-i-end.ensures, c.loop-i.auto.i-end, owners.landmarks.ok.0) in
    let held : i < length owners.away.items = let e = lists_length owners.away.items in omega (arith, inside, e, around.lists) in
    let row = read_list owners.away.items i c.index.result.now held c.index.ensures ∙ sym c.as_slice-away.ensures.value in
    let from = subst (AreFrom c.args.topology.now (slice_index owners.landmarks.items i)) row (around.away i inside) in
    omega (arith, from.every, c.requires.node)

pub led_word-requires-clause-every : goal.led_word-requires-clause-every
led_word-requires-clause-every c =
    let owners = c.args.held.now.owners in
    let around = c.requires.bounds.around in
    let i = c.loop-i.i in
    let inside : i < length owners.landmarks.items = omega (arith, c.loop-i-test.true, c.len-i-end.ensures, c.loop-i.auto.i-end, owners.landmarks.ok.0) in
    let held : i < length owners.away.items = let e = lists_length owners.away.items in omega (arith, inside, e, around.lists) in
    let row = read_list owners.away.items i c.index.result.now held c.index.ensures ∙ sym c.as_slice-away.ensures.value in
    let from = subst (AreFrom c.args.topology.now (slice_index owners.landmarks.items i)) row (around.away i inside) in
    from.every

pub loop-i-preserved : goal.loop-i-preserved
loop-i-preserved c =
    let net = c.args.topology.now in
    let u : ℕ = c.args.u in
    let owners = c.args.held.now.owners in
    let landmarks = owners.landmarks.items in
    let around = c.requires.bounds.around in
    let i = c.loop-i.i in
    let list : List ℕ = c.as_slice-away.result.now in
    let inside : i < length landmarks = omega (arith, c.loop-i-test.true, c.len-i-end.ensures, c.loop-i.auto.i-end, owners.landmarks.ok.0) in
    let held : i < length owners.away.items = let e = lists_length owners.away.items in omega (arith, inside, e, around.lists) in
    let row = read_list owners.away.items i c.index.result.now held c.index.ensures ∙ sym c.as_slice-away.ensures.value in
    let from = subst (AreFrom net (slice_index landmarks i)) row (around.away i inside) in
    let l : ℕ = c.index-in-loop-i.result.now in
    let landmark = get_or_read landmarks i l inside c.index-in-loop-i.ensures 0 in
    let word : ℕ = c.led_word.result in
    record {
      every = length-set c.loop-i.blocks.items l word ∙ c.loop-i.invariant.every;
      each = put_more (λ (y z : ℕ). (away : List ℕ) × AreFrom net y away × IsWordBy net away 0 (slice_index away u) u (length (ports_of net u)) z) landmarks c.loop-i.blocks.items i l word
          c.loop-i.invariant.each landmark (omega (arith, landmark, from.node, c.loop-i.invariant.every)) (list, subst (λ (y : ℕ). AreFrom net y list) (sym landmark) from, c.led_word.ensures);
    }

use Rattle.std.proofs.Common.{◌≡◌, ℕ, List, length, ap, arith}
use Rattle.std.specs.Global.{Vec}
use Rattle.std.proofs.lemmas.List.{length-map}
use Rattle.ir_lanes.specs.Marks.{word_lists}
use Rattle.ir_lanes.proofs.Batches.{batch_more}
use Rattle.ir_lanes.proofs.marks.PortMarks.of.Goals as goal

pub loop-batch-init : goal.loop-batch-init
loop-batch-init c =
    let none : length (word_lists c.in_ok-batches.batches.items) ≡ 0 =
    ap (λ (vs : List (Vec ℕ)). length (word_lists vs)) c.in_ok-batches.ensures.items in
    record { every = none; each = λ b b_in. absurd (omega (arith, b_in, none)) }

pub words_to-requires : goal.words_to-requires
words_to-requires c = record {
  nodes = c.requires;
  batch = omega (arith, c.loop-batch-test.true, c.div_ceil-count.ensures);
}

pub loop-batch-preserved : goal.loop-batch-preserved
loop-batch-preserved c =
    let i = c.loop-batch.invariant in
    let words = rw c.in-Some.is at c.in_ok-words.ensures in
    let more = batch_more c.args.topology.now c.args.order.now c.loop-batch.batch c.loop-batch.batches.items c.push.new.self.items c.in-Some.words i.every i.each c.in_ok-push-in-Some.ensures.items words in
    record { every = more.0; each = more.1 }

pub from_batches-requires : goal.from_batches-requires
from_batches-requires c =
    let i = c.loop-batch.invariant in
    let same = length-map c.loop-batch.batches.items (λ (w : Vec ℕ). w.items) in
    let past = c.loop-batch-test.false in
    record { batches = i.each; enough = omega (arith, same, i.every, past, c.div_ceil-count.ensures) }

pub returns : goal.returns
returns c = c.in_ok-from_batches.ensures

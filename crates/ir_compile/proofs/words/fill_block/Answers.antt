use Rattle.std.proofs.Common.{◌≡◌, ◌+◌, ◌-◌, ◌^◌, ◌<◌, ℕ, List, ◌∙◌, arith, w32, length-set, slice_index}
use Rattle.std.specs.Int.{trailing_zeros}
use Rattle.std.specs.Int.Bits.{bit_and}
use Rattle.std.proofs.lemmas.Nat.{and_le_l}
use Rattle.ir_compile.specs.PortBits.{AreCommon, IsWordRun}
use Rattle.ir_compile.proofs.PortBits.{common_none, common_join, common_some, word_run, runs_more}
use Rattle.ir_compile.proofs.words.fill_block.Goals as goal

pub loop-a-init : goal.loop-a-init
loop-a-init c = record {
  counts_len = c.requires.counts;
  ports_len = c.requires.ports;
  further = omega arith;
  within = c.requires.round;
  shared = common_none c.args.twice.now c.args.block.1;
  some = c.requires.common;
  runs = c.requires.runs;
}

pub loop-a-preserved : goal.loop-a-preserved
loop-a-preserved c =
    let n : ℕ = c.args.n in
    let twice : List ℕ = c.args.twice.now in
    let a : ℕ = c.loop-a.a in
    let to : ℕ = c.args.block.1 in
    let back : ℕ = slice_index c.args.backs.now a in
    let v = c.loop-a.invariant in
    let made = c.extended-further.ensures in
    let end : ℕ = c.extended-further.result.0 in
    let front : ℕ = c.extended-further.result.1 in
    let test = c.loop-a-test.true in
    let last = c.min-a-end.ensures in
    let from = c.loop-a.auto.a in
    let before = v.further in
    let further = made.further in
    let within = made.within in
    let inside : a < to = omega (arith, test, last) in
    let here : AreCommon twice a to back = c.requires.backs a from inside in
    let joined : AreCommon twice a c.loop-a.end (bit_and back c.loop-a.front) = common_join twice a to c.loop-a.end back c.loop-a.front (omega (arith, inside)) before here v.shared in
    let some : 0 < bit_and back front = made.some (common_some twice a c.loop-a.end (bit_and back c.loop-a.front) joined v.some) in
    let shared : AreCommon twice to end front = made.common to before v.shared in
    let all : AreCommon twice a end (bit_and back front) = common_join twice a to end back front (omega (arith, inside)) (omega (arith, before, further)) here shared in
    let top = (c.type_inv.backs a).fits in
    let fits : bit_and back front < 2 ^ 32 = omega (arith, and_le_l back front, top) in
    let count : ℕ = end - a in
    let is : a + count ≡ end = omega (arith, inside, before, further) in
    let port : ℕ = trailing_zeros w32 (bit_and back front) in
    let run : IsWordRun n twice a count port = word_run n twice a end (bit_and back front) (omega (arith, is)) within all some fits made.stops count is in
    let len = v.counts_len in
    let ports_len = v.ports_len in
    record {
      counts_len = length-set c.loop-a.counts a count ∙ len;
      ports_len = length-set c.loop-a.ports a port ∙ ports_len;
      further = omega (arith, before, further);
      within = omega (arith, within);
      shared = shared;
      some = (port, run.low, λ k l b. run.common k (omega (arith, l)) (omega (arith, b, is)));
      runs = runs_more n twice a c.loop-a.counts c.loop-a.ports count port (omega (arith, test, last, len)) (omega (arith, test, last, ports_len)) v.runs run;
    }

pub overflow_add-a : goal.overflow_add-a
overflow_add-a c = record { fits = omega (arith, c.requires.few, c.loop-a-test.true, c.min-a-end.ensures) }

pub extended-further-requires : goal.extended-further-requires
extended-further-requires c = record {
  limit = c.loop-a.invariant.within;
  room = omega (arith, c.requires.twice, c.loop-a-test.true, c.min-a-end.ensures);
}

pub bounds-backs-a : goal.bounds-backs-a
bounds-backs-a c = omega (arith, c.requires.room, c.loop-a-test.true, c.min-a-end.ensures)

pub bounds-counts-a : goal.bounds-counts-a
bounds-counts-a c = omega (arith, c.loop-a.invariant.counts_len, c.loop-a-test.true, c.min-a-end.ensures)

pub bounds-ports-a : goal.bounds-ports-a
bounds-ports-a c = omega (arith, c.loop-a.invariant.ports_len, c.loop-a-test.true, c.min-a-end.ensures)

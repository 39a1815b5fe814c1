use Rattle.std.proofs.Common.{arith, slice_index}
use Rattle.ir_compile.proofs.PortBits.{common_more, next_some}
use Rattle.ir_compile.proofs.words.extended.Goals as goal

pub loop-at-preserved : goal.loop-at-preserved
loop-at-preserved c =
    let i = c.loop-at.invariant in
    let before = i.further in
    let more = c.loop-at-test.true in
    record {
      further = omega (arith, before);
      within = omega (arith, more);
      shared = λ m l are. common_more c.args.twice.now m c.loop-at.at c.loop-at.common (omega (arith, l, before)) (i.shared m l are);
      some = λ _. next_some c.args.back c.loop-at.common (slice_index c.args.twice.now c.loop-at.at) c.if-back-common-ne0.true;
    }

pub loop-at-init : goal.loop-at-init
loop-at-init c = record { further = omega arith; within = c.requires.limit; shared = λ m l are. are; some = λ some. some }

pub bounds-twice-at : goal.bounds-twice-at
bounds-twice-at c = omega (arith, c.loop-at-test.true, c.requires.room)

pub overflow_add-at : goal.overflow_add-at
overflow_add-at c = record { fits = omega (arith, c.loop-at-test.true, c.ranges.limit.fits) }

pub returns-after-loop-at : goal.returns-after-loop-at
returns-after-loop-at c =
    let i = c.loop-at.invariant in
    record { further = i.further; within = i.within; common = i.shared; some = i.some; stops = λ more. absurd (omega (arith, more, c.loop-at-test.false)) }

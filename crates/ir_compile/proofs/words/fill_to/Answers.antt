use Rattle.std.proofs.Common.{arith}
use Rattle.ir_compile.proofs.words.fill_to.Goals as goal

pub loop-at-init : goal.loop-at-init
loop-at-init c = record {
  further = omega arith;
  backs_len = c.requires.backs;
  counts_len = c.requires.counts;
  ports_len = c.requires.ports;
  runs = c.requires.runs;
}

pub fill_from-at-requires : goal.fill_from-at-requires
fill_from-at-requires c =
    let i = c.loop-at.invariant in
    let before = c.loop-at-test.true in
    let end = c.min-to.ensures in
    record {
      few = c.requires.few;
      twice = c.requires.twice;
      some = c.requires.some;
      inside = omega (arith, before, end);
      backs = i.backs_len;
      counts = i.counts_len;
      ports = i.ports_len;
      runs = i.runs;
    }

pub loop-at-preserved : goal.loop-at-preserved
loop-at-preserved c =
    let made = c.fill_from-at.ensures in
    record {
      further = omega (arith, made.further, c.loop-at.invariant.further);
      backs_len = made.backs;
      counts_len = made.counts;
      ports_len = made.ports;
      runs = made.runs;
    }

use Rattle.std.proofs.Common.{arith}
use Rattle.ir_compile.proofs.words.fill.Goals as goal

pub loop-from-init : goal.loop-from-init
loop-from-init c = record {
  backs_len = c.requires.backs;
  counts_len = c.requires.counts;
  ports_len = c.requires.ports;
  runs = λ a l k. absurd (omega (arith, l));
}

pub loop-from-preserved : goal.loop-from-preserved
loop-from-preserved c = record {
  backs_len = c.fill_some-from.ensures.backs;
  counts_len = c.fill_some-from.ensures.counts;
  ports_len = c.fill_some-from.ensures.ports;
  runs = c.fill_some-from.ensures.runs;
}

pub returns-clause-runs : goal.returns-clause-runs
returns-clause-runs c = λ a l k. c.loop-from.invariant.runs a (omega (arith, l, c.loop-from-test.false)) k

pub fill_some-from-requires : goal.fill_some-from-requires
fill_some-from-requires c =
    let i = c.loop-from.invariant in
    record {
      few = c.requires.few;
      twice = c.requires.twice;
      some = c.requires.some;
      inside = c.loop-from-test.true;
      backs = i.backs_len;
      counts = i.counts_len;
      ports = i.ports_len;
      runs = i.runs;
    }

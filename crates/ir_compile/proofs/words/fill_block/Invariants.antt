use Rattle.std.proofs.Common.{◌≡◌, ◌+◌, ◌≤◌, length}
use Rattle.ir_compile.specs.PortBits.{AreCommon, AreWordRuns, HaveCommon}
use Rattle.ir_compile.proofs.words.fill_block.Given as goal

abbrev pub invariant-loop-a : goal.invariant-loop-a
invariant-loop-a l = record {
  counts_len : length l.counts ≡ l.n;
  ports_len : length l.ports ≡ l.n;
  further : l.to ≤ l.end;
  within : l.end ≤ l.a + l.n;
  shared : AreCommon l.twice l.to l.end l.front;
  some : HaveCommon l.twice l.a l.end;
  runs : AreWordRuns l.n l.twice l.a l.counts l.ports;
}

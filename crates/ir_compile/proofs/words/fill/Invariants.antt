use Rattle.std.proofs.Common.{◌≡◌, ◌*◌, ◌-◌, length}
use Rattle.ir_compile.specs.PortBits.{AreWordRuns}
use Rattle.ir_compile.proofs.words.fill.Given as goal

abbrev pub invariant-loop-from : goal.invariant-loop-from
invariant-loop-from l = record {
  backs_len : length l.backs ≡ l.n * 2;
  counts_len : length l.counts ≡ l.n;
  ports_len : length l.ports ≡ l.n;
  runs : AreWordRuns l.n l.twice l.from l.counts l.ports;
}

abbrev pub decreases-loop-from : goal.decreases-loop-from
decreases-loop-from l = l.n - l.from

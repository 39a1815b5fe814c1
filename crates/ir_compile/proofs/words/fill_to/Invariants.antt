use Rattle.std.proofs.Common.{◌≡◌, ◌*◌, ◌-◌, ◌≤◌, length}
use Rattle.ir_compile.specs.PortBits.{AreWordRuns}
use Rattle.ir_compile.proofs.words.fill_to.Given as goal

abbrev pub invariant-loop-at : goal.invariant-loop-at
invariant-loop-at l = record {
  further : l.from ≤ l.at;
  backs_len : length l.backs ≡ l.n * 2;
  counts_len : length l.counts ≡ l.n;
  ports_len : length l.ports ≡ l.n;
  runs : AreWordRuns l.n l.twice l.at l.counts l.ports;
}

abbrev pub decreases-loop-at : goal.decreases-loop-at
decreases-loop-at l = l.to - l.at

use Rattle.std.proofs.Common.{◌≡◌, ◌+◌, length}
use Rattle.ir_compile.specs.PortBits.{AreWordRuns}
use Rattle.ir_compile.proofs.sixteen.put_runs.Given as goal

abbrev pub invariant-loop-k : goal.invariant-loop-k
invariant-loop-k l = record {
  counts_len : length l.counts ≡ l.n;
  ports_len : length l.ports ≡ l.n;
  runs : AreWordRuns l.n l.twice (l.from + l.k) l.counts l.ports;
}

use Rattle.std.proofs.Common.{◌≡◌, length}
use Rattle.ir_compile.proofs.Blocks.{IsWalkBack}
use Rattle.ir_compile.proofs.runs.keep_back.Given as goal

abbrev pub invariant-loop-run : goal.invariant-loop-run
invariant-loop-run l = record {
  counts_len : length l.counts ≡ l.n;
  ports_len : length l.ports ≡ l.n;
  walk : IsWalkBack l.n l.own l.marked.marks.now l.marked.port l.end l.run l.a l.initial.counts l.initial.ports l.counts l.ports;
}

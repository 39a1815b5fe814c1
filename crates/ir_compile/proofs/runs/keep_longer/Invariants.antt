use Rattle.std.proofs.Common.{◌≡◌, ℕ, length}
use Rattle.ir_compile.specs.Runs.{Keeps, KeepsBlock}
use Rattle.ir_compile.proofs.Blocks.{IsTried}
use Rattle.ir_compile.proofs.runs.keep_longer.Given as goal

abbrev pub invariant-loop-label : goal.invariant-loop-label
invariant-loop-label l = record {
  counts_len : length l.counts ≡ l.n;
  ports_len : length l.ports ≡ l.n;
  each : Keeps l.n l.own l.marked.marks.now l.marked.port l.fn.counts l.fn.ports l.counts l.ports;
  blocks : (e : ℕ) → IsTried l.n l.own l.marked.marks.now l.marked.port l.marked.labels.now l.label-index e → KeepsBlock l.n l.own l.marked.marks.now l.marked.port l.fn.counts l.fn.ports l.counts l.ports e;
}

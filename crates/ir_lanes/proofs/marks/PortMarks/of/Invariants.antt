use Rattle.std.proofs.Common.{◌≡◌, length}
use Rattle.ir_lanes.specs.Marks.{AreBatches, word_lists}
use Rattle.ir_lanes.proofs.marks.PortMarks.of.Given as goal

abbrev pub invariant-loop-batch : goal.invariant-loop-batch
invariant-loop-batch l = record {
  every : length (word_lists l.batches.items) ≡ l.batch;
  each : AreBatches l.topology l.order (word_lists l.batches.items);
}

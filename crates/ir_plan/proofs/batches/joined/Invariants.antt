use Rattle.std.proofs.Common.{◌≡◌, flat_map}
use Rattle.ir_plan.proofs.batches.joined.Given as goal

abbrev pub invariant-loop-batch : goal.invariant-loop-batch
invariant-loop-batch l = l.rows.items ≡ flat_map (λ batch. batch.items) l.yielded

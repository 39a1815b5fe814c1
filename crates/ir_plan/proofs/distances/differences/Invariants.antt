use Rattle.std.proofs.Common.{◌≡◌, not}
use Rattle.std.specs.Prelude.{count_by, slice_index, ◌==◌}
use Rattle.std.specs.List.{range_with_len}
use Rattle.ir_plan.proofs.distances.differences.Given as goal

abbrev pub invariant-loop-i : goal.invariant-loop-i
invariant-loop-i l = l.count ≡ count_by (λ u. not (slice_index l.column u == slice_index l.other u)) (range_with_len 0 l.i)

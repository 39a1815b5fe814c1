use Rattle.std.proofs.Common.{◌≢◌, ◌<◌, ℕ, []}
use Rattle.std.specs.Prelude.{slice_index_or}
use Rattle.ir_plan.specs.Distances.{lists_of}
use Rattle.ir_plan.proofs.ties.are_found.Given as goal

abbrev pub invariant-loop-words : goal.invariant-loop-words
invariant-loop-words l = (b : ℕ) → b < l.words-index → slice_index_or (lists_of l.batches) b [] ≢ []

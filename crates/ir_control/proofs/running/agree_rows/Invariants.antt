use Rattle.std.specs.Prelude.{ℕ, ◌<◌, All, slice_index_or}
use Rattle.ir_control.specs.Agreed.{Agrees}
use Rattle.ir_control.proofs.running.agree_rows.Given as goal

abbrev pub invariant-loop-k : goal.invariant-loop-k
invariant-loop-k l = (j : ℕ) (d : _) → j < l.k → All (λ s. Agrees l.plans.items s) (slice_index_or l.rows.items j d).items

use Rattle.std.specs.Prelude.{ℕ, ◌<◌, slice_index_or}
use Rattle.ir_epochs.specs.declared.registry.Stamp.{Stamp}
use Rattle.ir_control.specs.Agreed.{Agrees}
use Rattle.ir_control.proofs.running.agree_all.Given as goal

abbrev pub invariant-loop-k : goal.invariant-loop-k
invariant-loop-k l = (j : ℕ) (d : Stamp) → j < l.k → Agrees l.plans.items (slice_index_or l.stamps.items j d)

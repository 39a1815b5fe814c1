use Rattle.std.specs.Prelude.{◌≡◌, ℕ, ◌<◌, slice_index_or}
use Rattle.ir_epochs.specs.declared.registry.Stamp.{Stamp}
use Rattle.ir_epochs.specs.Stamps.{knows}
use Rattle.ir_control.proofs.running.agree.Given as goal

abbrev pub invariant-loop-k : goal.invariant-loop-k
invariant-loop-k l = (j : ℕ) (d : Stamp) → j < l.k → l.stamp.epoch ≡ (slice_index_or l.plans.items j d).epoch → knows l.stamp ≡ knows (slice_index_or l.plans.items j d)

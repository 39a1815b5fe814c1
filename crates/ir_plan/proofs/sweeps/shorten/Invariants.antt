use Rattle.std.proofs.Common.{◌≡◌, ◌<◌, ◌-◌, ℕ}
use Rattle.std.specs.Prelude.{All}
use Rattle.ir_plan.specs.Tour.{shortened}
use Rattle.ir_plan.specs.Distances.{far_between}
use Rattle.ir_plan.proofs.sweeps.shorten.Given as goal

abbrev pub invariant-loop-done : goal.invariant-loop-done
invariant-loop-done l = record {
  nodes : All (λ (v : ℕ). v < l.far.nodes) l.order;
  left : shortened (far_between l.far.rows.items) (16 - l.done) l.order ≡ shortened (far_between l.far.rows.items) 16 l.fn.order;
}

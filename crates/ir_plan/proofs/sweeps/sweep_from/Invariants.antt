use Rattle.std.proofs.Common.{◌≡◌, ◌<◌, ◌+◌, ◌-◌, ℕ, false}
use Rattle.std.specs.Prelude.{All, fold}
use Rattle.std.specs.List.{range_with_len}
use Rattle.ir_plan.specs.Tour.{tried}
use Rattle.ir_plan.specs.Distances.{far_between}
use Rattle.ir_plan.proofs.sweeps.sweep_from.Given as goal

abbrev pub invariant-loop-to : goal.invariant-loop-to
invariant-loop-to l = record {
  nodes : All (λ (v : ℕ). v < l.far.nodes) l.order;
  so_far : l.order ≡ fold (tried (far_between l.far.rows.items) l.from) l.fn.order (range_with_len (l.from + 1) (l.to - (l.from + 1)));
  same : l.turned ≡ false → l.order ≡ l.fn.order;
}

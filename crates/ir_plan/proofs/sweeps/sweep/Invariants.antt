use Rattle.std.proofs.Common.{◌≡◌, ◌<◌, ◌≤◌, ◌+◌, ◌-◌, ℕ, false, length}
use Rattle.std.specs.Prelude.{All, fold}
use Rattle.std.specs.List.{range_with_len}
use Rattle.ir_plan.specs.Tour.{tried_from}
use Rattle.ir_plan.specs.Distances.{far_between}
use Rattle.ir_plan.proofs.sweeps.sweep.Given as goal

abbrev pub invariant-loop-from : goal.invariant-loop-from
invariant-loop-from l = record {
  nodes : All (λ (v : ℕ). v < l.far.nodes) l.order;
  so_far : l.order ≡ fold (tried_from (far_between l.far.rows.items)) l.fn.order (range_with_len 1 (l.from - 1));
  same : l.turned ≡ false → l.order ≡ l.fn.order;
  few : l.from ≤ length l.fn.order + 1;
}

use Rattle.std.proofs.Common.{◌≡◌, ◌≤◌, ℕ}
use Rattle.std.specs.Prelude.{slice_index}
use Rattle.ir_bounds.specs.Bounds.{AreKeptNearer}
use Rattle.ir_bounds.proofs.landmarks.keep_nearer.Given as goal

abbrev pub invariant-loop-d : goal.invariant-loop-d
invariant-loop-d l = record {
  kept : AreKeptNearer l.landmark l.away l.fn.nodes l.fn.radii l.nodes l.radii l.d;
  same_nodes : (k : ℕ) → l.d ≤ k → slice_index l.nodes k ≡ slice_index l.fn.nodes k;
  same_radii : (k : ℕ) → l.d ≤ k → slice_index l.radii k ≡ slice_index l.fn.radii k;
}

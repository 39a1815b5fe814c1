use Rattle.std.proofs.Common.{◌≡◌, ℕ, ◌*◌, ◌<◌, ◌≤◌, length, slice_index}
use Rattle.ir_lanes.specs.Inward.{ports_before}
use Rattle.ir_lanes.proofs.marks.begins_of.Given as goal

abbrev pub invariant-loop-u : goal.invariant-loop-u
invariant-loop-u l = record {
  every : length l.begins.items ≡ l.u;
  each : (v : ℕ) → v < l.u → slice_index l.begins.items v ≡ ports_before l.topology v;
  here : l.begin ≡ ports_before l.topology l.u;
  few : l.begin ≤ l.u * 32768;
}

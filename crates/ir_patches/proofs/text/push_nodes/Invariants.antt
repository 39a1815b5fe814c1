use Rattle.std.proofs.Common.{◌≡◌, ◌*◌, ◌++◌, flat_map, string_bytes}
use Rattle.std.specs.List.{range_with_len}
use Rattle.ir_patches.specs.DiffText.{change_line, counts_to}
use Rattle.ir_patches.specs.Sides.{AreAtMost, plans_of}
use Rattle.ir_patches.proofs.text.push_nodes.Given as goal

abbrev pub invariant-loop-u : goal.invariant-loop-u
invariant-loop-u l = record {
  counts : l.counts ≡ counts_to (plans_of l.sides) l.u;
  few : AreAtMost l.counts (l.u * 32768);
  text : string_bytes l.text ≡ string_bytes l.fn.text ++ flat_map (change_line (plans_of l.sides)) (range_with_len 0 l.u);
}

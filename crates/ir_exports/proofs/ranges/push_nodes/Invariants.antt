use Rattle.std.proofs.Common.{◌≡◌, ◌≤◌, ◌*◌, ◌++◌, length, flat_map, string_bytes, sum_by}
use Rattle.std.specs.List.{range_with_len}
use Rattle.ir_model.specs.Graph.{names}
use Rattle.ir_exports.specs.RangesText.{ranges_in, ranges_line}
use Rattle.ir_exports.proofs.ranges.push_nodes.Given as goal

abbrev pub invariant-loop-u : goal.invariant-loop-u
invariant-loop-u l = record {
  count : l.count ≡ sum_by (λ u. length (ranges_in l.plan u)) (range_with_len 0 l.u);
  few : l.count ≤ l.u * 32768;
  text : string_bytes l.text ≡ string_bytes l.fn.text ++ flat_map (ranges_line (names l.graph) l.plan) (range_with_len 0 l.u);
}

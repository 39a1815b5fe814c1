use Rattle.std.proofs.Common.{◌≡◌, ◌++◌, take, string_bytes, flat_map}
use Rattle.ir_model.specs.Graph.{names}
use Rattle.ir_trace.specs.Rows.{spaced}
use Rattle.ir_exports.specs.RangesText.{range_words}
use Rattle.ir_exports.proofs.ranges.push_ranges.Given as goal

abbrev pub invariant-loop-range : goal.invariant-loop-range
invariant-loop-range l = string_bytes l.text ≡ string_bytes l.fn.text ++ flat_map spaced (flat_map (range_words (names l.graph) l.plan.topology l.u) (take l.range-index l.set))

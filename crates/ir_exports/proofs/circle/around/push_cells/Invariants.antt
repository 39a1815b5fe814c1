use Rattle.std.proofs.Common.{◌≡◌, ◌++◌, flat_map, string_bytes}
use Rattle.std.specs.List.{range_with_len}
use Rattle.ir_model.specs.Graph.{names}
use Rattle.ir_exports.specs.Around.{cell}
use Rattle.ir_exports.proofs.circle.around.push_cells.Given as goal

abbrev pub invariant-loop-d : goal.invariant-loop-d
invariant-loop-d l = string_bytes l.text ≡ string_bytes l.fn.text ++ flat_map (cell (names l.graph) l.plan l.u) (range_with_len 0 l.d)

use Rattle.std.proofs.Common.{◌≡◌, ◌++◌, flat_map, string_bytes}
use Rattle.std.specs.List.{range_with_len}
use Rattle.ir_model.specs.Graph.{names}
use Rattle.ir_show.specs.Drawing.{node_line}
use Rattle.ir_show.proofs.draw.push_all_nodes.Given as goal

abbrev pub invariant-loop-u : goal.invariant-loop-u
invariant-loop-u l = string_bytes l.text ≡ string_bytes l.fn.text ++ flat_map (node_line (names l.graph) l.plan l.landmarks) (range_with_len 0 l.u)

use Rattle.std.proofs.Common.{◌≡◌, ◌++◌, take, string_bytes, flat_map, map}
use Rattle.ir_model.specs.Graph.{names}
use Rattle.ir_trace.specs.Rows.{spaced}
use Rattle.ir_trace.specs.Written.{name_at}
use Rattle.ir_trace.proofs.text.push_names.Given as goal

abbrev pub invariant-loop-node : goal.invariant-loop-node
invariant-loop-node l = string_bytes l.text ≡ string_bytes l.fn.text ++ flat_map spaced (map (name_at (names l.graph)) (take l.node-index l.nodes))

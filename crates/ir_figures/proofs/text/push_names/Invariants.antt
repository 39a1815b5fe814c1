use Rattle.std.proofs.Common.{◌≡◌, ◌++◌, flat_map, map, string_bytes, take}
use Rattle.ir_model.specs.Graph.{names}
use Rattle.ir_trace.specs.Rows.{spaced}
use Rattle.ir_trace.specs.Written.{name_at}
use Rattle.ir_figures.proofs.text.push_names.Given as goal

abbrev pub invariant-loop-u : goal.invariant-loop-u
invariant-loop-u l = string_bytes l.text ≡ string_bytes l.fn.text ++ flat_map spaced (map (name_at (names l.graph)) (take l.u-index l.ring))

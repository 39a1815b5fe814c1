use Rattle.std.proofs.Common.{◌≡◌, ◌++◌, take, string_bytes, flat_map}
use Rattle.ir_model.specs.Graph.{names}
use Rattle.ir_show.specs.Words.{line_text}
use Rattle.ir_show.specs.Stops.{head_line, stop_line}
use Rattle.ir_show.proofs.stops.text_of.Given as goal

abbrev pub invariant-loop-stop : goal.invariant-loop-stop
invariant-loop-stop l = string_bytes l.text ≡ line_text (head_line (names l.graph) l.walk) ++ flat_map (λ s. line_text (stop_line (names l.graph) s)) (take l.stop-index l.stops)

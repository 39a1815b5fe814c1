use Rattle.std.proofs.Common.{◌≡◌, ◌++◌, take, flat_map, string_bytes}
use Rattle.ir_model.specs.Graph.{names}
use Rattle.ir_model.specs.Row.{intervals_of}
use Rattle.ir_model.specs.Plan.{row_in}
use Rattle.ir_exports.specs.Circle.{arc}
use Rattle.ir_exports.proofs.circle.svg.push_arcs.Given as goal

abbrev pub invariant-loop-i : goal.invariant-loop-i
invariant-loop-i l = string_bytes l.text ≡ string_bytes l.fn.text ++ flat_map (arc (names l.graph) l.plan l.u) (take l.i (intervals_of (row_in l.plan l.u)))

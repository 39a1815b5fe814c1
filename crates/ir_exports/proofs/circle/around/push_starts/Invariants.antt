use Rattle.std.proofs.Common.{◌≡◌, ◌++◌, take, flat_map, string_bytes}
use Rattle.ir_model.specs.Topology.{node_count}
use Rattle.ir_model.specs.Row.{intervals_of}
use Rattle.ir_model.specs.Plan.{row_in}
use Rattle.ir_exports.specs.Around.{bound}
use Rattle.ir_exports.proofs.circle.around.push_starts.Given as goal

abbrev pub invariant-loop-i : goal.invariant-loop-i
invariant-loop-i l = string_bytes l.text ≡ string_bytes l.fn.text ++ flat_map (bound (node_count l.plan.topology)) (take l.i (intervals_of (row_in l.plan l.u)))

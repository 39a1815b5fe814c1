use Rattle.std.proofs.Common.{◌≡◌, ◌++◌, flat_map, string_bytes}
use Rattle.std.specs.List.{range_with_len}
use Rattle.ir_model.specs.Graph.{names}
use Rattle.ir_exports.specs.Circle.{key_head, own_key, port_key}
use Rattle.ir_exports.proofs.circle.key.push_key.Given as goal

abbrev pub invariant-loop-port : goal.invariant-loop-port
invariant-loop-port l =
    string_bytes l.text ≡ ((string_bytes l.fn.text ++ key_head) ++ own_key (names l.graph) l.plan l.u) ++ flat_map (port_key (names l.graph) l.plan l.u) (range_with_len 0 l.port)

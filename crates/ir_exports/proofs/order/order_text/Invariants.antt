use Rattle.std.proofs.Common.{◌≡◌, flat_map, string_bytes}
use Rattle.std.specs.List.{range_with_len}
use Rattle.ir_model.specs.Graph.{names}
use Rattle.ir_exports.specs.OrderText.{label_line}
use Rattle.ir_exports.proofs.order.order_text.Given as goal

abbrev pub invariant-loop-label : goal.invariant-loop-label
invariant-loop-label l = string_bytes l.text ≡ flat_map (label_line (names l.graph) l.plan) (range_with_len 0 l.label)

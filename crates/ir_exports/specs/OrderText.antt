-- The text of the order of a plan's labels.
use Rattle.std.specs.Prelude.{ℕ, List, [], ◌∷◌, flat_map}
use Rattle.std.specs.List.{range_with_len}
use Rattle.ir_model.specs.Graph.{Name}
use Rattle.ir_model.specs.Topology.{node_count}
use Rattle.ir_model.specs.Plan.{Plan, node_in}
use Rattle.ir_trace.specs.Written.{name_at}
use Rattle.ir_show.specs.Words.{line_text}

-- the name of the node with a label, as a line
abbrev pub label_line : List Name → Plan → ℕ → List ℕ
label_line nodes plan label = line_text (name_at nodes (node_in plan label) ∷ [])

-- a line for each label, in their order
abbrev pub order_text : List Name → Plan → List ℕ
order_text nodes plan = flat_map (label_line nodes plan) (range_with_len 0 (node_count plan.topology))

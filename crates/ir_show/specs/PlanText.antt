-- The text of a plan.
use Rattle.std.specs.Prelude.{ℕ, List, [], ◌∷◌, ◌++◌, length, flat_map, sum_by, decimal, codes}
use Rattle.std.specs.List.{range_with_len}
use Rattle.std.specs.Option.{option_map_or}
use Rattle.ir_model.specs.declared.Kind.{Kind}
use Rattle.ir_model.specs.declared.Kind.TheVariants.{Tree, Shortest, Compact, Landmark}
use Rattle.ir_model.specs.Graph.{Name}
use Rattle.ir_model.specs.Topology.{Topology, node_count, port_at}
use Rattle.ir_model.specs.Row.{Start}
use Rattle.ir_model.specs.Plan.{Plan, label_in, row_in}
use Rattle.ir_trace.specs.Written.{name_at}
use Rattle.ir_show.specs.Words.{line_text}

abbrev pub kind_text : Kind → List ℕ
kind_text Tree = codes "tree"
kind_text Shortest = codes "shortest"
kind_text Compact = codes "compact"
kind_text (Landmark t) = codes "landmark"

-- the node at a port of u
abbrev pub node_by : Topology → ℕ → ℕ → ℕ
node_by topology u p = option_map_or (λ hop. hop.node) (port_at topology u p) 0

-- a start of u's row, and the name of the neighbour at its port
abbrev pub start_words : List Name → Topology → ℕ → Start → List (List ℕ)
start_words nodes topology u start = decimal start.label ∷ name_at nodes (node_by topology u start.port) ∷ []

-- a node: its name, its label, and its row
abbrev pub node_words : List Name → Plan → ℕ → List (List ℕ)
node_words nodes plan u = name_at nodes u ∷ decimal (label_in plan u) ∷ flat_map (start_words nodes plan.topology u) (row_in plan u)

abbrev pub plan_head : Plan → List (List ℕ)
plan_head plan = codes "plan" ∷ kind_text plan.kind ∷ decimal (node_count plan.topology) ∷ decimal (sum_by length plan.rows) ∷ []

-- `plan KIND N L`, and a line for each node in node order
abbrev pub plan_text : List Name → Plan → List ℕ
plan_text nodes plan = line_text (plan_head plan) ++ flat_map (λ u. line_text (node_words nodes plan u)) (range_with_len 0 (node_count plan.topology))

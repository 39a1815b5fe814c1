-- The text of a plan's ranges of labels.
use Rattle.std.specs.Prelude.{ℕ, List, [], ◌∷◌, ◌++◌, length, flat_map, sum_by, decimal, codes}
use Rattle.std.specs.List.{range_with_len}
use Rattle.ir_model.specs.Graph.{Name}
use Rattle.ir_model.specs.Topology.{Topology, node_count}
use Rattle.ir_model.specs.Plan.{Plan, label_in, by_label}
use Rattle.ir_prefix.specs.declared.ranges.LabelRange.{LabelRange}
use Rattle.ir_prefix.specs.Ranges.{ranges_of}
use Rattle.ir_trace.specs.Written.{name_at}
use Rattle.ir_show.specs.PlanText.{kind_text, node_by}
use Rattle.ir_show.specs.Words.{line_text}

-- the ranges of the node u: those of its ports by label
abbrev pub ranges_in : Plan → ℕ → List LabelRange
ranges_in plan u = ranges_of (by_label plan u)

-- `FROM-TO`
abbrev pub labels_text : ℕ → ℕ → List ℕ
labels_text from to = decimal from ++ codes "-" ++ decimal to

-- a range of u: its labels, and the neighbour at its port
abbrev pub range_words : List Name → Topology → ℕ → LabelRange → List (List ℕ)
range_words nodes topology u r = labels_text r.from r.to ∷ name_at nodes (node_by topology u r.port) ∷ []

-- a node: its name, its label, and ranges
abbrev pub range_node_words : List Name → Plan → ℕ → List LabelRange → List (List ℕ)
range_node_words nodes plan u set = name_at nodes u ∷ decimal (label_in plan u) ∷ flat_map (range_words nodes plan.topology u) set

-- the line of a node: with its ranges
abbrev pub ranges_line : List Name → Plan → ℕ → List ℕ
ranges_line nodes plan u = line_text (range_node_words nodes plan u (ranges_in plan u))

-- how many ranges the nodes have
abbrev pub range_count : Plan → ℕ
range_count plan = sum_by (λ u. length (ranges_in plan u)) (range_with_len 0 (node_count plan.topology))

-- `ranges KIND N COUNT`
abbrev pub ranges_head : Plan → ℕ → List (List ℕ)
ranges_head plan count = codes "ranges" ∷ kind_text plan.kind ∷ decimal (node_count plan.topology) ∷ decimal count ∷ []

-- the first line, and a line for each node in node order
abbrev pub ranges_text : List Name → Plan → List ℕ
ranges_text nodes plan = line_text (ranges_head plan (range_count plan)) ++ flat_map (ranges_line nodes plan) (range_with_len 0 (node_count plan.topology))

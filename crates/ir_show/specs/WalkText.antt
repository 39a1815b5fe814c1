-- The text of a walk.
use Rattle.std.specs.Prelude.{◌≡◌, ◌≢◌, ℕ, ◌<◌, ◌==◌, if◌then◌else◌, Some, List, [], ◌∷◌, ◌++◌, Contains, flat_map, find, unwrap_or, decimal, codes}
use Rattle.std.specs.Option.{option_map_or}
use Rattle.ir_model.specs.declared.Hop.{Hop}
use Rattle.ir_model.specs.Graph.{Name}
use Rattle.ir_model.specs.Topology.{node_count}
use Rattle.ir_model.specs.Interval.{PortInterval, HasLabel}
use Rattle.ir_model.specs.Row.{Start, intervals_of}
use Rattle.ir_model.specs.Walk.{walk_weight}
use Rattle.ir_model.specs.Table.{IsPrescribedWalk}
use Rattle.ir_model.specs.Plan.{Plan, label_in, row_in, table_port, next_hop}
use Rattle.ir_plan.specs.Shown.{has_label}
use Rattle.ir_trace.specs.Written.{name_at}
use Rattle.ir_show.specs.PlanText.{kind_text}
use Rattle.ir_show.specs.Words.{line_text}

-- no interval, where a row has none
abbrev pub no_interval : PortInterval
no_interval = record { start = 0; end = 0; port = 0 }

-- the interval of a row that has an address, the first if there were several
abbrev pub interval_with : List Start → ℕ → PortInterval
interval_with row address = unwrap_or (find (has_label address) (intervals_of row)) no_interval

-- The interval of u's row for what goes to b: the label of b lies in it, and its port is the full table's.
pub record IsIntervalTo (plan : Plan) (u b : ℕ) (m : PortInterval) : Type 0 where
  pub member : Contains (intervals_of (row_in plan u)) m
  pub has : HasLabel (node_count plan.topology) m (label_in plan b)
  pub port : table_port plan u b ≡ Some m.port

-- on the way to b: the interval of u's row that has the label of b, its start and its end, and the neighbour and weight of a hop
abbrev pub onward_words : List Name → Plan → ℕ → ℕ → Hop → List (List ℕ)
onward_words nodes plan b u hop =
    decimal (interval_with (row_in plan u) (label_in plan b)).start ∷ decimal (interval_with (row_in plan u) (label_in plan b)).end ∷ name_at nodes hop.node ∷ decimal hop.weight ∷ []

-- a node on the way to b: its name and label, and before the end where the full table sends on what goes to b
abbrev pub stop_words : List Name → Plan → ℕ → ℕ → List (List ℕ)
stop_words nodes plan b u =
    name_at nodes u ∷ decimal (label_in plan u) ∷ (if u == b then [] else option_map_or (onward_words nodes plan b u) (next_hop plan u b) [])

-- `walk KIND A B ADDRESS WEIGHT`
abbrev pub walk_head : List Name → Plan → ℕ → ℕ → ℕ → List (List ℕ)
walk_head nodes plan a b weight = codes "walk" ∷ kind_text plan.kind ∷ name_at nodes a ∷ name_at nodes b ∷ decimal (label_in plan b) ∷ decimal weight ∷ []

-- the text of a walk from a to b: the first line, and a line for each of its nodes
abbrev pub walk_text : List Name → Plan → ℕ → ℕ → List ℕ → List ℕ
walk_text nodes plan a b walk = line_text (walk_head nodes plan a b (walk_weight plan.topology walk)) ++ flat_map (λ u. line_text (stop_words nodes plan b u)) walk

-- The text is that of the walk from a to b that the plan's full table prescribes; each other node than b has an interval
-- for what goes to b.
pub record IsWalkOf (nodes : List Name) (plan : Plan) (a b : ℕ) (text : List ℕ) : Type 0 where
  pub walk : List ℕ
  pub prescribed : IsPrescribedWalk plan.topology (table_port plan) a b walk
  pub intervals : (u : ℕ) → u < node_count plan.topology → u ≢ b → IsIntervalTo plan u b (interval_with (row_in plan u) (label_in plan b))
  pub whole : text ≡ walk_text nodes plan a b walk

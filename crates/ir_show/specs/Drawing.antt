-- The drawing of a plan, for Graphviz.
use Rattle.std.specs.Prelude.{◌≡◌, ℕ, ◌+◌, ◌%◌, Bool, false, ◌==◌, ◌&&◌, ◌||◌, nat_lt, nat_le, if◌then◌else◌, Option, None, Some, List, [], ◌∷◌, ◌++◌, length, map, filter, flat_map, sum_by, decimal, codes}
use Rattle.std.specs.List.{range_with_len, join_with_byte, list_any}
use Rattle.std.specs.Option.{option_map_or}
use Rattle.ir_model.specs.declared.Hop.{Hop}
use Rattle.ir_model.specs.declared.Kind.{Kind}
use Rattle.ir_model.specs.declared.Kind.TheVariants.{Tree, Shortest, Compact, Landmark}
use Rattle.ir_model.specs.Graph.{Name}
use Rattle.ir_model.specs.Interval.{PortInterval}
use Rattle.ir_model.specs.Landmark.{AreMostLinked}
use Rattle.ir_model.specs.Topology.{Topology, node_count, ports_of, port_at}
use Rattle.ir_model.specs.Row.{intervals_of}
use Rattle.ir_model.specs.Table.{IsPrescribedWalk}
use Rattle.ir_model.specs.Plan.{Plan, label_in, row_in, table_port}
use Rattle.ir_trace.specs.Rows.{spaced}
use Rattle.ir_trace.specs.Written.{name_at}
use Rattle.ir_show.specs.Quoted.{escaped, quoted}

-- the landmarks of a landmark plan; another plan has none
abbrev pub ArePlanLandmarks : Kind → Plan → List ℕ → Type 0
ArePlanLandmarks Tree plan landmarks = landmarks ≡ []
ArePlanLandmarks Shortest plan landmarks = landmarks ≡ []
ArePlanLandmarks Compact plan landmarks = landmarks ≡ []
ArePlanLandmarks (Landmark t) plan landmarks = AreMostLinked plan.topology plan.root t.landmarks landmarks

-- 1 for a landmark whose label is not above that of u
abbrev pub begun_by : Plan → ℕ → ℕ → ℕ
begun_by plan u landmark = if nat_le (label_in plan landmark) (label_in plan u) then 1 else 0

-- Which block a node is of: the labels of a block begin with that of its landmark, so it is as many as there are
-- landmarks whose labels are not above its own.
abbrev pub block_of : Plan → List ℕ → ℕ → ℕ
block_of plan landmarks u = sum_by (begun_by plan u) landmarks

abbrev pub is_in_landmarks : List ℕ → ℕ → Bool
is_in_landmarks landmarks u = list_any (λ l. l == u) landmarks

-- a landmark is a box
abbrev pub shape_text : List ℕ → ℕ → List ℕ
shape_text landmarks u = if is_in_landmarks landmarks u then codes ", shape=box" else []

-- each block has one of twelve colours (set312 of ColorBrewer)
abbrev pub colour_text : ℕ → List ℕ
colour_text block = codes ", style=filled, fillcolor=\"/set312/" ++ decimal (block % 12 + 1) ++ codes "\""

-- what marks a node, where there are landmarks
abbrev pub node_marks : Plan → List ℕ → ℕ → List ℕ
node_marks plan landmarks u = if length landmarks == 0 then [] else shape_text landmarks u ++ colour_text (block_of plan landmarks u)

-- a node: its name, and for the eye its name and label
abbrev pub node_line : List Name → Plan → List ℕ → ℕ → List ℕ
node_line nodes plan landmarks u =
    codes "  " ++ quoted (name_at nodes u) ++ codes " [label=\"" ++ escaped (name_at nodes u) ++ spaced (decimal (label_in plan u)) ++ codes "\""
    ++ node_marks plan landmarks u ++ codes "];\n"

-- `[START,END)`
abbrev pub span_text : ℕ → ℕ → List ℕ
span_text start end = codes "[" ++ decimal start ++ codes "," ++ decimal end ++ codes ")"

abbrev pub interval_text : PortInterval → List ℕ
interval_text m = span_text m.start m.end

-- whether the port of an interval of u's row is by a link
abbrev pub goes_by : Topology → ℕ → ℕ → PortInterval → Bool
goes_by topology u link m = option_map_or (λ hop. hop.link == link) (port_at topology u m.port) false

-- the intervals of u's row whose port is by a link, with one space between
abbrev pub intervals_text : Plan → ℕ → ℕ → List ℕ
intervals_text plan u link = join_with_byte 32 (map interval_text (filter (goes_by plan.topology u link) (intervals_of (row_in plan u))))

-- whether x and y are u and v, in one order or the other
abbrev pub are_ends : ℕ → ℕ → ℕ → ℕ → Bool
are_ends u v x y = (x == u && y == v) || (x == v && y == u)

-- whether two nodes that follow one another in the list are u and v
abbrev pub passes_from : ℕ → ℕ → ℕ → List ℕ → Bool
passes_from u v x [] = false
passes_from u v x (y ∷ rest) = are_ends u v x y || passes_from u v y rest

abbrev pub passes : ℕ → ℕ → List ℕ → Bool
passes u v [] = false
passes u v (x ∷ rest) = passes_from u v x rest

-- bold, where the walk passes from one end to the other
abbrev pub edge_style : ℕ → ℕ → List ℕ → List ℕ
edge_style u v walk = if passes u v walk then codes ", style=bold" else []

-- the two ends of a link
abbrev pub edge_ends : List Name → ℕ → ℕ → List ℕ
edge_ends nodes u v = codes "  " ++ quoted (name_at nodes u) ++ codes " -- " ++ quoted (name_at nodes v)

-- the weight of a link of u, and at each end the intervals of its port
abbrev pub edge_labels : Plan → ℕ → Hop → List ℕ
edge_labels plan u hop =
    codes " [label=\"" ++ decimal hop.weight ++ codes "\", taillabel=\"" ++ intervals_text plan u hop.link ++ codes "\", headlabel=\"" ++ intervals_text plan hop.node hop.link ++ codes "\""

-- a link of u
abbrev pub edge_line : List Name → Plan → List ℕ → ℕ → Hop → List ℕ
edge_line nodes plan walk u hop =
    edge_ends nodes u hop.node ++ edge_labels plan u hop ++ edge_style u hop.node walk ++ codes "];\n"

-- the links of u to later nodes, in the order of its ports
abbrev pub edge_lines : List Name → Plan → List ℕ → ℕ → List ℕ
edge_lines nodes plan walk u = flat_map (edge_line nodes plan walk u) (filter (λ hop. nat_lt u hop.node) (ports_of plan.topology u))

-- a line for each node, and a line for each link from its first node on
abbrev pub drawing : List Name → Plan → List ℕ → List ℕ → List ℕ
drawing nodes plan landmarks walk =
    codes "graph {\n" ++ flat_map (node_line nodes plan landmarks) (range_with_len 0 (node_count plan.topology))
    ++ flat_map (edge_lines nodes plan walk) (range_with_len 0 (node_count plan.topology)) ++ codes "}\n"

-- the walk that is drawn in bold: that from a to b which the full table prescribes, or none
abbrev pub IsBold : Plan → Option (ℕ × ℕ) → List ℕ → Type 0
IsBold plan None walk = walk ≡ []
IsBold plan (Some ends) walk = IsPrescribedWalk plan.topology (table_port plan) ends.0 ends.1 walk

-- The text is a drawing of a plan, with the walk between these ends in bold, if there are any, and its landmarks marked.
pub record IsDrawingOf (nodes : List Name) (plan : Plan) (ends : Option (ℕ × ℕ)) (text : List ℕ) : Type 0 where
  pub walk : List ℕ
  pub bold : IsBold plan ends walk
  pub landmarks : List ℕ
  pub landmarks_are : ArePlanLandmarks plan.kind plan landmarks
  pub whole : text ≡ drawing nodes plan landmarks walk

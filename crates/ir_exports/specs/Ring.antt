-- The circle of labels with the intervals of a node u, coloured by port, for Graphviz: a ring of all nodes by label.
use Rattle.std.specs.Prelude.{ℕ, ◌+◌, ◌-◌, ◌==◌, if◌then◌else◌, nat_lt, Option, None, Some, List, [], ◌++◌, length, flat_map, decimal, codes}
use Rattle.std.specs.List.{range_with_len}
use Rattle.ir_model.specs.Graph.{Name}
use Rattle.ir_model.specs.Topology.{node_count, ports_of}
use Rattle.ir_model.specs.Plan.{Plan, node_in, table_port}
use Rattle.ir_trace.specs.Written.{name_at}
use Rattle.ir_show.specs.PlanText.{node_by}
use Rattle.ir_show.specs.Quoted.{escaped, quoted}
use Rattle.ir_show.specs.Drawing.{edge_ends}
use Rattle.ir_exports.specs.Ports.{ink, colour, intervals_by, first_intervals, shown_ports}

-- the colour of the port that the full table has, and ink for u itself
abbrev pub paint : Option ℕ → List ℕ
paint None = ink
paint (Some port) = colour port

-- the node with a label, and for the eye its name and under it the label, in the colour of u's port for it
abbrev pub node_of_ring : List Name → Plan → ℕ → ℕ → List ℕ
node_of_ring nodes plan u d =
    codes "  " ++ quoted (name_at nodes (node_in plan d)) ++ codes " [label=\"" ++ escaped (name_at nodes (node_in plan d)) ++ codes "\\n" ++ decimal d
    ++ codes "\", fillcolor=\"" ++ paint (table_port plan u (node_in plan d)) ++ codes "\"];\n"

-- the label after d
abbrev pub label_behind : ℕ → ℕ → ℕ
label_behind n d = if d + 1 == n then 0 else d + 1

-- the nodes with two labels that follow one another; none with itself
abbrev pub edge_of_ring : List Name → Plan → ℕ → List ℕ
edge_of_ring nodes plan d =
    if node_count plan.topology == 1 then []
    else edge_ends nodes (node_in plan d) (node_in plan (label_behind (node_count plan.topology) d)) ++ codes ";\n"

-- a port: `NEIGHBOUR: INTERVALS`; no name of a node has a space, so `port P` is none
abbrev pub port_box : List Name → Plan → ℕ → ℕ → List ℕ
port_box nodes plan u port =
    codes "  \"port " ++ decimal port ++ codes "\" [fillcolor=\"" ++ colour port ++ codes "\", label=\"" ++ escaped (name_at nodes (node_by plan.topology u port)) ++ codes ":"
    ++ first_intervals (intervals_by plan u port) ++ codes "\"];\n"

-- how many ports have no box
abbrev pub more_box : ℕ → List ℕ
more_box count = if nat_lt 30 count then codes "  \"more ports\" [fillcolor=\"#1d2733\", label=\"and " ++ decimal (count - 30) ++ codes " more ports\"];\n" else []

abbrev pub ring_head : List ℕ
ring_head =
    codes "strict graph {\n  layout=circo;\n  node [shape=box, style=\"rounded,filled\", fontname=\"sans-serif\", fontcolor=\"#ffffff\"];\n  edge [color=\"#9aa5b1\"];\n"

abbrev pub circle_dot : List Name → Plan → ℕ → List ℕ
circle_dot nodes plan u =
    ring_head ++ flat_map (node_of_ring nodes plan u) (range_with_len 0 (node_count plan.topology)) ++ flat_map (edge_of_ring nodes plan) (range_with_len 0 (node_count plan.topology))
    ++ flat_map (port_box nodes plan u) (range_with_len 0 (shown_ports (length (ports_of plan.topology u))))
    ++ more_box (length (ports_of plan.topology u)) ++ codes "}\n"

-- Which refusal a call on a graph meets, memory aside.
use Rattle.std.specs.Prelude.{◌≡◌, ℕ, not, ◌&&◌, if◌then◌else◌, length, nat_lt, Option, Some, None}
use Rattle.ir_model.specs.Graph.{Name, Adjacency, edges, with_node, with_edge, is_name, is_weight}
use Rattle.ir_model.specs.declared.TheConstants.{MAX_NODES, MAX_EDGES}
use Rattle.ir_graph.specs.declared.error.GraphError.{GraphError}
use Rattle.ir_graph.specs.declared.error.GraphError.TheVariants.{BadName, BadWeight, NoNode, NoEdge, TooManyNodes, TooManyEdges, EmptyGraph, NoMemory}

abbrev pub node_fault : Adjacency → Name → Option GraphError
node_fault g x =
    if not (is_name x) then Some BadName
    else if nat_lt MAX_NODES (length (with_node g x)) then Some TooManyNodes
    else None

abbrev pub edge_fault : Adjacency → Name → Name → ℕ → Option GraphError
edge_fault g u v w =
    if not (is_name u && is_name v) then Some BadName
    else if not (is_weight w) then Some BadWeight
    else if nat_lt MAX_NODES (length (with_node (with_node g u) v)) then Some TooManyNodes
    else if nat_lt MAX_EDGES (length (edges (with_edge g u v w))) then Some TooManyEdges
    else None

-- The error is the fault. Want of memory comes only where there is none
abbrev pub Refuses : Option GraphError → GraphError → Type 0
Refuses fault NoMemory = fault ≡ None
Refuses fault e = fault ≡ Some e

-- the number of an error
abbrev pub graph_code : GraphError → ℕ
graph_code BadName = 1
graph_code BadWeight = 2
graph_code NoNode = 3
graph_code NoEdge = 4
graph_code TooManyNodes = 5
graph_code TooManyEdges = 6
graph_code EmptyGraph = 7
graph_code NoMemory = 8

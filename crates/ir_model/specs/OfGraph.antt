-- The network of a graph.
use Rattle.std.specs.Prelude.{ℕ, min, max, not, List, map, filter, bytes_eq}
use Rattle.std.specs.List.{position_or_len}
use Rattle.ir_model.specs.declared.Link.{Link}
use Rattle.ir_model.specs.declared.Hop.{Hop}
use Rattle.ir_model.specs.Graph.{Name, Neighbors, Adjacency, edges}
use Rattle.ir_model.specs.Made.{Pair, joins}
use Rattle.ir_model.specs.Topology.{Topology}
use Rattle.ir_model.specs.Places.{place_of}

-- the edges that make links, in edge order: all but the self-loops
abbrev pub link_edges : Adjacency → List Pair
link_edges g = filter (λ e. not (bytes_eq e.0 e.1)) (edges g)

-- the link of an edge, by the places of its ends in node order, the smaller first
abbrev pub link_of : Adjacency → Pair → Link
link_of g e = record { low = min (place_of g e.0) (place_of g e.1); high = max (place_of g e.0) (place_of g e.1); weight = e.2 }

-- the number of the link between x and y: the place of their edge among those that make links
abbrev pub link_number : Adjacency → Name → Name → ℕ
link_number g x y = position_or_len (joins x y) (link_edges g)

-- the port of x to a neighbour
abbrev pub port_of : Adjacency → Name → Name × ℕ → Hop
port_of g x e = record { node = place_of g e.0; link = link_number g x e.0; weight = e.1 }

-- the ports of a node: its other neighbours, in adjacency order
abbrev pub node_ports : Adjacency → Name → Neighbors → List Hop
node_ports g x es = map (port_of g x) (filter (λ e. not (bytes_eq x e.0)) es)

-- The network of a graph. Its nodes are places in node order, its links are the edges without the self-loops, in edge
-- order, and the ports of a node are its other neighbours in adjacency order.
abbrev pub topology_of_graph : Adjacency → Topology
topology_of_graph g = record { links = map (link_of g) (link_edges g); ports = map (λ r. node_ports g r.0 r.1) g }

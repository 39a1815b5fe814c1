-- What a graph is after its text is read again.
use Rattle.std.specs.Prelude.{◌≡◌, ℕ, true, List, [], None, option_map}
use Rattle.ir_model.specs.Graph.{Name, Adjacency, has_node, has_edge, weight_of}
use Rattle.ir_model.specs.Made.{graph_of}
use Rattle.ir_model.specs.Text.{lines, names_in, pairs_in, first_fault}
use Rattle.ir_model.specs.Edgelist.{edges_in, graph_of_edges, first_edge_fault}

-- As an adjacency list the text has no fault, and names the graph's nodes and its edges, each of weight 1.
pub record IsReadAsAdjlist (g : Adjacency) (text : List ℕ) : Type 0 where
  pub no_fault : first_fault [] (lines text) ≡ None
  pub same_nodes : (x : Name) → has_node (graph_of (names_in (lines text)) (pairs_in (lines text))) x ≡ has_node g x
  pub same_edges : (x y : Name) → weight_of (graph_of (names_in (lines text)) (pairs_in (lines text))) x y ≡ option_map (λ w. 1) (weight_of g x y)

-- no node is without an edge
abbrev pub EachHasEdge : Adjacency → Type 0
EachHasEdge g = (x : Name) → has_node g x ≡ true → (y : Name) × (has_edge g x y ≡ true)

-- As a weighted edge list the text has no fault, and names the graph's edges with their weights, and the graph's nodes
-- where no node is without an edge.
pub record IsReadAsEdgelist (g : Adjacency) (text : List ℕ) : Type 0 where
  pub no_fault : first_edge_fault (lines text) ≡ None
  pub same_edges : (x y : Name) → weight_of (graph_of_edges (edges_in (lines text))) x y ≡ weight_of g x y
  pub same_nodes : EachHasEdge g → (x : Name) → has_node (graph_of_edges (edges_in (lines text))) x ≡ has_node g x

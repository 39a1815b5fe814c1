-- Paths of a graph, by the names of its nodes.
use Rattle.std.specs.Prelude.{◌≡◌, ◌<◌, true, length, List, [], ◌∷◌}
use Rattle.ir_model.specs.Graph.{Name, Adjacency, has_node, has_edge}
use Rattle.ir_graph.specs.declared.error.GraphError.{GraphError}
use Rattle.ir_graph.specs.declared.error.GraphError.TheVariants.{EmptyGraph, NoMemory}

-- From x on, each name of the list is linked to the one before it, and the last one is y.
abbrev pub IsPath : Adjacency → Name → Name → List Name → Type 0
IsPath g x y [] = x ≡ y
IsPath g x y (z ∷ rest) = (has_edge g x z ≡ true) × IsPath g z y rest

-- Each two nodes have a path from one to the other.
abbrev pub IsConnectedGraph : Adjacency → Type 0
IsConnectedGraph g = (x y : Name) → has_node g x ≡ true → has_node g y ≡ true → (path : List Name) × IsPath g x y path

-- That the graph has no node is reported first. Want of memory comes only where there is one.
abbrev pub RefusesEmpty : Adjacency → GraphError → Type 0
RefusesEmpty g NoMemory = 0 < length g
RefusesEmpty g e = (e ≡ EmptyGraph) × (length g ≡ 0)

-- The texts that a graph is written as.
use Rattle.std.specs.Prelude.{ℕ, not, List, [], ◌∷◌, ◌++◌, filter, flat_map, decimal}
use Rattle.std.specs.Map.{keys_of}
use Rattle.ir_model.specs.Graph.{Name, Neighbors, Adjacency, among, edges}
use Rattle.ir_model.specs.Made.{Pair}

-- words with one space between, and a line feed
abbrev pub row_text : Name → List Name → List ℕ
row_text first words = first ++ flat_map (λ word. 32 ∷ word) words ++ 10 ∷ []

-- the neighbours that were not written as a source, in order
abbrev pub targets_behind : List Name → Neighbors → List Name
targets_behind written es = filter (λ y. not (among written y)) (keys_of es)

-- a line for each node: the node, and its neighbours that were not written as a source
abbrev pub adjlist_behind : List Name → Adjacency → List ℕ
adjlist_behind written [] = []
adjlist_behind written (r ∷ rs) = row_text r.0 (targets_behind written r.1) ++ adjlist_behind (r.0 ∷ written) rs

abbrev pub adjlist_text : Adjacency → List ℕ
adjlist_text g = adjlist_behind [] g

-- a line for each edge: its ends and its weight
abbrev pub edge_text : Pair → List ℕ
edge_text e = row_text e.0 (e.1 ∷ decimal e.2 ∷ [])

abbrev pub edgelist_text : Adjacency → List ℕ
edgelist_text g = flat_map edge_text (edges g)

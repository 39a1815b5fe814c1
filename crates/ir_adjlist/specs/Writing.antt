-- What the writers put after a text, step by step.
use Rattle.std.specs.Prelude.{ℕ, not, List, ◌∷◌, filter, flat_map, take}
use Rattle.std.specs.Map.{keys_of}
use Rattle.ir_model.specs.Graph.{Name, Neighbors, Adjacency, among, names, neighbors}
use Rattle.ir_adjlist.specs.Written.{row_text, edge_text}

-- each word after a space
abbrev pub spaced_words : List Name → List ℕ
spaced_words words = flat_map (λ word. 32 ∷ word) words

-- those that are none of the first nodes
abbrev pub unwritten : Adjacency → ℕ → List Name → List Name
unwritten g count targets = filter (λ y. not (among (take count (names g)) y)) targets

-- the line of a node, before which so many were written
abbrev pub node_row : Adjacency → ℕ → Name → List ℕ
node_row g count x = row_text x (unwritten g count (keys_of (neighbors g x)))

abbrev pub unwritten_links : Adjacency → ℕ → Neighbors → Neighbors
unwritten_links g count es = filter (λ e. not (among (take count (names g)) e.0)) es

-- the lines of a node's edges
abbrev pub node_edges : Adjacency → ℕ → Name → Neighbors → List ℕ
node_edges g count x es = flat_map (λ e. edge_text (x, e.0, e.1)) (unwritten_links g count es)

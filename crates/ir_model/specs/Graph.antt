-- A graph as contracts see it: its nodes in order, each with its neighbours in order and the weight of the link to each.
use Rattle.std.specs.Prelude.{ℕ, ◌+◌, ◌≤◌, ◌≡◌, Bool, true, not, ◌&&◌, if◌then◌else◌, List, [], ◌∷◌, ◌++◌, map, filter, length, Option, unwrap_or, bytes_eq, nat_le, ◌==◌}
use Rattle.std.specs.List.{list_any, list_all, IsDistinct}
use Rattle.std.specs.Option.{is_some}
use Rattle.std.specs.Map.{lookup, keys_of}
use Rattle.ir_model.specs.declared.TheConstants.{MAX_NODES, MAX_EDGES, MAX_NAME_BYTES, MAX_WEIGHT}

-- the bytes of a name
abbrev pub Name : Type 0
Name = List ℕ

-- neighbours in order, each with the weight of its link
abbrev pub Neighbors : Type 0
Neighbors = List (Name × ℕ)

abbrev pub Adjacency : Type 0
Adjacency = List (Name × Neighbors)

-- whether the name is in the list
abbrev pub among : List Name → Name → Bool
among names x = list_any (bytes_eq x) names

-- the nodes, in order
abbrev pub names : Adjacency → List Name
names g = keys_of g

abbrev pub has_node : Adjacency → Name → Bool
has_node g x = is_some (lookup (bytes_eq x) g)

-- the neighbours of x, in order; none where x is no node
abbrev pub neighbors : Adjacency → Name → Neighbors
neighbors g x = unwrap_or (lookup (bytes_eq x) g) []

-- the weight of the link between x and y
abbrev pub weight_of : Adjacency → Name → Name → Option ℕ
weight_of g x y = lookup (bytes_eq y) (neighbors g x)

abbrev pub has_edge : Adjacency → Name → Name → Bool
has_edge g x y = is_some (weight_of g x y)

-- the ends of edges at x: a self-loop has two
abbrev pub degree : Adjacency → Name → ℕ
degree g x = length (neighbors g x) + (if has_edge g x x then 1 else 0)

-- by node, then by neighbour, leaving out neighbours that were walked as a node
abbrev pub edges_after : List Name → Adjacency → List (Name × Name × ℕ)
edges_after walked [] = []
edges_after walked (r ∷ rs) = map (λ e. (r.0, e.0, e.1)) (filter (λ e. not (among walked e.0)) r.1) ++ edges_after (r.0 ∷ walked) rs

-- the edges, in order
abbrev pub edges : Adjacency → List (Name × Name × ℕ)
edges g = edges_after [] g

-- ---- changes

-- with x as the last node, where it was none
abbrev pub with_node : Adjacency → Name → Adjacency
with_node g x = if has_node g x then g else g ++ (x, []) ∷ []

-- with y at this weight: in its place where it is there, and else last
abbrev pub put : Neighbors → Name → ℕ → Neighbors
put [] y w = (y, w) ∷ []
put (e ∷ es) y w = if bytes_eq y e.0 then (e.0, w) ∷ es else e ∷ put es y w

-- what x has as neighbours, once u and v are linked
abbrev pub linked : Name → Name → ℕ → Name → Neighbors → Neighbors
linked u v w x es = if bytes_eq x u then put es v w else if bytes_eq x v then put es u w else es

-- with an edge between u and v, whose missing ends are added, u first
abbrev pub with_edge : Adjacency → Name → Name → ℕ → Adjacency
with_edge g u v w = map (λ r. (r.0, linked u v w r.0 r.1)) (with_node (with_node g u) v)

-- without y
abbrev pub without : Neighbors → Name → Neighbors
without es y = filter (λ e. not (bytes_eq y e.0)) es

-- what x has as neighbours, once u and v are no longer linked
abbrev pub unlinked : Name → Name → Name → Neighbors → Neighbors
unlinked u v x es = if bytes_eq x u then without es v else if bytes_eq x v then without es u else es

abbrev pub without_edge : Adjacency → Name → Name → Adjacency
without_edge g u v = map (λ r. (r.0, unlinked u v r.0 r.1)) g

-- without the node and its edges
abbrev pub without_node : Adjacency → Name → Adjacency
without_node g x = map (λ r. (r.0, without r.1 x)) (filter (λ r. not (bytes_eq x r.0)) g)

-- ---- what is true of each graph

-- `!` to `~` without `#`
abbrev pub is_name_byte : ℕ → Bool
is_name_byte b = nat_le 33 b && nat_le b 126 && not (b == 35)

abbrev pub is_name : Name → Bool
is_name x = nat_le 1 (length x) && nat_le (length x) MAX_NAME_BYTES && list_all is_name_byte x

abbrev pub is_weight : ℕ → Bool
is_weight w = nat_le 1 w && nat_le w MAX_WEIGHT

-- a row: its name is one, its neighbours differ, and each weight is one
abbrev pub is_row : Name × Neighbors → Bool
is_row r = is_name r.0 && list_all (λ e. is_weight e.1) r.1

pub record IsGraph (g : Adjacency) : Type 0 where
  pub nodes_differ : IsDistinct bytes_eq (names g)
  pub neighbors_differ : (x : Name) → IsDistinct bytes_eq (keys_of (neighbors g x))
  pub both_ways : (x y : Name) → weight_of g x y ≡ weight_of g y x
  pub rows : list_all is_row g ≡ true
  pub node_limit : length g ≤ MAX_NODES
  pub edge_limit : length (edges g) ≤ MAX_EDGES

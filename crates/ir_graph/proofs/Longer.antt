-- A graph with more nodes begins with what it was.
use Rattle.std.proofs.Common.{◌≡◌, ◌≤◌, ◌∙◌, ◌++◌, ◌∷◌, [], ℕ, true, false, cond, length, take, refl, arith}
use Rattle.std.proofs.lemmas.List.{take-append-le, take_all}
use Rattle.ir_model.specs.Graph.{Name, Adjacency, has_node, with_node}
use Rattle.ir_graph.proofs.Keeping.{length-with_node_is}

pub take-with_node : (n : ℕ) (g : Adjacency) (x : Name) → n ≤ length g → take n (with_node g x) ≡ take n g
take-with_node n g x l = elim (has_node g x) as (λ b. take n (cond b g (g ++ (x, []) ∷ [])) ≡ take n g) [ true ↦ refl | false ↦ take-append-le n g ((x, []) ∷ []) l ]

pub take-with_two : (g : Adjacency) (u v : Name) → take (length g) (with_node (with_node g u) v) ≡ g
take-with_two g u v =
    take-with_node (length g) (with_node g u) v (omega (arith, length-with_node_is g u)) ∙ take-with_node (length g) g u (omega arith) ∙ take_all (length g) g (omega arith)

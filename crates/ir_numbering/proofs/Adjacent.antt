-- Depth-first numberings by one and by another account of the neighbours.
use Rattle.std.proofs.Common.{◌≡◌, ℕ, zero, suc, ◌+◌, ◌<◌, ◌≤◌, List, [], ◌∷◌, length, map, take, refl, ap, sym, ◌∙◌, subst, arith}
use Rattle.std.specs.Prelude.{slice_index, slice_index_or}
use Rattle.std.specs.Global.{Vec}
use Rattle.std.proofs.lemmas.List.{length-take-le, get_or-take}
use Rattle.ir_model.specs.declared.Hop.{Hop}
use Rattle.ir_model.specs.Topology.{Topology, node_count}
use Rattle.ir_model.specs.Numbering.{neighbors_of, IsFirstOutside, NoneOutside, IsNext, IsDepthFirst}
use Rattle.ir_numbering.specs.Search.{list_at}

-- the list that a function gives for a place
mapped_at : {X : Type 0} (f : List X → List ℕ) → f [] ≡ [] → (xs : List (List X)) (u : ℕ) → slice_index_or (map f xs) u [] ≡ f (slice_index_or xs u [])
mapped_at f none [] u = sym none
mapped_at f none (x ∷ xs) zero = refl
mapped_at f none (x ∷ xs) (suc u) = mapped_at f none xs u

-- the lists of a topology's neighbours have them
pub lists_are_neighbors : (net : Topology) (lists : List (Vec ℕ)) → map (λ list. list.items) lists ≡ map (map (λ (hop : Hop). hop.node)) net.ports → (u : ℕ) → list_at lists u ≡ neighbors_of net u
lists_are_neighbors net lists is u = ap (λ (ls : List (List ℕ)). slice_index_or ls u []) is ∙ mapped_at (map (λ (hop : Hop). hop.node)) refl net.ports u

-- a depth-first numbering stays one where each node has the same neighbours
pub depth_first_by : (f g : ℕ → List ℕ) (n root : ℕ) (order parents : List ℕ) → ((u : ℕ) → u < n → f u ≡ g u) → IsDepthFirst f n root order parents → IsDepthFirst g n root order parents
depth_first_by f g n root order parents same d = record {
  every = d.every;
  parented = d.parented;
  nodes = d.nodes;
  once = d.once;
  root_first = d.root_first;
  next = λ i from below.
      let is = d.next i from below in
      let seen : List ℕ = take i order in
      let len : length seen ≡ i = length-take-le i order (omega (arith, below, d.every)) in
      let at : (k : ℕ) → k < length seen → f (slice_index seen k) ≡ g (slice_index seen k) =
      λ k h. same (slice_index seen k) (subst (λ (v : ℕ). v < n) (sym (get_or-take i order k 0 (omega (arith, h, len)))) (d.nodes k 0 (omega (arith, h, len, below, d.every)))) in
      record {
        below = is.below;
        neighbor = subst (λ (xs : List ℕ). IsFirstOutside seen xs (slice_index order i)) (at (slice_index parents i) is.below) is.neighbor;
        greatest = λ k after h. subst (λ (xs : List ℕ). NoneOutside seen xs) (at k h) (is.greatest k after h);
      };
}

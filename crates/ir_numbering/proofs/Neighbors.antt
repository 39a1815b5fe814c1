-- The neighbours of a node, and its ports.
use Rattle.std.proofs.Common.{◌≡◌, ℕ, ◌<◌, length, get_or, Some, refl, ap, sym, ◌∙◌, subst, arith}
use Rattle.std.specs.Prelude.{All, slice_index}
use Rattle.std.proofs.lemmas.List.{get_or-map, length-map, get_or_default}
use Rattle.std.proofs.lemmas.Option.{slice_get_within, get_or_from_slice_get, slice_get-get_or}
use Rattle.ir_model.specs.declared.Hop.{Hop}
use Rattle.ir_model.specs.Topology.{Topology, node_count, ports_of, port_at, IsTopology, port_back}
use Rattle.ir_model.specs.Numbering.{neighbors_of}
use Rattle.ir_model.specs.Walk.{Linked}
use Rattle.ir_model.proofs.Walks.{port_facts}

abbrev pub node_in : Hop → ℕ
node_in hop = hop.node

pub neighbors_length : (net : Topology) (u : ℕ) → length (neighbors_of net u) ≡ length (ports_of net u)
neighbors_length net u = length-map (ports_of net u) (λ (hop : Hop). hop.node)

-- the neighbour at a place is where the port leads
pub neighbor_at : (net : Topology) (u p : ℕ) (hop : Hop) → port_at net u p ≡ Some hop → (p < length (neighbors_of net u)) × (slice_index (neighbors_of net u) p ≡ hop.node)
neighbor_at net u p hop at =
    let within : p < length (ports_of net u) = slice_get_within (ports_of net u) p hop at in
    let len = neighbors_length net u in
    let is : get_or (ports_of net u) p hop ≡ hop = get_or_from_slice_get (ports_of net u) p hop hop at in
    (omega arith, get_or-map (λ (hop : Hop). hop.node) (ports_of net u) p hop 0 within ∙ ap node_in is)

-- each neighbour has a port
pub port_of_neighbor : (net : Topology) (u p : ℕ) → p < length (neighbors_of net u) → (hop : Hop) × (port_at net u p ≡ Some hop) × (hop.node ≡ slice_index (neighbors_of net u) p)
port_of_neighbor net u p h =
    let len = neighbors_length net u in
    let none : Hop = record { node = 0; link = 0; weight = 0 } in
    let within : p < length (ports_of net u) = omega arith in
    (get_or (ports_of net u) p none, slice_get-get_or (ports_of net u) p none within, sym (get_or-map (λ (hop : Hop). hop.node) (ports_of net u) p none 0 within))

pub contains_linked : (net : Topology) (u k : ℕ) → k < length (neighbors_of net u) → Linked net u (slice_index (neighbors_of net u) k)
contains_linked net u k h = let w = port_of_neighbor net u k h in (k, w.0, w.1, w.2)

-- links go both ways
pub linked_back : (net : Topology) → IsTopology net → (u v : ℕ) → Linked net u v → Linked net v u
linked_back net ok u v l =
    let back = ok.paired u l.0 l.1 l.2 in
    let P : ℕ → Type 0 = λ x. Linked net x u in
    subst P l.3 (back.0, port_back u l.1, back.1, refl)

pub linked_below : (net : Topology) → IsTopology net → (u v : ℕ) → Linked net u v → v < node_count net
linked_below net ok u v l = let to = (port_facts net ok u l.0 l.1 l.2).to in let e = l.3 in omega arith

pub neighbors_below : (net : Topology) → IsTopology net → (u : ℕ) → All (λ w. w < node_count net) (neighbors_of net u)
neighbors_below net ok u k d h =
    let b = linked_below net ok u (slice_index (neighbors_of net u) k) (contains_linked net u k h) in
    subst (λ (x : ℕ). x < node_count net) (get_or_default (neighbors_of net u) k 0 d h) b

-- What the ports of a node offer.
use Rattle.std.proofs.Common.{◌≡◌, ◌≢◌, ℕ, ◌+◌, ◌<◌, min, List, Some, slice_get, length, subst, arith, get_or, ⊎_elim}
use Rattle.std.proofs.lemmas.Option.{get_or_from_slice_get, slice_get-get_or}
use Rattle.std.proofs.lemmas.Bool.{cases_lt}
use Rattle.ir_model.specs.declared.Hop.{Hop}
use Rattle.ir_model.specs.Topology.{Topology, node_count, ports_of, port_at, IsTopology}
use Rattle.ir_model.proofs.Walks.{port_facts}
use Rattle.ir_tables.specs.Relaxation.{at, Offers}

-- what stands for a port past the end of a list
abbrev pub past : Hop
past = record { node = 0; link = 0; weight = 0 }

-- the port that a walk over the ports of u is at
pub port_next : (net : Topology) (u i : ℕ) (ports : List Hop) → ports ≡ ports_of net u → i < length ports → port_at net u i ≡ Some (get_or ports i past)
port_next net u i ports is lt = subst (λ (xs : List Hop). slice_get xs i ≡ Some (get_or ports i past)) is (slice_get-get_or ports i past lt)

-- and what it leads to is a node
pub node_next : (net : Topology) → IsTopology net → (u i : ℕ) (ports : List Hop) → ports ≡ ports_of net u → i < length ports → (get_or ports i past).node < node_count net
node_next net ok u i ports is lt = (port_facts net ok u i (get_or ports i past) (port_next net u i ports is lt)).to

-- what the port at p offers
pub offers_is : (ports : List Hop) (weights : List ℕ) (p offer : ℕ) → Offers ports weights p offer → offer ≡ at weights (get_or ports p past).node + (get_or ports p past).weight
offers_is ports weights p offer o =
    let e : get_or ports p past ≡ o.0 = get_or_from_slice_get ports p o.0 past o.1 in
    rw e (omega (arith, o.2))

-- where none of the first i ports offers own, and the port at i does not
pub none_more : (ports : List Hop) (weights : List ℕ) (own i sum : ℕ) → own < 4294967295
    → ((q : ℕ) → q < i → Offers ports weights q own → ⊥)
    → sum ≡ min (at weights (get_or ports i past).node + (get_or ports i past).weight) 4294967295
    → sum ≢ own
    → (q : ℕ) → q < i + 1 → Offers ports weights q own → ⊥
none_more ports weights own i sum fits before e ne q lt o =
    ⊎_elim (λ less. before q less o)
    (λ here. let same : q ≡ i = omega (arith, lt, here) in
    let P : ℕ → Type 0 = λ k. Offers ports weights k own in
    let is = offers_is ports weights i own (subst P same o) in
    ne (omega (arith, is, e, fits))) (cases_lt q i)

-- the port at i offers own
pub offers_here : (ports : List Hop) (weights : List ℕ) (own i sum : ℕ) → own < 4294967295 → i < length ports
    → sum ≡ min (at weights (get_or ports i past).node + (get_or ports i past).weight) 4294967295
    → sum ≡ own
    → Offers ports weights i own
offers_here ports weights own i sum fits lt e is = (get_or ports i past, slice_get-get_or ports i past lt, omega (arith, e, is, fits))

-- What settled weights say: the distances, and which nodes have a walk.
use Rattle.std.proofs.Common.{◌≡◌, ◌≢◌, ℕ, ◌+◌, ◌*◌, ◌<◌, ◌≤◌, List, [], ◌∷◌, ◌++◌, length, slice_index_or, IfSome, IfNone, Option, Some, None, refl, ap, sym, subst, arith, ⊎_elim}
use Rattle.std.proofs.lemmas.Bool.{cases_lt}
use Rattle.std.proofs.lemmas.List.{get_or_append_left, get_or_push}
use Rattle.ir_model.specs.declared.Hop.{Hop}
use Rattle.ir_model.specs.Topology.{Topology, node_count, ports_of, IsTopology}
use Rattle.ir_model.specs.Walk.{link_weight, LeadsTo, IsWalk, weight_from, walk_weight, IsDistance}
use Rattle.ir_model.specs.Table.{LeadsNearer, IsShortestPort}
use Rattle.ir_model.proofs.Tables.{distance_unique, distance_way}
use Rattle.ir_model.proofs.Walks.{link_weight_at, PortFacts, port_facts, leads_from_node, IsLightest, lightest_short, way_light}
use Rattle.ir_tables.specs.Relaxation.{IsSettled, IsReached, unreached, at, Offers, IsRelaxed, IsColumn}

-- a settled f is below the weight of every way
pub settled_below : (net : Topology) → IsTopology net → (d : ℕ) (f : ℕ → ℕ) → IsSettled net d f → (u : ℕ) (rest : List ℕ) → LeadsTo net u d rest → f u ≤ weight_from net u rest
settled_below net ok d f done u [] way = let e : f u ≡ f d = ap f way.0 in omega (arith, e, done.end)
settled_below net ok d f done u (v ∷ rest) way =
    let step : f u ≤ way.0.1.weight + f way.0.1.node = done.tight u way.0.0 way.0.1 way.0.2 in
    let later : f v ≤ weight_from net v rest = settled_below net ok d f done v rest way.1 in
    let here : f way.0.1.node ≡ f v = ap f way.0.3 in
    let P : ℕ → Type 0 = λ w. link_weight net u w ≡ way.0.1.weight in
    let weight : link_weight net u v ≡ way.0.1.weight = subst P way.0.3 (link_weight_at net ok u way.0.0 way.0.1 way.0.2) in
    omega (arith, step, later, here, weight)

-- a settled f is the distance wherever it gives the weight of a way
pub distance_from_settled : (net : Topology) → IsTopology net → (d : ℕ) (f : ℕ → ℕ) → IsSettled net d f → (u : ℕ) → IsReached net d f u → IsDistance net u d (f u)
distance_from_settled net ok d f done u way =
    record { reached = (u ∷ way.0, (refl, way.1), way.2); least = least_of }
  where
    least_of : (walk : List ℕ) → IsWalk net u d walk → f u ≤ walk_weight net walk
    least_of [] none = absurd none
    least_of (x ∷ rest) is = let e : f u ≡ f x = ap f (sym is.0) in let P : ℕ → Type 0 = λ y. LeadsTo net y d rest in
        let way' : LeadsTo net x d rest = subst P (sym is.0) is.1 in
        omega (arith, e, settled_below net ok d f done x rest way')

-- where a settled f gives the weight of a way at each node below the bound, each node with a way is below the bound
pub settled_within : (net : Topology) → IsTopology net → (d bound : ℕ) (f : ℕ → ℕ) → IsSettled net d f → 65535 * node_count net < bound
    → ((u : ℕ) → u < node_count net → f u < bound → IsReached net d f u)
    → (u : ℕ) (rest : List ℕ) → LeadsTo net u d rest → f u < bound
settled_within net ok d bound f done large reached u [] way =
    let e : f u ≡ f d = ap f way.0 in omega (arith, e, done.end, large)
settled_within net ok d bound f done large reached u (v ∷ rest) way =
    let near : f v < bound = settled_within net ok d bound f done large reached v rest way.1 in
    let v_in : v < node_count net = leads_from_node net ok v d rest way.1 in
    let best : IsReached net d f v = reached v v_in near in
    let least : IsLightest net v d best.0 = (λ other to. omega (arith, best.2, settled_below net ok d f done v other to)) in
    let short : length (v ∷ best.0) ≤ node_count net = lightest_short net ok v d best.0 best.1 least in
    let light : weight_from net v best.0 ≤ 65535 * length best.0 = way_light net ok v d best.0 best.1 in
    let step : f u ≤ way.0.1.weight + f way.0.1.node = done.tight u way.0.0 way.0.1 way.0.2 in
    let here : f way.0.1.node ≡ f v = ap f way.0.3 in
    let weight : way.0.1.weight ≤ 65535 = (port_facts net ok u way.0.0 way.0.1 way.0.2).bounded in
    omega (arith, step, here, weight, light, short, best.2, large)

-- the weight that stands for no way is above every distance
pub unreached_large : (net : Topology) → IsTopology net → 65535 * node_count net < unreached
unreached_large net ok = let few : node_count net ≤ 32768 = ok.few_nodes in omega arith

-- where relaxation ends with no way found, there is none
pub no_walk : (net : Topology) → IsTopology net → (d : ℕ) (weights : List ℕ) → IsRelaxed net d weights → (u : ℕ) → at weights u ≡ unreached → (walk : List ℕ) → IsWalk net u d walk → ⊥
no_walk net ok d weights done u none [] is = is
no_walk net ok d weights done u none (x ∷ rest) is =
    let P : ℕ → Type 0 = λ y. LeadsTo net y d rest in
    let below : at weights u < unreached = settled_within net ok d unreached (at weights) done.settled (unreached_large net ok) done.reached u rest is.1 in
    omega (arith, below, none)

-- what a column holds at u
pub record IsEntry (net : Topology) (d : ℕ) (weights : List ℕ) (u : ℕ) (held : Option ℕ) : Type 0 where
  pub below : at weights u < unreached
  pub own : u ≡ d → held ≡ None
  pub port : u ≢ d → (p : ℕ) × (held ≡ Some p) × IsShortestPort net u d p

-- weights below `unreached` are distances
pub relaxed_distance : (net : Topology) → IsTopology net → (d : ℕ) (weights : List ℕ) → IsRelaxed net d weights → (u : ℕ) → u < node_count net → at weights u < unreached → IsDistance net u d (at weights u)
relaxed_distance net ok d weights done u u_in below = distance_from_settled net ok d (at weights) done.settled u (done.reached u u_in below)

-- a port offers the weight of its node exactly where it leads nearer
offers_nearer : (net : Topology) → IsTopology net → (d : ℕ) (weights : List ℕ) → IsRelaxed net d weights → (u : ℕ) → u < node_count net → at weights u < unreached
    → (p : ℕ) → Offers (ports_of net u) weights p (at weights u) → LeadsNearer net u d p
offers_nearer net ok d weights done u u_in below p o =
    let facts : PortFacts net u o.0 = port_facts net ok u p o.0 o.1 in
    let P : ℕ → Type 0 = λ w. IsDistance net u d w in
    (o.0, at weights o.0.node, o.1, relaxed_distance net ok d weights done o.0.node facts.to (omega (arith, o.2, below)), subst P o.2 (relaxed_distance net ok d weights done u u_in below))

nearer_offers : (net : Topology) → IsTopology net → (d : ℕ) (weights : List ℕ) → IsRelaxed net d weights → (u : ℕ) → u < node_count net → at weights u < unreached
    → (p : ℕ) → LeadsNearer net u d p → Offers (ports_of net u) weights p (at weights u)
nearer_offers net ok d weights done u u_in below p near =
    let hop : Hop = near.0 in
    let facts : PortFacts net u hop = port_facts net ok u p hop near.2 in
    let total : at weights u ≡ hop.weight + near.1 = distance_unique net u d (at weights u) (hop.weight + near.1) (relaxed_distance net ok d weights done u u_in below) near.4 in
    let way = distance_way net hop.node d near.1 near.3 in
    let le : at weights hop.node ≤ near.1 = omega (arith, settled_below net ok d (at weights) done.settled hop.node way.0 way.1, way.2) in
    let tight : at weights u ≤ hop.weight + at weights hop.node = done.settled.tight u p hop near.2 in
    (hop, near.2, omega (arith, total, le, tight))

-- away from d some port offers the weight
some_offer : (net : Topology) → IsTopology net → (d : ℕ) (weights : List ℕ) → IsRelaxed net d weights → (u : ℕ) → u < node_count net → at weights u < unreached → u ≢ d
    → (p : ℕ) × Offers (ports_of net u) weights p (at weights u)
some_offer net ok d weights done u u_in below other = by_way (done.reached u u_in below).0 (done.reached u u_in below).1 (done.reached u u_in below).2
  where
    by_way : (rest : List ℕ) → LeadsTo net u d rest → weight_from net u rest ≡ at weights u → (p : ℕ) × Offers (ports_of net u) weights p (at weights u)
    by_way [] way e = absurd (other way.0)
    by_way (v ∷ rest) way e =
        let hop : Hop = way.0.1 in
        let weight : link_weight net u hop.node ≡ hop.weight = link_weight_at net ok u way.0.0 hop way.0.2 in
        let P : ℕ → Type 0 = λ y. link_weight net u y ≡ hop.weight in
        let weight' : link_weight net u v ≡ hop.weight = subst P way.0.3 weight in
        let later : at weights v ≤ weight_from net v rest = settled_below net ok d (at weights) done.settled v rest way.1 in
        let same : at weights hop.node ≡ at weights v = ap (at weights) way.0.3 in
        let tight : at weights u ≤ hop.weight + at weights hop.node = done.settled.tight u way.0.0 hop way.0.2 in
        (way.0.0, (hop, way.0.2, omega (arith, e, weight', later, same, tight)))

-- the first port that offers the weight is what a shortest table holds
pub entry_here : (net : Topology) → IsTopology net → (d : ℕ) (weights : List ℕ) → IsRelaxed net d weights → (u : ℕ) → u < node_count net → at weights u < unreached
    → (port : Option ℕ)
    → IfSome port (λ p. Offers (ports_of net u) weights p (at weights u))
    → IfSome port (λ p. (q : ℕ) → q < p → Offers (ports_of net u) weights q (at weights u) → ⊥)
    → IfNone port ((q : ℕ) → Offers (ports_of net u) weights q (at weights u) → ⊥)
    → IsEntry net d weights u port
entry_here net ok d weights done u u_in below (Some p) found least none = record {
  below = below;
  own = λ e. absurd (let facts : PortFacts net u found.0 = port_facts net ok u p found.0 found.1 in
      let zero_here : at weights u ≡ at weights d = ap (at weights) e in
      omega (arith, found.2, facts.positive, zero_here, done.settled.end));
  port = λ other. (
    p,
    refl,
    record {
      nearer = offers_nearer net ok d weights done u u_in below p found;
      least = λ q near. ⊎_elim (λ (lt : q < p). absurd (least q lt (nearer_offers net ok d weights done u u_in below q near))) (λ (ge : p ≤ q). ge) (cases_lt q p);
    },
  );
}
entry_here net ok d weights done u u_in below None found least none = record {
  below = below;
  own = λ e. refl;
  port = λ other. let some = some_offer net ok d weights done u u_in below other in absurd (none some.0 some.1);
}

-- one more entry
pub entries_push : (net : Topology) (d : ℕ) (weights : List ℕ) (held : List (Option ℕ)) (u : ℕ) (port : Option ℕ) → length held ≡ u
    → ((v : ℕ) → v < u → IsEntry net d weights v (slice_index_or held v None)) → IsEntry net d weights u port
    → (v : ℕ) → v < u + 1 → IsEntry net d weights v (slice_index_or (held ++ port ∷ []) v None)
entries_push net d weights held u port len before here v lt =
    ⊎_elim (λ (less : v < u). rw (get_or_append_left held (port ∷ []) None v (omega (arith, less, len))) (before v less))
    (λ (ge : u ≤ v). let same : v ≡ u = omega (arith, lt, ge) in
    let P : ℕ → Type 0 = λ k. IsEntry net d weights k (slice_index_or (held ++ port ∷ []) k None) in
    subst P (sym same) (rw (get_or_push held port None u len) here)) (cases_lt v u)

-- all entries make the column
pub column_done : (net : Topology) → IsTopology net → (d : ℕ) → d < node_count net → (weights : List ℕ) (held : List (Option ℕ)) → IsRelaxed net d weights → length held ≡ node_count net
    → ((v : ℕ) → v < node_count net → IsEntry net d weights v (slice_index_or held v None)) → IsColumn net d held weights
column_done net ok d d_in weights held done len entries = record {
  ports_len = len;
  weights_len = done.len;
  weight = λ u u_in. relaxed_distance net ok d weights done u u_in (entries u u_in).below;
  own = (entries d d_in).own refl;
  port = λ u u_in other. (entries u u_in).port other;
}

-- Which ports lead nearer, given by the distances from one node.
use Rattle.std.proofs.Common.{◌≡◌, ◌≢◌, ℕ, ◌+◌, ◌<◌, ◌≤◌, List, [], ◌∷◌, ◌++◌, Some, refl, ap, sym, subst, arith}
use Rattle.ir_model.specs.declared.Hop.{Hop}
use Rattle.ir_model.specs.Topology.{Topology, node_count, port_at, IsTopology}
use Rattle.ir_model.specs.Walk.{link_weight, LeadsTo, IsWalk, weight_from, walk_weight, IsDistance}
use Rattle.ir_model.specs.Table.{LeadsNearer}
use Rattle.ir_model.proofs.Tables.{distance_unique, distance_own, distance_way}
use Rattle.ir_model.proofs.Walks.{link_weight_at, PortFacts, port_facts, leads_from_node}
use Rattle.ir_model.proofs.Ways.{joined}
use Rattle.ir_tables.specs.Relaxation.{at}
use Rattle.ir_tables.specs.FromNode.{AreFrom, IsTightStep}

-- what a list leads to is a node
leads_to_node : (net : Topology) (u d : ℕ) (rest : List ℕ) → LeadsTo net u d rest → d < node_count net
leads_to_node net u d [] way = way.1
leads_to_node net u d (v ∷ rest) way = leads_to_node net v d rest way.1

module _ (net : Topology) (ok : IsTopology net) (u : ℕ) (weights : List ℕ) (are : AreFrom net u weights) where
  own_weight : at weights u ≡ 0
  own_weight = distance_unique net u u (at weights u) 0 (are.each u are.node) (distance_own net u are.node)

  -- a way goes no farther than the weights do
  way_upper : (x y : ℕ) (way : List ℕ) → LeadsTo net x y way → at weights y ≤ at weights x + weight_from net x way
  way_upper x y way leads =
      let x_in = leads_from_node net ok x y way leads in
      let y_in = leads_to_node net x y way leads in
      let first = distance_way net u x (at weights x) (are.each x x_in) in
      let both = joined net u x y first.0 way first.1 leads in
      let le : at weights y ≤ weight_from net u (first.0 ++ way) = (are.each y y_in).least (u ∷ (first.0 ++ way)) (refl, both.0) in
      omega (arith, le, both.1, first.2)

  -- no step goes farther than the weights do
  step_upper : (x q : ℕ) (hop : Hop) → port_at net x q ≡ Some hop → at weights hop.node ≤ at weights x + hop.weight
  step_upper x q hop port =
      let facts : PortFacts net x hop = port_facts net ok x q hop port in
      let le = way_upper x hop.node (hop.node ∷ []) ((q, hop, port, refl), (refl, facts.to)) in
      omega (arith, le, link_weight_at net ok x q hop port)

  -- a port whose step is tight leads nearer to its neighbour
  pub nearer_start : (p : ℕ) (hop : Hop) → port_at net u p ≡ Some hop → IsTightStep weights u hop → LeadsNearer net u hop.node p
  nearer_start p hop port tight =
      let facts : PortFacts net u hop = port_facts net ok u p hop port in
      let e : at weights hop.node ≡ hop.weight + 0 = omega (arith, tight, own_weight) in
      (hop, 0, port, distance_own net hop.node facts.to, subst (λ (w : ℕ). IsDistance net u hop.node w) e (are.each hop.node facts.to))

  -- a port that leads nearer to a node leads nearer to each node that a tight step from it leads to
  pub nearer_step : (p x q : ℕ) (hop : Hop) → LeadsNearer net u x p → port_at net x q ≡ Some hop → IsTightStep weights x hop → LeadsNearer net u hop.node p
  nearer_step p x q hop near port tight =
      let facts : PortFacts net x hop = port_facts net ok x q hop port in
      let first : Hop = near.0 in
      let way = distance_way net first.node x near.1 near.3 in
      let last : LeadsTo net x hop.node (hop.node ∷ []) = ((q, hop, port, refl), (refl, facts.to)) in
      let both = joined net first.node x hop.node way.0 (hop.node ∷ []) way.1 last in
      let link : link_weight net x hop.node ≡ hop.weight = link_weight_at net ok x q hop port in
      let there : at weights x ≡ first.weight + near.1 = distance_unique net u x (at weights x) (first.weight + near.1) (are.each x facts.from) near.4 in
      let begin : at weights first.node ≤ at weights u + first.weight = step_upper u p first near.2 in
      let total : at weights hop.node ≡ first.weight + (near.1 + hop.weight) = omega (arith, tight, there) in (
        first,
        near.1 + hop.weight,
        near.2,
        record { reached = (first.node ∷ (way.0 ++ hop.node ∷ []), (refl, both.0), omega (arith, both.1, way.2, link)); least = no_lighter first begin total },
        subst (λ (w : ℕ). IsDistance net u hop.node w) total (are.each hop.node facts.to),
      )
    where
      no_lighter : (first : Hop) → at weights first.node ≤ at weights u + first.weight → at weights hop.node ≡ first.weight + (near.1 + hop.weight)
          → (walk : List ℕ) → IsWalk net first.node hop.node walk → near.1 + hop.weight ≤ walk_weight net walk
      no_lighter first begin total [] none = absurd none
      no_lighter first begin total (z ∷ more) is =
          let le : at weights hop.node ≤ at weights first.node + weight_from net first.node more = way_upper first.node hop.node more is.1 in
          let same : weight_from net z more ≡ weight_from net first.node more = ap (λ (y : ℕ). weight_from net y more) is.0 in
          omega (arith, le, begin, total, same, own_weight)

  -- what holds where the port's step is tight, and goes on along tight steps, holds of each node to which the port leads nearer
  pub nearer_all : (S : ℕ → Type 0) (p : ℕ) → ((hop : Hop) → port_at net u p ≡ Some hop → IsTightStep weights u hop → S hop.node)
      → ((x q : ℕ) (hop : Hop) → S x → port_at net x q ≡ Some hop → IsTightStep weights x hop → S hop.node)
      → (d : ℕ) → LeadsNearer net u d p → S d
  nearer_all S p start closed d near =
      let first : Hop = near.0 in
      let way = distance_way net first.node d near.1 near.3 in
      let d_in = leads_to_node net first.node d way.0 way.1 in
      let total : at weights d ≡ first.weight + near.1 = distance_unique net u d (at weights d) (first.weight + near.1) (are.each d d_in) near.4 in
      let begin : at weights first.node ≤ at weights u + first.weight = step_upper u p first near.2 in
      let le : at weights d ≤ at weights first.node + weight_from net first.node way.0 = way_upper first.node d way.0 way.1 in
      let tight : IsTightStep weights u first = omega (arith, total, begin, le, way.2, own_weight) in
      go first.node way.0 way.1 (omega (arith, total, tight, way.2, own_weight)) (start first near.2 tight)
    where
      go : (x : ℕ) (way : List ℕ) → LeadsTo net x d way → at weights d ≡ at weights x + weight_from net x way → S x → S d
      go x [] way e here = subst S way.0 here
      go x (y ∷ rest) way e here =
          let hop : Hop = way.0.1 in
          let port = way.0.2 in
          let up : at weights hop.node ≤ at weights x + hop.weight = step_upper x way.0.0 hop port in
          let on : at weights d ≤ at weights y + weight_from net y rest = way_upper y d rest way.1 in
          let same : at weights hop.node ≡ at weights y = ap (at weights) way.0.3 in
          let link : link_weight net x y ≡ hop.weight = subst (λ (z : ℕ). link_weight net x z ≡ hop.weight) way.0.3 (link_weight_at net ok x way.0.0 hop port) in
          let tight : IsTightStep weights x hop = omega (arith, e, up, on, same, link) in
          go y rest way.1 (omega (arith, e, tight, same, link)) (subst S way.0.3 (closed x way.0.0 hop here port tight))

  -- to each other node some port leads nearer
  pub some_nearer : (d : ℕ) → d < node_count net → u ≢ d → (p : ℕ) × LeadsNearer net u d p
  some_nearer d d_in other =
      let way = distance_way net u d (at weights d) (are.each d d_in) in
      by_way way.0 way.1 way.2
    where
      by_way : (way : List ℕ) → LeadsTo net u d way → weight_from net u way ≡ at weights d → (p : ℕ) × LeadsNearer net u d p
      by_way [] way e = absurd (other way.0)
      by_way (y ∷ rest) way e =
          let hop : Hop = way.0.1 in
          let port = way.0.2 in
          let link : link_weight net u y ≡ hop.weight = subst (λ (z : ℕ). link_weight net u z ≡ hop.weight) way.0.3 (link_weight_at net ok u way.0.0 hop port) in
          let begin : at weights hop.node ≤ at weights u + hop.weight = step_upper u way.0.0 hop port in
          let leads : LeadsTo net hop.node d rest = subst (λ (z : ℕ). LeadsTo net z d rest) (sym way.0.3) way.1 in
          let same : weight_from net hop.node rest ≡ weight_from net y rest = ap (λ (z : ℕ). weight_from net z rest) way.0.3 in
          let total : at weights d ≡ hop.weight + weight_from net hop.node rest = omega (arith, e, link, same) in (
            way.0.0,
            (
              hop,
              weight_from net hop.node rest,
              port,
              record { reached = (hop.node ∷ rest, (refl, leads), refl); least = no_lighter hop rest begin total },
              subst (λ (w : ℕ). IsDistance net u d w) total (are.each d d_in),
            ),
          )
        where
          no_lighter : (hop : Hop) (rest : List ℕ) → at weights hop.node ≤ at weights u + hop.weight → at weights d ≡ hop.weight + weight_from net hop.node rest
              → (walk : List ℕ) → IsWalk net hop.node d walk → weight_from net hop.node rest ≤ walk_weight net walk
          no_lighter hop rest begin total [] none = absurd none
          no_lighter hop rest begin total (z ∷ more) is =
              let le : at weights d ≤ at weights hop.node + weight_from net hop.node more = way_upper hop.node d more is.1 in
              let same : weight_from net z more ≡ weight_from net hop.node more = ap (λ (y : ℕ). weight_from net y more) is.0 in
              omega (arith, le, begin, total, same, own_weight)

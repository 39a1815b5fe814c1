-- The equation of the least weights has the distances as its one solution, since weights are positive.
use Rattle.std.proofs.Common.{◌≡◌, ◌≢◌, ℕ, zero, suc, ◌+◌, ◌*◌, ◌<◌, ◌≤◌, [], ◌∷◌, Some, refl, sym, ap, subst, ◌∙◌, arith, ⊎_elim}
use Rattle.std.proofs.lemmas.Bool.{cases_eq}
use Rattle.ir_model.specs.declared.Hop.{Hop}
use Rattle.ir_model.specs.Topology.{Topology, node_count, port_at, IsTopology}
use Rattle.ir_model.specs.Walk.{link_weight, IsDistance}
use Rattle.ir_model.specs.Table.{LeadsNearer}
use Rattle.ir_model.proofs.Walks.{link_weight_at, PortFacts, port_facts}
use Rattle.ir_tables.specs.Relaxation.{IsSettled, IsReached}
use Rattle.ir_tables.proofs.Settled.{distance_from_settled}
use Rattle.ir_lanes.specs.Equation.{IsLeast, IsEndStart}

module _ (net : Topology) (ok : IsTopology net) (d : ℕ) (d_in : d < node_count net) (start f : ℕ → ℕ) (begun : IsEndStart net d start) (eqn : IsLeast net 1 start f) where
  end_zero : f d ≡ 0
  end_zero = omega (arith, (eqn d d_in).low, begun.end)

  settled : IsSettled net d f
  settled = record {
    end = end_zero;
    tight = λ u p hop port. omega (arith, (eqn u (port_facts net ok u p hop port).from).tight p hop port);
  }

  at_end : (u : ℕ) → u ≡ d → IsReached net d f u
  at_end u same = ([], (same, d_in), sym (ap f same ∙ end_zero))

  -- the way of a weight that a port offers
  by_port : (u p : ℕ) (hop : Hop) → port_at net u p ≡ Some hop → f u ≡ hop.weight * 1 + f hop.node → IsReached net d f hop.node → IsReached net d f u
  by_port u p hop port is way =
      let weight : link_weight net u hop.node ≡ hop.weight = link_weight_at net ok u p hop port in
      (hop.node ∷ way.0, ((p, hop, port, refl), way.1), omega (arith, weight, way.2, is))

  -- from a node whose weight is at most m, going on by ports that offer it
  reached_by : (m u : ℕ) → u < node_count net → f u ≤ m → IsReached net d f u
  reached_by zero u u_in le =
      ⊎_elim (λ same. at_end u same) (λ other.
      ⊎_elim (λ is. absurd (omega (arith, is, begun.others u u_in other, (eqn u u_in).near)))
      (λ o. let facts : PortFacts net u o.1 = port_facts net ok u o.0 o.1 o.2 in absurd (omega (arith, le, o.3, facts.positive))) (eqn u u_in).met) (cases_eq u d)
  reached_by (suc m) u u_in le =
      ⊎_elim (λ same. at_end u same) (λ other.
      ⊎_elim (λ is. absurd (omega (arith, is, begun.others u u_in other, (eqn u u_in).near)))
      (λ o. let facts : PortFacts net u o.1 = port_facts net ok u o.0 o.1 o.2 in
      by_port u o.0 o.1 o.2 o.3 (reached_by m o.1.node facts.to (omega (arith, le, o.3, facts.positive)))) (eqn u u_in).met) (cases_eq u d)

  pub least_distance : (u : ℕ) → u < node_count net → IsDistance net u d (f u)
  least_distance u u_in = distance_from_settled net ok d f settled u (reached_by (f u) u u_in (omega arith))

  -- a port that offers the weight leads nearer
  pub some_nearer : (u : ℕ) → u < node_count net → u ≢ d → (p : ℕ) × LeadsNearer net u d p
  some_nearer u u_in other =
      ⊎_elim (λ is. absurd (omega (arith, is, begun.others u u_in other, (eqn u u_in).near)))
      (λ o.
      let facts : PortFacts net u o.1 = port_facts net ok u o.0 o.1 o.2 in
      let total : f u ≡ o.1.weight + f o.1.node = omega (arith, o.3) in
      (o.0, (o.1, f o.1.node, o.2, least_distance o.1.node facts.to, subst (λ (w : ℕ). IsDistance net u d w) total (least_distance u u_in)))) (eqn u u_in).met

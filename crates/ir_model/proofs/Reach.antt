-- In a connected network each node is at some distance from each.
use Rattle.std.proofs.Common.{◌≡◌, ◌≢◌, ℕ, zero, suc, ◌+◌, ◌-◌, ◌<◌, ◌≤◌, List, [], ◌∷◌, length, Option, Some, None, refl, ap, sym, ◌∙◌, subst, inl, inr, ◌⊎◌, arith}
use Rattle.std.proofs.lemmas.Bool.{cases_eq, cases_lt}
use Rattle.std.proofs.lemmas.Option.{slice_get_within}
use Rattle.ir_model.specs.declared.Hop.{Hop}
use Rattle.ir_model.specs.Topology.{Topology, node_count, ports_of, port_at, IsTopology}
use Rattle.ir_model.specs.Walk.{link_weight, LeadsTo, IsWalk, weight_from, walk_weight, IsDistance, IsConnected}
use Rattle.ir_model.specs.Landmark.{HaveDistances}
use Rattle.ir_model.proofs.Walks.{link_weight_at, port_facts}

module _ (net : Topology) (ok : IsTopology net) (d : ℕ) (d_in : d < node_count net) where
  -- a way to d that weighs at most k
  abbrev Way : ℕ → ℕ → Type 0
  Way k u = (rest : List ℕ) × LeadsTo net u d rest × (weight_from net u rest ≤ k)

  -- no such way begins with one of the first i ports
  abbrev NoneBy : ℕ → ℕ → ℕ → Type 0
  NoneBy k u i = (p : ℕ) (hop : Hop) → p < i → port_at net u p ≡ Some hop → hop.weight ≤ k → Way (k - hop.weight) hop.node → ⊥

  -- one port more
  by_port : (k u i : ℕ) → ((v m : ℕ) → m < k → Way m v ⊎ (Way m v → ⊥)) → NoneBy k u i → (o : Option Hop) → port_at net u i ≡ o → Way k u ⊎ NoneBy k u (suc i)
  by_port k u i known none None at = inr (λ p hop lt is le way.
      elim (cases_eq p i) [
        | inl e ↦ let bad : None ≡ Some hop = sym at ∙ ap (port_at net u) (sym e) ∙ is in cc bad
        | inr ne ↦ none p hop (omega (arith, lt, ne)) is le way
      ])
  by_port k u i known none (Some first) at =
      let positive : 1 ≤ first.weight = (port_facts net ok u i first at).positive in
      let weight : link_weight net u first.node ≡ first.weight = link_weight_at net ok u i first at in
      let same : (p : ℕ) (hop : Hop) → p ≡ i → port_at net u p ≡ Some hop → hop ≡ first = λ p hop e is. (let both : Some hop ≡ Some first = sym is ∙ ap (port_at net u) e ∙ at in cc both) in
      elim (cases_lt k first.weight) [
        | inl heavy ↦ inr (λ p hop lt is le way.
            elim (cases_eq p i) [
              | inl e ↦ let w : hop.weight ≡ first.weight = ap (λ (h : Hop). h.weight) (same p hop e is) in omega (arith, w, heavy, le)
              | inr ne ↦ none p hop (omega (arith, lt, ne)) is le way
            ])
        | inr light ↦
            elim (known first.node (k - first.weight) (omega (arith, positive, light))) [
              | inl w ↦ inl (first.node ∷ w.0, ((i, first, at, refl), w.1), omega (arith, weight, w.2, light))
              | inr out ↦ inr (λ p hop lt is le way.
                  elim (cases_eq p i) [
                    | inl e ↦ out (subst (λ (h : Hop). Way (k - h.weight) h.node) (same p hop e is) way)
                    | inr ne ↦ none p hop (omega (arith, lt, ne)) is le way
                  ])
            ]
      ]

  by_ports : (k u : ℕ) → ((v m : ℕ) → m < k → Way m v ⊎ (Way m v → ⊥)) → (i : ℕ) → Way k u ⊎ NoneBy k u i
  by_ports k u known zero = inr (λ p hop lt. absurd (omega (arith, lt)))
  by_ports k u known (suc i) = elim (by_ports k u known i) [ inl way ↦ inl way | inr none ↦ by_port k u i known none (port_at net u i) refl ]

  -- a way begins with a port
  no_way : (k u : ℕ) → u ≢ d → NoneBy k u (length (ports_of net u)) → Way k u → ⊥
  no_way k u other none way = by_way way.0 way.1 way.2
    where
      by_way : (rest : List ℕ) → LeadsTo net u d rest → weight_from net u rest ≤ k → ⊥
      by_way [] leads le = other leads.0
      by_way (v ∷ rest) leads le =
          let hop : Hop = leads.0.1 in
          let weight : link_weight net u hop.node ≡ hop.weight = link_weight_at net ok u leads.0.0 hop leads.0.2 in
          let P : ℕ → Type 0 = λ x. LeadsTo net x d rest × (link_weight net u x + weight_from net x rest ≤ k) in
          let at : P hop.node = subst P (sym leads.0.3) (leads.1, le) in
          none leads.0.0 hop (slice_get_within (ports_of net u) leads.0.0 hop leads.0.2) leads.0.2 (omega (arith, weight, at.1)) (rest, at.0, omega (arith, weight, at.1))

  decide : (fuel k u : ℕ) → k < fuel → Way k u ⊎ (Way k u → ⊥)
  decide zero k u lt = absurd (omega (arith, lt))
  decide (suc fuel) k u lt =
      elim (cases_eq u d) [
        | inl e ↦ inl ([], (e, d_in), omega arith)
        | inr other ↦
            elim (by_ports k u (λ v m less. decide fuel m v (omega (arith, less, lt))) (length (ports_of net u))) [
              | inl way ↦ inl way
              | inr none ↦ inr (λ way. no_way k u other none way)
            ]
      ]

  -- the least weight
  least_weight : (u k : ℕ) → Way k u → (n : ℕ) × IsDistance net u d n
  least_weight u zero way = (0, record { reached = (u ∷ way.0, (refl, way.1), omega (arith, way.2)); least = λ walk is. omega arith })
  least_weight u (suc k) way =
      elim (decide (suc k) k u (omega arith)) [
        | inl lighter ↦ least_weight u k lighter
        | inr none ↦ (suc k, exact k way none)
      ]
    where
      at_least : (k : ℕ) → (Way k u → ⊥) → (walk : List ℕ) → IsWalk net u d walk → suc k ≤ walk_weight net walk
      at_least k none [] is = absurd is
      at_least k none (x ∷ rest) is =
          let same : weight_from net x rest ≡ weight_from net u rest = ap (λ (y : ℕ). weight_from net y rest) is.0 in
          elim (cases_lt k (weight_from net u rest)) [ inl more ↦ omega (arith, more, same) | inr le ↦ absurd (none (rest, is.1, le)) ]

      exact : (k : ℕ) → Way (suc k) u → (Way k u → ⊥) → IsDistance net u d (suc k)
      exact k way none =
          let ge : suc k ≤ walk_weight net (u ∷ way.0) = at_least k none (u ∷ way.0) (refl, way.1) in
          record { reached = (u ∷ way.0, (refl, way.1), omega (arith, ge, way.2)); least = at_least k none }

pub connected_distances : (net : Topology) → IsTopology net → IsConnected net → HaveDistances net
connected_distances net ok connected u d hu hd = of_walk (connected u d hu hd).0 (connected u d hu hd).1
  where
    of_walk : (walk : List ℕ) → IsWalk net u d walk → (n : ℕ) × IsDistance net u d n
    of_walk [] is = absurd is
    of_walk (x ∷ rest) is = least_weight net ok d hd u (weight_from net u rest) (rest, is.1, omega arith)

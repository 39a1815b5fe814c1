-- In a connected network each two nodes have a distance, and a least port that leads nearer.
use Rattle.std.proofs.Common.{◌≡◌, ◌≢◌, ℕ, zero, suc, ◌+◌, ◌-◌, ◌<◌, ◌≤◌, ◌⊎◌, List, [], ◌∷◌, length, Option, Some, None, refl, sym, ap, subst, inl, inr, arith}
use Rattle.std.proofs.lemmas.Bool.{cases_eq}
use Rattle.std.proofs.lemmas.Option.{slice_get_within}
use Rattle.ir_model.specs.declared.Hop.{Hop}
use Rattle.ir_model.specs.Topology.{Topology, node_count, ports_of, port_at, IsTopology}
use Rattle.ir_model.specs.Walk.{link_weight, LeadsTo, IsWalk, weight_from, walk_weight, IsDistance, IsConnected}
use Rattle.ir_model.specs.Table.{LeadsNearer, IsShortestPort}
use Rattle.ir_model.proofs.Walks.{link_weight_at, port_facts}
use Rattle.ir_model.proofs.Tables.{distance_unique}
use Rattle.ir_tables.specs.FromNode.{AreFrom, AreLeastPorts}
use Rattle.ir_tables.proofs.Leading.{some_nearer}
use Rattle.ir_show.proofs.Searching.{IsDecided, option_is, least_of, any_below, chosen_list}

-- a way from u to d of this weight
abbrev pub HasWay : Topology → ℕ → ℕ → ℕ → Type 0
HasWay net d u weight = (rest : List ℕ) × LeadsTo net u d rest × (weight_from net u rest ≡ weight)

-- a way that begins with the port q
abbrev pub HasWayBy : Topology → ℕ → ℕ → ℕ → ℕ → Type 0
HasWayBy net d u weight q = (hop : Hop) × (rest : ℕ) × (port_at net u q ≡ Some hop) × (hop.weight + rest ≡ weight) × HasWay net d hop.node rest

in_order : (a b : ℕ) → (a ≤ b) ⊎ (b < a)
in_order a b = grind arith

module _ (net : Topology) (ok : IsTopology net) (d : ℕ) (d_in : d < node_count net) where
  by_port : (u weight q : ℕ) → HasWayBy net d u weight q → HasWay net d u weight
  by_port u weight q is =
      let hop : Hop = is.0 in
      let link : link_weight net u hop.node ≡ hop.weight = link_weight_at net ok u q hop is.2 in
      let way = is.4 in
      (hop.node ∷ way.0, ((q, hop, is.2, refl), way.1), omega (arith, link, way.2, is.3))

  -- a way is none, where it begins and ends at d, or begins with a port
  begins : (u weight : ℕ) → HasWay net d u weight → ((u ≡ d) × (weight ≡ 0)) ⊎ ((q : ℕ) × (q < length (ports_of net u)) × HasWayBy net d u weight q)
  begins u weight ([], way, is) = inl (way.0, sym is)
  begins u weight (v ∷ rest, way, is) =
      let q = way.0.0 in
      let hop : Hop = way.0.1 in
      let at = way.0.2 in
      let link : link_weight net u hop.node ≡ hop.weight = link_weight_at net ok u q hop at in
      let P : ℕ → Type 0 = λ x. LeadsTo net x d rest × (link_weight net u x + weight_from net x rest ≡ weight) in
      let on : P hop.node = subst P (sym way.0.3) (way.1, is) in
      inr (q, slice_get_within (ports_of net u) q hop at, (hop, weight_from net hop.node rest, at, omega (arith, link, on.1), (rest, on.0, refl)))

  -- by the ways that begin with each port
  by_ports : (u weight : ℕ) → ((q : ℕ) → IsDecided (HasWayBy net d u weight q)) → IsDecided (HasWay net d u weight)
  by_ports u weight each =
      elim (any_below (HasWayBy net d u weight) each (length (ports_of net u))) [
        | inl found ↦ inl (by_port u weight found.0 found.2)
        | inr none ↦
            elim (cases_eq u d) [
              | inl e ↦
                  elim (cases_eq weight 0) [
                    | inl z ↦ inl ([], (e, d_in), sym z)
                    | inr nz ↦ inr (λ way. elim (begins u weight way) [ inl end ↦ nz end.1 | inr by ↦ none by ])
                  ]
              | inr ne ↦ inr (λ way. elim (begins u weight way) [ inl end ↦ ne end.0 | inr by ↦ none by ])
            ]
      ]

  -- by the ways of less weight, where a port weighs at least 1
  by_lighter : (fuel u weight q : ℕ) → weight ≤ suc fuel → ((v less : ℕ) → less ≤ fuel → IsDecided (HasWay net d v less)) → IsDecided (HasWayBy net d u weight q)
  by_lighter fuel u weight q le go =
      elim (option_is (port_at net u q)) [
        | inr none ↦ inr (λ is. cc (is.2, none))
        | inl there ↦
            let hop : Hop = there.0 in
            let facts = port_facts net ok u q hop there.1 in
            elim (in_order hop.weight weight) [
              | inr more ↦ inr (λ is. let same : is.0 ≡ hop = cc (is.2, there.1) in let w : is.0.weight ≡ hop.weight = ap (λ (h : Hop). h.weight) same in omega (arith, more, is.3, w))
              | inl enough ↦
                  elim (go hop.node (weight - hop.weight) (omega (arith, facts.positive, le))) [
                    | inl way ↦ inl (hop, weight - hop.weight, there.1, omega (arith, enough), way)
                    | inr not ↦ inr (λ is.
                        let same : is.0 ≡ hop = cc (is.2, there.1) in
                        let P : Hop → Type 0 = λ h. (h.weight + is.1 ≡ weight) × HasWay net d h.node is.1 in
                        let on : P hop = subst P same (is.3, is.4) in
                        let left : is.1 ≡ weight - hop.weight = omega (arith, on.0) in
                        not (subst (HasWay net d hop.node) left on.1))
                  ]
            ]
      ]

  decide_way : (fuel u weight : ℕ) → weight ≤ fuel → IsDecided (HasWay net d u weight)
  decide_way zero u weight le =
      by_ports u weight (λ q. inr (λ is. let facts = port_facts net ok u q is.0 is.2 in omega (arith, facts.positive, is.3, le)))
  decide_way (suc fuel) u weight le =
      by_ports u weight (λ q. by_lighter fuel u weight q le (λ v less short. decide_way fuel v less short))

  -- where there is a way there is a distance
  pub distance_from_way : (u weight : ℕ) → HasWay net d u weight → (n : ℕ) × IsDistance net u d n
  distance_from_way u weight way =
      let least = least_of (HasWay net d u) (λ w. decide_way w u w (omega arith)) weight way in
      (least.0, record { reached = (u ∷ least.1.0, (refl, least.1.1), least.1.2); least = none_lighter least.0 least.2 })
    where
      none_lighter : (n : ℕ) → ((w : ℕ) → HasWay net d u w → n ≤ w) → (walk : List ℕ) → IsWalk net u d walk → n ≤ walk_weight net walk
      none_lighter n least [] is = absurd is
      none_lighter n least (x ∷ rest) is =
          let P : ℕ → Type 0 = λ y. n ≤ weight_from net y rest in
          subst P (sym is.0) (least (weight_from net u rest) (rest, is.1, refl))

  module _ (connected : IsConnected net) where
    pub distance_some : (u : ℕ) → u < node_count net → (n : ℕ) × IsDistance net u d n
    distance_some u u_in = let walk = connected u d u_in d_in in of_walk walk.0 walk.1
      where
        of_walk : (walk : List ℕ) → IsWalk net u d walk → (n : ℕ) × IsDistance net u d n
        of_walk [] is = absurd is
        of_walk (x ∷ rest) is = distance_from_way u (weight_from net u rest) (rest, is.1, refl)

    pub decide_nearer : (u p : ℕ) → u < node_count net → IsDecided (LeadsNearer net u d p)
    decide_nearer u p u_in =
        elim (option_is (port_at net u p)) [
          | inr none ↦ inr (λ is. cc (is.2, none))
          | inl there ↦
              let hop : Hop = there.0 in
              let facts = port_facts net ok u p hop there.1 in
              let whole = distance_some u u_in in
              let rest = distance_some hop.node facts.to in
              elim (cases_eq whole.0 (hop.weight + rest.0)) [
                | inl e ↦ inl (hop, rest.0, there.1, rest.1, subst (IsDistance net u d) e whole.1)
                | inr ne ↦ inr (λ is.
                    let same : is.0 ≡ hop = cc (is.2, there.1) in
                    let P : Hop → Type 0 = λ h. IsDistance net h.node d is.1 × IsDistance net u d (h.weight + is.1) in
                    let on : P hop = subst P same (is.3, is.4) in
                    let a : is.1 ≡ rest.0 = distance_unique net hop.node d is.1 rest.0 on.0 rest.1 in
                    let b : hop.weight + is.1 ≡ whole.0 = distance_unique net u d (hop.weight + is.1) whole.0 on.1 whole.1 in
                    ne (omega (arith, a, b)))
              ]
        ]

-- the least ports of a node that lead nearer to each other one
module _ (net : Topology) (ok : IsTopology net) (connected : IsConnected net) (u : ℕ) (u_in : u < node_count net) where
  distances : (weights : List ℕ) × AreFrom net u weights
  distances =
      let far = chosen_list 0 (λ d n. IsDistance net u d n) (node_count net) (λ d d_in. distance_some net ok d d_in connected u u_in) in
      (far.0, record { node = u_in; every = far.1; each = far.2 })

  pub shortest_port : (d : ℕ) → d < node_count net → u ≢ d → (p : ℕ) × IsShortestPort net u d p
  shortest_port d d_in other =
      let some = some_nearer net ok u distances.0 distances.1 d d_in other in
      let least = least_of (LeadsNearer net u d) (λ p. decide_nearer net ok d d_in connected u p u_in) some.0 some.1 in
      (least.0, record { nearer = least.1; least = least.2 })

  -- what stands for d in the list of these ports
  abbrev IsLeastPort : ℕ → Option ℕ → Type 0
  IsLeastPort d port = (u ≡ d → port ≡ None) × (u ≢ d → (p : ℕ) × (port ≡ Some p) × IsShortestPort net u d p)

  least_port : (d : ℕ) → d < node_count net → (port : Option ℕ) × IsLeastPort d port
  least_port d d_in =
      elim (cases_eq u d) [
        | inl own ↦ (None, ((λ _. refl), λ other. absurd (other own)))
        | inr other ↦ let port = shortest_port d d_in other in (Some port.0, ((λ own. absurd (other own)), λ _. (port.0, refl, port.1)))
      ]

  pub least_ports : (held : List (Option ℕ)) × AreLeastPorts net u held
  least_ports =
      let all = chosen_list None IsLeastPort (node_count net) least_port in
      (all.0, record { every = all.1; own = (all.2 u u_in).0 refl; port = λ d d_in. (all.2 d d_in).1 })

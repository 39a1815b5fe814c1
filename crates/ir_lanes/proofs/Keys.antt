-- The equation of the least keys from a node has the least keys as its one solution, since weights are positive.
use Rattle.std.proofs.Common.{◌≡◌, ◌≢◌, ℕ, zero, suc, ◌+◌, ◌*◌, ◌/◌, ◌%◌, ◌^◌, ◌<◌, ◌≤◌, ◌==◌, cond, List, [], ◌∷◌, ◌++◌, Some, length, map, refl, sym, ap, subst, ◌∙◌, arith, ⊎_elim}
use Rattle.std.specs.List.{range_with_len}
use Rattle.std.proofs.lemmas.Bool.{cases_eq, cases_lt, eq-eqb, ne_eqb}
use Rattle.std.proofs.lemmas.Nat.{div-add-mod', mod_below, mul-le}
use Rattle.std.proofs.lemmas.List.{get_or_past}
use Rattle.std.proofs.lemmas.List.FromFn.{get_or-map-range_with_len, length-map-range_with_len}
use Rattle.std.proofs.Math.Arith.{digits_div, digits_mod}
use Rattle.std.proofs.Math.Nat.{mul-le-mul_right}
use Rattle.std.proofs.Math.Pow.{pow_mono}
use Rattle.ir_model.specs.declared.Hop.{Hop}
use Rattle.ir_model.specs.Topology.{Topology, node_count, port_at, port_back, IsTopology}
use Rattle.ir_model.specs.Walk.{link_weight, LeadsTo, weight_from, IsConnected}
use Rattle.ir_model.proofs.Walks.{link_weight_at, PortFacts, port_facts}
use Rattle.ir_model.proofs.Ways.{joined}
use Rattle.ir_tables.specs.Relaxation.{at}
use Rattle.ir_tables.specs.Keys.{no_key, IsKeyed, IsSpentKey, AreKeys}
use Rattle.ir_lanes.specs.Equation.{IsLeast, IsSourceStart}

-- keys in one unit are ordered as those in another
pub key_order : (unit other a p b q : ℕ) → p < unit → q < unit → unit ≤ other → b * unit + q ≤ a * unit + p → b * other + q ≤ a * other + p
key_order unit other a p b q p_in q_in room le =
    ⊎_elim (λ (more : a < b). absurd (let up : (a + 1) * unit ≤ b * unit = mul-le-mul_right unit (omega (arith, more)) in omega (arith, up, le, p_in)))
    (λ (no_more : b ≤ a).
    ⊎_elim (λ (same : b ≡ a). let e : b * unit ≡ a * unit = ap (λ x. x * unit) same in let e' : b * other ≡ a * other = ap (λ x. x * other) same in omega (arith, e, e', le))
    (λ (other_one : b ≢ a). let up : (b + 1) * other ≤ a * other = mul-le-mul_right other (omega (arith, no_more, other_one)) in omega (arith, up, q_in, room))
    (cases_eq b a)) (cases_lt a b)

module _ (net : Topology) (ok : IsTopology net) (s : ℕ) (s_in : s < node_count net) (bits : ℕ) (few : bits ≤ 15) (start K : ℕ → ℕ)
    (eqn : IsLeast net (2 ^ bits) start K) (begun : IsSourceStart net (2 ^ bits) s start)
    (small : (p : ℕ) (hop : Hop) → port_at net s p ≡ Some hop → p < 2 ^ bits) where
  abbrev unit : ℕ
  unit = 2 ^ bits

  unit_positive : 1 ≤ unit
  unit_positive = pow_mono {i = 0} {j = bits} (omega arith)

  unit_small : unit ≤ 32768
  unit_small = pow_mono {i = bits} {j = 15} few

  -- a step adds something
  step_positive : (weight : ℕ) → 1 ≤ weight → 1 ≤ weight * unit
  step_positive weight one = mul-le 1 1 weight unit one unit_positive

  -- the key is that of a way from s, which the port p begins
  record IsWayKey (v key : ℕ) : Type 0 where
    pub p : ℕ
    pub hop : Hop
    pub way : List ℕ
    pub port_is : port_at net s p ≡ Some hop
    pub leads : LeadsTo net v hop.node way
    pub key_is : key ≡ (weight_from net v way + hop.weight) * unit + p

  -- a key that the search began with
  keyed_at_start : (v : ℕ) → v < node_count net → K v ≡ start v → IsWayKey v (K v)
  keyed_at_start v v_in is =
      let here = begun.met v v_in (omega (arith, is, (eqn v v_in).near)) in
      record { p = here.0; hop = here.1; way = []; port_is = here.2; leads = (sym here.3, omega (arith, here.3, v_in)); key_is = omega (arith, is, here.4) }

  -- a key that a port offers
  keyed_by_port : (v q : ℕ) (h : Hop) → port_at net v q ≡ Some h → K v ≡ h.weight * unit + K h.node → IsWayKey h.node (K h.node) → IsWayKey v (K v)
  keyed_by_port v q h port is on =
      let link : link_weight net v h.node ≡ h.weight = link_weight_at net ok v q h port in
      let total : weight_from net v (h.node ∷ on.way) ≡ h.weight + weight_from net h.node on.way = omega (arith, link) in
      let times : weight_from net v (h.node ∷ on.way) * unit ≡ (h.weight + weight_from net h.node on.way) * unit = ap (λ x. x * unit) total in
      record { p = on.p; hop = on.hop; way = h.node ∷ on.way; port_is = on.port_is; leads = ((q, h, port, refl), on.leads); key_is = omega (arith, is, on.key_is, times) }

  -- each key that is at most m is that of a way
  keyed_by : (m v : ℕ) → v < node_count net → K v ≤ m → IsWayKey v (K v)
  keyed_by zero v v_in le =
      ⊎_elim (λ is. keyed_at_start v v_in is) (λ o.
      let facts : PortFacts net v o.1 = port_facts net ok v o.0 o.1 o.2 in
      absurd (omega (arith, le, o.3, step_positive o.1.weight facts.positive))) (eqn v v_in).met
  keyed_by (suc m) v v_in le =
      ⊎_elim (λ is. keyed_at_start v v_in is) (λ o.
      let facts : PortFacts net v o.1 = port_facts net ok v o.0 o.1 o.2 in
      keyed_by_port v o.0 o.1 o.2 o.3 (keyed_by m o.1.node facts.to (omega (arith, le, o.3, step_positive o.1.weight facts.positive)))) (eqn v v_in).met

  -- the key with a port of 16 bits
  abbrev wide : ℕ → ℕ
  wide key = key / unit * 65536 + key % unit

  port_in : (key : ℕ) → key % unit < unit
  port_in key = mod_below key unit (omega (arith, unit_positive))

  -- a key that is no greater is none when it is wide
  wide_le : (key w q : ℕ) → q < unit → key ≤ w * unit + q → wide key ≤ w * 65536 + q
  wide_le key w q q_in le =
      key_order unit 65536 w q (key / unit) (key % unit) q_in (port_in key) (omega (arith, unit_small)) (omega (arith, le, div-add-mod' key unit))

  wide_step : (key w on : ℕ) → on ≤ w * unit + key → wide on ≤ wide key + w * 65536
  wide_step key w on le =
      let e : (key / unit + w) * unit + key % unit ≡ w * unit + key = omega (arith, div-add-mod' key unit) in
      let le' : on ≤ (key / unit + w) * unit + key % unit = omega (arith, le, e) in
      omega (arith, wide_le on (key / unit + w) (key % unit) (port_in key) le')

  -- the keys of all nodes, with ports of 16 bits, and 0 at s
  abbrev wide_at : ℕ → ℕ
  wide_at v = cond (v == s) 0 (wide (K v))

  abbrev pub wide_keys : List ℕ
  wide_keys = map wide_at (range_with_len 0 (node_count net))

  at_keys : (v : ℕ) → v < node_count net → at wide_keys v ≡ wide_at v
  at_keys v v_in = get_or-map-range_with_len wide_at 0 (node_count net) v v 0 v_in (omega arith)

  pub at_source : at wide_keys s ≡ 0
  at_source = at_keys s s_in ∙ ap (λ t. cond t 0 (wide (K s))) (eq-eqb s s refl)

  pub at_other : (v : ℕ) → v < node_count net → v ≢ s → at wide_keys v ≡ wide (K v)
  at_other v v_in ne = at_keys v v_in ∙ ap (λ t. cond t 0 (wide (K v))) (ne_eqb v s ne)

  pub many_keys : length wide_keys ≡ node_count net
  many_keys = length-map-range_with_len wide_at 0 (node_count net)

  -- no key is as great as the one that stands for no way
  keys_below : (v : ℕ) → at wide_keys v ≤ no_key
  keys_below v =
      ⊎_elim (λ (v_in : v < node_count net).
      ⊎_elim (λ (e : v ≡ s). let none : at wide_keys v ≡ 0 = ap (at wide_keys) e ∙ at_source in omega (arith, none))
      (λ (ne : v ≢ s).
      let le : K v / unit * 1 ≤ K v / unit * unit = mul-le (K v / unit) 1 (K v / unit) unit (omega arith) unit_positive in
      omega (arith, at_other v v_in ne, le, div-add-mod' (K v) unit, (eqn v v_in).near, port_in (K v), unit_small))
      (cases_eq v s))
      (λ (past : node_count net ≤ v). let none : at wide_keys v ≡ 0 = get_or_past wide_keys v 0 (omega (arith, many_keys, past)) in omega (arith, none))
      (cases_lt v (node_count net))

  reached : (v : ℕ) → v < node_count net → v ≢ s → at wide_keys v < no_key → IsKeyed net s v (at wide_keys v)
  reached v v_in ne below =
      let k : IsWayKey v (K v) = keyed_by (K v) v v_in (omega arith) in
      let p_in : k.p < unit = small k.p k.hop k.port_is in
      let weight : K v / unit ≡ weight_from net v k.way + k.hop.weight =
      ap (λ x. x / unit) k.key_is ∙ digits_div (weight_from net v k.way + k.hop.weight) {m = unit} {r = k.p} p_in in
      let port : K v % unit ≡ k.p = ap (λ x. x % unit) k.key_is ∙ digits_mod (weight_from net v k.way + k.hop.weight) {m = unit} {r = k.p} p_in in
      record { p = k.p; hop = k.hop; way = k.way; port_is = k.port_is; leads = k.leads; key_is = omega (arith, at_other v v_in ne, weight, port) }

  spent : (x : ℕ) → IsSpentKey net s wide_keys x
  spent x p hop added port step =
      let facts : PortFacts net x hop = port_facts net ok x p hop port in
      ⊎_elim (λ (e : hop.node ≡ s). let none : at wide_keys hop.node ≡ 0 = ap (at wide_keys) e ∙ at_source in omega (arith, none))
      (λ (ne : hop.node ≢ s).
      let is : at wide_keys hop.node ≡ wide (K hop.node) = at_other hop.node facts.to ne in
      ⊎_elim (λ (own : x ≡ s).
      let port' : port_at net s p ≡ Some hop = subst (λ (y : ℕ). port_at net y p ≡ Some hop) own port in
      let le : K hop.node ≤ hop.weight * unit + p = omega (arith, (eqn hop.node facts.to).low, begun.below p hop port') in
      omega (arith, is, wide_le (K hop.node) hop.weight p (small p hop port') le, step.first own))
      (λ (other : x ≢ s).
      let back = ok.paired x p hop port in
      let le : K hop.node ≤ hop.weight * unit + K x = (eqn hop.node facts.to).tight back.0 (port_back x hop) back.1 in
      omega (arith, is, at_other x facts.from other, wide_step (K x) hop.weight (K hop.node) le, step.later other))
      (cases_eq x s))
      (cases_eq hop.node s)

  -- the wide keys are the least ones
  pub keys_are_least : AreKeys net s wide_keys
  keys_are_least = record {
    ways = record { every = many_keys; below = keys_below; source = at_source; reached = reached };
    spent = spent;
  }

  -- ---- each node has a walk to each

  -- a way on from s to a neighbour
  led_at_start : (v : ℕ) → v < node_count net → K v ≡ start v → (rest : List ℕ) × LeadsTo net s v rest
  led_at_start v v_in is =
      let here = begun.met v v_in (omega (arith, is, (eqn v v_in).near)) in
      (v ∷ [], ((here.0, here.1, here.2, here.3), (refl, v_in)))

  -- a way from s that goes on by a port of v, taken back
  led_by_port : (v q : ℕ) (h : Hop) → v < node_count net → port_at net v q ≡ Some h → ((rest : List ℕ) × LeadsTo net s h.node rest) → (rest : List ℕ) × LeadsTo net s v rest
  led_by_port v q h v_in port way =
      let back = ok.paired v q h port in
      let last : LeadsTo net h.node v (v ∷ []) = ((back.0, port_back v h, back.1, refl), (refl, v_in)) in
      (way.0 ++ v ∷ [], (joined net s h.node v way.0 (v ∷ []) way.1 last).0)

  -- s has a way to each node whose key is at most m
  led_from : (m v : ℕ) → v < node_count net → K v ≤ m → (rest : List ℕ) × LeadsTo net s v rest
  led_from zero v v_in le =
      ⊎_elim (λ is. led_at_start v v_in is) (λ o.
      let facts : PortFacts net v o.1 = port_facts net ok v o.0 o.1 o.2 in
      absurd (omega (arith, le, o.3, step_positive o.1.weight facts.positive))) (eqn v v_in).met
  led_from (suc m) v v_in le =
      ⊎_elim (λ is. led_at_start v v_in is) (λ o.
      let facts : PortFacts net v o.1 = port_facts net ok v o.0 o.1 o.2 in
      led_by_port v o.0 o.1 v_in o.2 (led_from m o.1.node facts.to (omega (arith, le, o.3, step_positive o.1.weight facts.positive)))) (eqn v v_in).met

  -- and each node has a way to s
  led_to : (v : ℕ) → v < node_count net → (rest : List ℕ) × LeadsTo net v s rest
  led_to v v_in =
      let k : IsWayKey v (K v) = keyed_by (K v) v v_in (omega arith) in
      let back = ok.paired s k.p k.hop k.port_is in
      let last : LeadsTo net k.hop.node s (s ∷ []) = ((back.0, port_back s k.hop, back.1, refl), (refl, s_in)) in
      (k.way ++ s ∷ [], (joined net v k.hop.node s k.way (s ∷ []) k.leads last).0)

  pub keys_connect : IsConnected net
  keys_connect u d u_in d_in =
      let first = led_to u u_in in
      let second = led_from (K d) d d_in (omega arith) in
      (u ∷ (first.0 ++ second.0), (refl, (joined net u s d first.0 second.0 first.1 second.1).0))

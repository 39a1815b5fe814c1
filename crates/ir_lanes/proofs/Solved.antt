-- Lanes in which the equation holds from the starts of sixteen nodes have their shortest ways.
use Rattle.std.proofs.Common.{◌≡◌, ◌≢◌, ℕ, ◌+◌, ◌*◌, ◌/◌, ◌%◌, ◌^◌, ◌<◌, ◌≤◌, ◌==◌, cond, List, Option, Some, None, length, map, refl, sym, ap, subst, ◌∙◌, arith, ⊎_elim}
use Rattle.std.specs.List.{range_with_len}
use Rattle.std.proofs.lemmas.Bool.{cases_eq, eq-eqb, ne_eqb}
use Rattle.std.proofs.lemmas.Nat.{mod_below}
use Rattle.std.proofs.lemmas.Option.{slice_get_within}
use Rattle.std.proofs.lemmas.List.FromFn.{get_or-map-range_with_len, length-map-range_with_len}
use Rattle.std.proofs.Math.Pow.{pow_mono}
use Rattle.ir_model.specs.declared.Hop.{Hop}
use Rattle.ir_model.specs.Topology.{Topology, node_count, ports_of, port_at, IsTopology}
use Rattle.ir_model.specs.Walk.{IsDistance, IsConnected}
use Rattle.ir_model.specs.Table.{IsShortestPort}
use Rattle.ir_tables.specs.Relaxation.{at}
use Rattle.ir_tables.specs.Keys.{AreKeys, AreWeightsIn, ArePortsIn}
use Rattle.ir_tables.specs.FromNode.{held_at}
use Rattle.ir_tables.proofs.KeysOut.{keys_distances, keys_ports}
use Rattle.ir_lanes.specs.Lanes.{in_lane, AreNear}
use Rattle.ir_lanes.specs.Equation.{IsLeastAt, AreMet, IsSourceStart}
use Rattle.ir_lanes.specs.Outward.{OutwardLanes, AreOutwardLanes, source_at, lane_weight, lane_port}
use Rattle.ir_lanes.proofs.Keys.{wide_keys, at_source, at_other, many_keys, keys_are_least, keys_connect}

-- in one lane
module _ (net : Topology) (ok : IsTopology net) (ways : OutwardLanes) (starts : List ℕ) (k : ℕ) (few : ways.bits ≤ 15)
    (s_in : source_at ways k < node_count net)
    (begun : IsSourceStart net (2 ^ ways.bits) (source_at ways k) (in_lane starts k))
    (ports : (u : ℕ) → u < node_count net → length (ports_of net u) ≤ 2 ^ ways.bits)
    (met : (u : ℕ) → u < node_count net → IsLeastAt net (2 ^ ways.bits) (in_lane starts k) (in_lane ways.keys k) u) where
  abbrev s : ℕ
  s = source_at ways k

  abbrev unit : ℕ
  unit = 2 ^ ways.bits

  abbrev K : ℕ → ℕ
  K = in_lane ways.keys k

  small : (p : ℕ) (hop : Hop) → port_at net s p ≡ Some hop → p < unit
  small p hop port =
      let lt : p < length (ports_of net s) = slice_get_within (ports_of net s) p hop port in
      omega (arith, lt, ports s s_in)

  abbrev wide : List ℕ
  wide = wide_keys net ok s s_in ways.bits few (in_lane starts k) K met begun small

  least : AreKeys net s wide
  least = keys_are_least net ok s s_in ways.bits few (in_lane starts k) K met begun small

  connected : IsConnected net
  connected = keys_connect net ok s s_in ways.bits few (in_lane starts k) K met begun small

  many : length wide ≡ node_count net
  many = many_keys net ok s s_in ways.bits few (in_lane starts k) K met begun small

  wide_own : at wide s ≡ 0
  wide_own = at_source net ok s s_in ways.bits few (in_lane starts k) K met begun small

  wide_other : (v : ℕ) → v < node_count net → v ≢ s → at wide v ≡ K v / unit * 65536 + K v % unit
  wide_other = at_other net ok s s_in ways.bits few (in_lane starts k) K met begun small

  port_in : (v : ℕ) → K v % unit < 65536
  port_in v =
      let positive : 1 ≤ unit = pow_mono {i = 0} {j = ways.bits} (omega arith) in
      let low : unit ≤ 32768 = pow_mono {i = ways.bits} {j = 15} few in
      let lt : K v % unit < unit = mod_below (K v) unit (omega (arith, positive)) in
      omega (arith, lt, low)

  -- the weights and the ports of the lane, by node
  abbrev weights : List ℕ
  weights = map (lane_weight ways k) (range_with_len 0 (node_count net))

  abbrev held : ℕ → Option ℕ
  held v = cond (v == s) None (Some (lane_port ways k v))

  abbrev helds : List (Option ℕ)
  helds = map held (range_with_len 0 (node_count net))

  at_weights : (v : ℕ) → v < node_count net → at weights v ≡ lane_weight ways k v
  at_weights v v_in = get_or-map-range_with_len (lane_weight ways k) 0 (node_count net) v v 0 v_in (omega arith)

  at_helds : (v : ℕ) → v < node_count net → held_at helds v ≡ held v
  at_helds v v_in = get_or-map-range_with_len held 0 (node_count net) v v None v_in (omega arith)

  weights_in : AreWeightsIn wide weights (length wide)
  weights_in = record {
    every = length-map-range_with_len (lane_weight ways k) 0 (node_count net) ∙ sym many;
    each = λ v lt.
        let v_in : v < node_count net = omega (arith, lt, many) in
        at_weights v v_in ∙ ⊎_elim
        (λ (e : v ≡ s). let none : at wide v ≡ 0 = ap (at wide) e ∙ wide_own in
        let own : lane_weight ways k v ≡ 0 = ap (λ t. cond t 0 (K v / unit)) (eq-eqb v s e) in omega (arith, none, own))
        (λ (ne : v ≢ s). let other : lane_weight ways k v ≡ K v / unit = ap (λ t. cond t 0 (K v / unit)) (ne_eqb v s ne) in
        omega (arith, other, wide_other v v_in ne, port_in v))
        (cases_eq v s);
  }

  ports_in : ArePortsIn s wide helds (length wide)
  ports_in = record {
    every = length-map-range_with_len held 0 (node_count net) ∙ sym many;
    own = λ lt. at_helds s s_in ∙ ap (λ t. cond t None (Some (lane_port ways k s))) (eq-eqb s s refl);
    each = λ v lt ne.
        let v_in : v < node_count net = omega (arith, lt, many) in
        let port : K v % unit ≡ at wide v % 65536 = omega (arith, wide_other v v_in ne, port_in v) in
        at_helds v v_in ∙ (ap (λ t. cond t None (Some (lane_port ways k v))) (ne_eqb v s ne) ∙ ap (λ (p : ℕ). Some p) port);
  }

  pub lane_distance : (v : ℕ) → v < node_count net → IsDistance net s v (lane_weight ways k v)
  lane_distance v v_in = subst (λ (w : ℕ). IsDistance net s v w) (at_weights v v_in) ((keys_distances net ok s s_in wide least connected weights weights_in).each v v_in)

  pub lane_shortest : (v : ℕ) → v < node_count net → s ≢ v → IsShortestPort net s v (lane_port ways k v)
  lane_shortest v v_in ne =
      let is = (keys_ports net ok s s_in wide least connected helds ports_in).port v v_in ne in
      let same : held v ≡ Some (lane_port ways k v) = ap (λ t. cond t None (Some (lane_port ways k v))) (ne_eqb v s (λ e. ne (sym e))) in
      let e : is.0 ≡ lane_port ways k v = cc (is.1, at_helds v v_in, same) in
      subst (λ (p : ℕ). IsShortestPort net s v p) e is.2

-- in all lanes
pub lanes_solved : (net : Topology) → IsTopology net → (ways : OutwardLanes) (starts : List ℕ) → ways.bits ≤ 15 → length ways.sources ≡ 16 → AreNear net ways.keys
    → ((k : ℕ) → k < 16 → source_at ways k < node_count net)
    → ((k : ℕ) → k < 16 → IsSourceStart net (2 ^ ways.bits) (source_at ways k) (in_lane starts k))
    → ((u : ℕ) → u < node_count net → length (ports_of net u) ≤ 2 ^ ways.bits)
    → AreMet net (2 ^ ways.bits) starts ways.keys → AreOutwardLanes net ways
lanes_solved net ok ways starts few sixteen near nodes begun ports met = record {
  sixteen = sixteen;
  few_bits = few;
  every = near.every;
  node = nodes;
  weight = λ k v k_in v_in. lane_distance net ok ways starts k few (nodes k k_in) (begun k k_in) ports (met k k_in) v v_in;
  port = λ k v k_in v_in ne. lane_shortest net ok ways starts k few (nodes k k_in) (begun k k_in) ports (met k k_in) v v_in ne;
}

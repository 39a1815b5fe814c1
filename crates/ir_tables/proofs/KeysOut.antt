-- What the least keys from a node say: the distances, and the least ports that lead nearer.
use Rattle.std.proofs.Common.{◌≡◌, ◌≢◌, ℕ, ◌+◌, ◌/◌, ◌%◌, ◌<◌, ◌≤◌, List, [], ◌∷◌, ◌++◌, length, slice_index_or, Option, Some, None, refl, ap, sym, subst, ◌∙◌, arith, ⊎_elim}
use Rattle.std.proofs.lemmas.Bool.{cases_eq, cases_lt}
use Rattle.std.proofs.lemmas.Option.{slice_get_within}
use Rattle.std.proofs.lemmas.List.{get_or_append_left, get_or_past, get_or_push, length_push}
use Rattle.ir_model.specs.declared.Hop.{Hop}
use Rattle.ir_model.specs.Topology.{Topology, node_count, ports_of, port_at, port_back, IsTopology}
use Rattle.ir_model.specs.Walk.{link_weight, LeadsTo, IsWalk, weight_from, walk_weight, IsDistance, IsConnected}
use Rattle.ir_model.specs.Table.{LeadsNearer, IsShortestPort}
use Rattle.ir_model.proofs.Tables.{distance_unique, distance_way}
use Rattle.ir_model.proofs.Walks.{link_weight_at, PortFacts, port_facts, degree_bound}
use Rattle.ir_model.proofs.Ways.{joined, symmetric}
use Rattle.ir_tables.specs.Relaxation.{at, IsSettled, IsReached, IsRelaxed}
use Rattle.ir_tables.specs.FromNode.{AreFrom, AreLeastPorts}
use Rattle.ir_tables.specs.Keys.{key_of, IsKeyed, AreKeys, AreWeightsIn, ArePortsIn}
use Rattle.ir_tables.proofs.Settled.{distance_from_settled, settled_within}

-- a port has a number of 16 bits
pub port_small : (net : Topology) → IsTopology net → (x p : ℕ) (hop : Hop) → port_at net x p ≡ Some hop → p < 65536
port_small net ok x p hop port =
    let lt : p < length (ports_of net x) = slice_get_within (ports_of net x) p hop port in
    let few : node_count net ≤ 32768 = ok.few_nodes in
    omega (arith, lt, degree_bound net ok x, few)

module _ (net : Topology) (ok : IsTopology net) (u : ℕ) (u_in : u < node_count net) (keys : List ℕ) (are : AreKeys net u keys) where
  -- the weight in the key of a node
  abbrev weight_in : ℕ → ℕ
  weight_in v = at keys v / 65536

  source_key : at keys u ≡ 0
  source_key = are.ways.source

  -- a node's key and that of its neighbour
  step_from_source : (p : ℕ) (hop : Hop) → port_at net u p ≡ Some hop → at keys hop.node ≤ key_of hop.weight p
  step_from_source p hop port =
      let le = are.spent u p hop (key_of hop.weight p) port (record { first = λ e. refl; later = λ ne. absurd (ne refl) }) in
      omega (arith, le, source_key)

  step_from_other : (x p : ℕ) (hop : Hop) → x ≢ u → port_at net x p ≡ Some hop → at keys hop.node ≤ at keys x + key_of hop.weight 0
  step_from_other x p hop other port =
      are.spent x p hop (key_of hop.weight 0) port (record { first = λ e. absurd (other e); later = λ ne. refl })

  -- the step back from a neighbour that is not u
  back_from_other : (x p : ℕ) (hop : Hop) → port_at net x p ≡ Some hop → hop.node ≢ u → at keys x ≤ at keys hop.node + key_of hop.weight 0
  back_from_other x p hop port other =
      let back = ok.paired x p hop port in
      step_from_other hop.node back.0 (port_back x hop) other back.1

  -- the step back from a neighbour that is u
  back_from_source : (x p : ℕ) (hop : Hop) → port_at net x p ≡ Some hop → hop.node ≡ u → at keys x < key_of hop.weight 65536
  back_from_source x p hop port is =
      let back = ok.paired x p hop port in
      let P : ℕ → Type 0 = λ k. port_at net k back.0 ≡ Some (port_back x hop) in
      let port' : port_at net u back.0 ≡ Some (port_back x hop) = subst P is back.1 in
      omega (arith, step_from_source back.0 (port_back x hop) port', port_small net ok u back.0 (port_back x hop) port')

  -- no key is greater than that of a way
  key_upper : (p : ℕ) (hop : Hop) → port_at net u p ≡ Some hop → (v : ℕ) (way : List ℕ) → LeadsTo net v hop.node way
      → at keys v ≤ key_of (weight_from net v way + hop.weight) p
  key_upper p hop port v [] leads =
      let same : at keys v ≡ at keys hop.node = ap (at keys) leads.0 in
      omega (arith, step_from_source p hop port, same)
  key_upper p hop port v (y ∷ rest) leads =
      let q : ℕ = leads.0.0 in
      let h : Hop = leads.0.1 in
      let port_h : port_at net v q ≡ Some h = leads.0.2 in
      let facts : PortFacts net u hop = port_facts net ok u p hop port in
      let link : link_weight net v y ≡ h.weight = subst (λ (z : ℕ). link_weight net v z ≡ h.weight) leads.0.3 (link_weight_at net ok v q h port_h) in
      let later : at keys y ≤ key_of (weight_from net y rest + hop.weight) p = key_upper p hop port y rest leads.1 in
      let same : at keys h.node ≡ at keys y = ap (at keys) leads.0.3 in
      ⊎_elim (λ (e : h.node ≡ u). omega (arith, back_from_source v q h port_h e, link, facts.positive))
      (λ (ne : h.node ≢ u). omega (arith, back_from_other v q h port_h ne, link, later, same))
      (cases_eq h.node u)

  -- the weights in the keys are settled
  weights_settled : IsSettled net u weight_in
  weights_settled = record {
    end = omega (arith, source_key);
    tight = λ x p hop port.
        ⊎_elim (λ (e : hop.node ≡ u). omega (arith, back_from_source x p hop port e))
        (λ (ne : hop.node ≢ u). omega (arith, back_from_other x p hop port ne))
        (cases_eq hop.node u);
  }

  -- what the key of a node holds
  record Held (v p : ℕ) (hop : Hop) (way : List ℕ) : Type 0 where
    pub weight : weight_in v ≡ weight_from net v way + hop.weight
    pub port : at keys v % 65536 ≡ p

  held_in : (v : ℕ) (k : IsKeyed net u v (at keys v)) → Held v k.p k.hop k.way
  held_in v k =
      let small : k.p < 65536 = port_small net ok u k.p k.hop k.port_is in
      record { weight = omega (arith, k.key_is, small); port = omega (arith, k.key_is, small) }

  -- the weight in a key is that of a way
  weights_reached : (v : ℕ) → v < node_count net → weight_in v < 4294967295 → IsReached net u weight_in v
  weights_reached v v_in below =
      ⊎_elim (λ (e : v ≡ u). let none : at keys v ≡ 0 = ap (at keys) e ∙ source_key in ([], (e, u_in), omega (arith, none)))
      (λ (ne : v ≢ u). by_key (are.ways.reached v v_in ne (omega (arith, below))))
      (cases_eq v u)
    where
      by_key : IsKeyed net u v (at keys v) → IsReached net u weight_in v
      by_key k =
          let back = ok.paired u k.p k.hop k.port_is in
          let last : LeadsTo net k.hop.node u (u ∷ []) = ((back.0, port_back u k.hop, back.1, refl), (refl, u_in)) in
          let link : link_weight net k.hop.node u ≡ k.hop.weight = link_weight_at net ok k.hop.node back.0 (port_back u k.hop) back.1 in
          let both = joined net v k.hop.node u k.way (u ∷ []) k.leads last in
          (k.way ++ u ∷ [], both.0, omega (arith, both.1, link, (held_in v k).weight))

  pub keys_relaxed : (weights : List ℕ) → AreWeightsIn keys weights (length keys) → IsRelaxed net u weights
  keys_relaxed weights in_keys = record {
    len = in_keys.every ∙ are.ways.every;
    settled = record {
      end = same u ∙ weights_settled.end;
      tight = λ x p hop port. omega (arith, same x, same hop.node, weights_settled.tight x p hop port);
    };
    reached = λ v v_in below.
        let way : IsReached net u weight_in v = weights_reached v v_in (omega (arith, same v, below)) in
        (way.0, way.1, way.2 ∙ sym (same v));
  }
    where
      same : (v : ℕ) → at weights v ≡ weight_in v
      same v =
          ⊎_elim (in_keys.each v)
          (λ (past : length keys ≤ v).
          let none : at weights v ≡ 0 = get_or_past weights v 0 (omega (arith, past, in_keys.every)) in
          let no_key : at keys v ≡ 0 = get_or_past keys v 0 past in
          omega (arith, none, no_key))
          (cases_lt v (length keys))

  module _ (connected : IsConnected net) where
    below_bound : (v : ℕ) → v < node_count net → weight_in v < 4294967295
    below_bound v v_in = let w = connected v u v_in u_in in by_walk w.0 w.1
      where
        by_walk : (walk : List ℕ) → IsWalk net v u walk → weight_in v < 4294967295
        by_walk [] is = absurd is
        by_walk (x ∷ rest) is =
            let few : node_count net ≤ 32768 = ok.few_nodes in
            settled_within net ok u 4294967295 weight_in weights_settled (omega (arith, few)) weights_reached v rest is.1

    key_distance : (v : ℕ) → v < node_count net → IsDistance net u v (weight_in v)
    key_distance v v_in =
        symmetric net ok v u (weight_in v) (distance_from_settled net ok u weight_in weights_settled v (weights_reached v v_in (below_bound v v_in)))

    pub keys_distances : (weights : List ℕ) → AreWeightsIn keys weights (length keys) → AreFrom net u weights
    keys_distances weights in_keys = record {
      node = u_in;
      every = in_keys.every ∙ are.ways.every;
      each = λ v v_in. subst (λ (w : ℕ). IsDistance net u v w) (sym (in_keys.each v (omega (arith, v_in, are.ways.every)))) (key_distance v v_in);
    }

    -- the port in a key is the least that leads nearer
    key_port : (v : ℕ) → v < node_count net → v ≢ u → IsShortestPort net u v (at keys v % 65536)
    key_port v v_in other =
        let k : IsKeyed net u v (at keys v) = are.ways.reached v v_in other (omega (arith, below_bound v v_in)) in
        let held : Held v k.p k.hop k.way = held_in v k in
        subst (λ (p : ℕ). IsShortestPort net u v p) (sym held.port) (by_key k held)
      where
        no_lighter : (k : IsKeyed net u v (at keys v)) → (walk : List ℕ) → IsWalk net v k.hop.node walk → weight_from net v k.way ≤ walk_weight net walk
        no_lighter k [] none = absurd none
        no_lighter k (x ∷ rest) is =
            let same : weight_from net x rest ≡ weight_from net v rest = ap (λ (y : ℕ). weight_from net y rest) is.0 in
            omega (arith, key_upper k.p k.hop k.port_is v rest is.1, k.key_is, same)

        least : (k : IsKeyed net u v (at keys v)) → Held v k.p k.hop k.way → (q : ℕ) → LeadsNearer net u v q → k.p ≤ q
        least k held q near =
            let way = distance_way net v near.0.node near.1 (symmetric net ok near.0.node v near.1 near.3) in
            let total : weight_in v ≡ near.0.weight + near.1 = distance_unique net u v (weight_in v) (near.0.weight + near.1) (key_distance v v_in) near.4 in
            omega (arith, key_upper q near.0 near.2 v way.0 way.1, way.2, total, held.weight, k.key_is)

        by_key : (k : IsKeyed net u v (at keys v)) → Held v k.p k.hop k.way → IsShortestPort net u v k.p
        by_key k held =
            let far : IsDistance net v k.hop.node (weight_from net v k.way) = record { reached = (v ∷ k.way, (refl, k.leads), refl); least = no_lighter k } in
            let total : weight_in v ≡ k.hop.weight + weight_from net v k.way = omega (arith, held.weight) in
            record {
              nearer = (
                k.hop,
                weight_from net v k.way,
                k.port_is,
                symmetric net ok v k.hop.node (weight_from net v k.way) far,
                subst (λ (w : ℕ). IsDistance net u v w) total (key_distance v v_in),
              );
              least = least k held;
            }

    pub keys_ports : (ports : List (Option ℕ)) → ArePortsIn u keys ports (length keys) → AreLeastPorts net u ports
    keys_ports ports in_keys = record {
      every = in_keys.every ∙ are.ways.every;
      own = in_keys.own (omega (arith, u_in, are.ways.every));
      port = λ v v_in other. (at keys v % 65536, in_keys.each v (omega (arith, v_in, are.ways.every)) (λ e. other (sym e)), key_port v v_in (λ e. other (sym e)));
    }

-- one more port
pub ports_push : (u : ℕ) (keys : List ℕ) (ports : List (Option ℕ)) (i : ℕ) (port : Option ℕ) → (i ≡ u → port ≡ None) → (i ≢ u → port ≡ Some (at keys i % 65536))
    → ArePortsIn u keys ports i → ArePortsIn u keys (ports ++ port ∷ []) (i + 1)
ports_push u keys ports i port own other so_far = record {
  every = let long : length (ports ++ port ∷ []) ≡ length ports + 1 = length_push ports port in omega (arith, long, so_far.every);
  own = λ less. ⊎_elim
      (λ (before : u < i). get_or_append_left ports (port ∷ []) None u (omega (arith, before, so_far.every)) ∙ so_far.own before)
      (λ (ge : i ≤ u). let same : u ≡ i = omega (arith, ge, less) in
      subst (λ (k : ℕ). slice_index_or (ports ++ port ∷ []) k None ≡ None) (sym same) (get_or_push ports port None i so_far.every ∙ own (sym same)))
      (cases_lt u i);
  each = λ v less ne. ⊎_elim
      (λ (before : v < i). get_or_append_left ports (port ∷ []) None v (omega (arith, before, so_far.every)) ∙ so_far.each v before ne)
      (λ (ge : i ≤ v). let same : v ≡ i = omega (arith, ge, less) in
      subst (λ (k : ℕ). slice_index_or (ports ++ port ∷ []) k None ≡ Some (at keys k % 65536)) (sym same) (get_or_push ports port None i so_far.every ∙ other (λ e. ne (same ∙ e))))
      (cases_lt v i);
}

-- The ports of a lane, by label, stand for the least ports of its node.
use Rattle.std.proofs.Common.{◌≡◌, ◌≢◌, ℕ, ◌<◌, List, length, map, set, Option, Some, None, get_or, slice_index, ap, sym, ◌∙◌, arith}
use Rattle.std.specs.List.{range_with_len}
use Rattle.std.proofs.lemmas.List.{length-map, length-set, get_or-map, get_or-set_same, get_or-set_other}
use Rattle.std.proofs.lemmas.List.FromFn.{get_or-map-range_with_len, length-map-range_with_len}
use Rattle.ir_model.specs.Topology.{Topology, node_count}
use Rattle.ir_model.specs.Plan.{AreLabels}
use Rattle.ir_compile.specs.Plain.{StandFor}
use Rattle.ir_lanes.specs.Outward.{OutwardLanes, AreOutwardLanes, lane_port, source_at}
use Rattle.ir_tables.specs.FromNode.{held_at, AreLeastPorts}
use Rattle.ir_plan.proofs.NodeRows.{least_destinations}

module _ (net : Topology) (ways : OutwardLanes) (are : AreOutwardLanes net ways) (k : ℕ) (lane : k < 16) where
  pub held_of : List (Option ℕ)
  held_of = set (map (λ (v : ℕ). Some (lane_port ways k v)) (range_with_len 0 (node_count net))) (source_at ways k) None

  held_port : (d : ℕ) → d < node_count net → d ≢ source_at ways k → held_at held_of d ≡ Some (lane_port ways k d)
  unfolding held_of
  held_port d label other =
      get_or-set_other (map (λ (v : ℕ). Some (lane_port ways k v)) (range_with_len 0 (node_count net))) (source_at ways k) d None None other
      ∙ get_or-map-range_with_len (λ (v : ℕ). Some (lane_port ways k v)) 0 (node_count net) d d None label (omega arith)

  pub held_least : AreLeastPorts net (source_at ways k) held_of
  unfolding held_of
  held_least =
      let all : List (Option ℕ) = map (λ (v : ℕ). Some (lane_port ways k v)) (range_with_len 0 (node_count net)) in
      let len : length all ≡ node_count net = length-map-range_with_len (λ (v : ℕ). Some (lane_port ways k v)) 0 (node_count net) in
      record {
        every = length-set all (source_at ways k) None ∙ len;
        own = get_or-set_same all (source_at ways k) None None (omega (arith, len, are.node k lane));
        port = λ d label other. (lane_port ways k d, held_port d label (λ e. other (sym e)), are.port k d lane label other);
      }

  module _ (order labels : List ℕ) (named : AreLabels (node_count net) order labels) where
    pub lane_stands : StandFor (node_count net) (slice_index labels (source_at ways k)) (map (lane_port ways k) order) (map (held_at held_of) order)
    lane_stands =
        let u = source_at ways k in
        let hu = are.node k lane in
        record {
          every = length-map order (lane_port ways k) ∙ named.every_label;
          destinations = least_destinations net order labels named u hu held_of held_least;
          each = λ d label other.
              let v = get_or order d 0 in
              let apart : v ≢ u = λ e. other (sym (named.back d label) ∙ ap (slice_index labels) e) in
              get_or-map (held_at held_of) order d 0 None (omega (arith, named.every_label, label))
              ∙ held_port v (named.node d label) apart
              ∙ ap Some (sym (get_or-map (lane_port ways k) order d 0 0 (omega (arith, named.every_label, label))));
        }

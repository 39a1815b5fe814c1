-- A connected network has a plan of each kind of shortest ways for each numbering of its nodes.
use Rattle.std.proofs.Common.{◌≡◌, ◌≢◌, ℕ, ◌<◌, List, [], length, map, refl, sym, ap, ◌∙◌, subst, arith}
use Rattle.std.specs.Prelude.{slice_index}
use Rattle.ir_model.specs.declared.Kind.{Kind}
use Rattle.ir_model.specs.declared.Kind.TheVariants.{Tree, Shortest, Compact, Landmark}
use Rattle.ir_model.specs.Topology.{Topology, node_count, ports_of, IsTopology}
use Rattle.ir_model.specs.Choices.{AreChoices}
use Rattle.ir_model.specs.Compact.{IsTied}
use Rattle.ir_model.proofs.Chosen.{chosen_are_destinations}
use Rattle.std.proofs.lemmas.Option.{slice_get_within}
use Rattle.ir_model.specs.Walk.{IsConnected}
use Rattle.ir_model.specs.Row.{Start}
use Rattle.ir_model.specs.Numbering.{IsDepthFirst, neighbors_of}
use Rattle.ir_model.specs.Plan.{Plan, AreLabels}
use Rattle.ir_numbering.specs.Numbering.{Numbering}
use Rattle.ir_tables.specs.FromNode.{held_at}
use Rattle.ir_plan.specs.declared.tour.LabelOrder.{LabelOrder}
use Rattle.ir_plan.specs.declared.tour.LabelOrder.TheVariants.{DepthFirst, Tour}
use Rattle.ir_plan.specs.Building.{Labelling, FromRoot, ByList, IsPlanBy}
use Rattle.ir_plan.specs.NodeRows.{IsNodeRow, AreNodeRows}
use Rattle.ir_plan.specs.Shown.{plan_with}
use Rattle.ir_plan.specs.Starts.{IsDepthFirstOrder, IsFirstOrder, IsFirstPlan, IsLabelledBy, IsOfShortestWays}
use Rattle.ir_plan.proofs.Labelled.{no_tree_of_shortest_ways, untoured_labelled}
use Rattle.ir_plan.proofs.NodeRows.{node_rows_stand, least_by_label, least_destinations}
use Rattle.ir_plan.proofs.Standing.{plan_stands}
use Rattle.ir_show.specs.Plans.{NeedsNoTour, IsOrderBy, IsPlanOver}
use Rattle.ir_show.proofs.Searching.{chosen_list}
use Rattle.ir_show.proofs.SearchedWays.{decide_nearer, least_ports, shortest_port}
use Rattle.ir_show.proofs.LongestRuns.{AreDecided}
use Rattle.ir_show.proofs.ChosenPorts.{chosen_some}
use Rattle.ir_show.proofs.CanonicalRows.{canonical_some}

no_tree : {A : Type 0} (kind : Kind) → IsOfShortestWays kind → kind ≡ Tree → A
no_tree kind other e = absurd (no_tree_of_shortest_ways kind other e)

-- in the first plan of a kind of shortest ways the labels are depth first
depth_first_labels : (kind : Kind) → IsOfShortestWays kind → (net : Topology) (root : ℕ) (order : List ℕ) → IsDepthFirstOrder net root order → IsFirstOrder kind net root order
depth_first_labels Tree other net root order depth = depth
depth_first_labels Shortest other net root order depth = depth
depth_first_labels Compact other net root order depth = depth
depth_first_labels (Landmark t) other net root order depth = absurd other

module _ (net : Topology) (ok : IsTopology net) (connected : IsConnected net) (numbers : Numbering) (named : AreLabels (node_count net) numbers.order numbers.labels) where
  module _ (u : ℕ) (hu : u < node_count net) where
    shortest_row : (row : List Start) × IsNodeRow Shortest net numbers.order numbers.parents (slice_index numbers.labels u) row
    shortest_row =
        let held = least_ports net ok connected u hu in
        let ports = map (held_at held.0) numbers.order in
        let valid = least_destinations net numbers.order numbers.labels named u hu held.0 held.1 in
        let row = canonical_some (node_count net) (slice_index numbers.labels u) ports valid in (
          row.0,
          record {
            ports = ports;
            ports_of_kind = least_by_label net numbers.order numbers.labels named u hu held.0 held.1;
            destinations = valid;
            canonical = row.1;
          },
        )

    -- each other label has a port that leads nearer to its node, and which do is decided
    tied : AreChoices (node_count net) (slice_index numbers.labels u) (IsTied net numbers.order (slice_index numbers.labels u))
    tied = record {
      has_own = named.label u hu;
      some = λ d d_in other.
          let a = slice_index numbers.labels u in
          let from : slice_index numbers.order a ≢ slice_index numbers.order d = λ e. other (sym (sym (named.back a (named.label u hu)) ∙ ap (slice_index numbers.labels) e ∙ named.back d d_in)) in
          let port = shortest_port net ok connected (slice_index numbers.order a) (named.node a (named.label u hu)) (slice_index numbers.order d) (named.node d d_in) from in
          (port.0, port.1.nearer);
    }

    tied_decided : AreDecided (node_count net) (IsTied net numbers.order (slice_index numbers.labels u)) (length (ports_of net (slice_index numbers.order (slice_index numbers.labels u))))
    tied_decided = record {
      each = λ d p d_in.
          let a = slice_index numbers.labels u in
          decide_nearer net ok (slice_index numbers.order d) (named.node d d_in) connected (slice_index numbers.order a) p (named.node a (named.label u hu));
      low = λ d p nearer. slice_get_within (ports_of net (slice_index numbers.order (slice_index numbers.labels u))) p nearer.0 nearer.2;
    }

    compact_row : (row : List Start) × IsNodeRow Compact net numbers.order numbers.parents (slice_index numbers.labels u) row
    compact_row =
        let n = node_count net in
        let a = slice_index numbers.labels u in
        let chosen = chosen_some n a (IsTied net numbers.order a) tied (length (ports_of net (slice_index numbers.order a))) tied_decided in
        let valid = chosen_are_destinations n a (IsTied net numbers.order a) tied chosen.0 chosen.1 in
        let row = canonical_some n a chosen.0 valid in
        (row.0, record { ports = chosen.0; ports_of_kind = (tied, chosen.1); destinations = valid; canonical = row.1 })

    node_row : (kind : Kind) → IsOfShortestWays kind → (row : List Start) × IsNodeRow kind net numbers.order numbers.parents (slice_index numbers.labels u) row
    node_row Tree other = absurd other
    node_row (Landmark t) other = absurd other
    node_row Shortest other = shortest_row
    node_row Compact other = compact_row

  pub plan_some : (kind : Kind) → IsOfShortestWays kind → 0 < node_count net → (plan : Plan) × IsPlanOver net kind numbers plan
  plan_some kind other some =
      let made = chosen_list [] (λ u row. IsNodeRow kind net numbers.order numbers.parents (slice_index numbers.labels u) row) (node_count net) (λ u hu. node_row u hu kind other) in
      let are : AreNodeRows kind net numbers.order numbers.parents numbers.labels (node_count net) made.0 = record { every = made.1; each = made.2 } in
      let stand = node_rows_stand net ok numbers named made.0 kind connected some (no_tree kind other) are in
      let root = slice_index numbers.order 0 in (
        plan_with kind root net numbers.order numbers.labels made.0,
        record {
          valid = plan_stands kind root net numbers.order numbers.parents numbers.labels stand.0 made.0 ok connected (named.node 0 some) (no_tree kind other) refl named stand.1 stand.2 stand.3;
          over = refl;
          of_kind = refl;
          order = refl;
          labels = refl;
        },
      )

-- a plan with numbers by these labels is one by these labels
module _ (net : Topology) (kind : Kind) (numbers : Numbering) (plan : Plan) (is : IsPlanOver net kind numbers plan) (other : IsOfShortestWays kind) where
  has_root : (root : ℕ) (parents : List ℕ) → IsDepthFirst (neighbors_of net) (node_count net) root numbers.order parents → plan.root ≡ root
  has_root root parents depth = sym is.valid.first ∙ ap (λ (order : List ℕ). slice_index order 0) is.order ∙ depth.root_first

  is_first : (root : ℕ) (parents : List ℕ) → IsDepthFirst (neighbors_of net) (node_count net) root numbers.order parents → IsFirstPlan plan
  is_first root parents depth =
      subst (λ (k : Kind). IsFirstOrder k plan.topology plan.root plan.order) (sym is.of_kind)
      (subst (λ (over : Topology). IsFirstOrder kind over plan.root plan.order) (sym is.over)
      (subst (λ (order : List ℕ). IsFirstOrder kind net plan.root order) (sym is.order)
      (subst (λ (first : ℕ). IsFirstOrder kind net first numbers.order) (sym (has_root root parents depth)) (depth_first_labels kind other net root numbers.order (parents, depth)))))

  labelled : (labels : LabelOrder) (root : ℕ) → NeedsNoTour (node_count net) (FromRoot labels root) → IsFirstPlan plan → IsLabelledBy labels plan
  labelled DepthFirst root none depth = untoured_labelled DepthFirst plan depth (λ other _. absurd (other refl))
  labelled Tour root none depth = untoured_labelled Tour plan depth (λ _ sought. omega (arith, none, sought.1, ap node_count is.over))

  pub plan_by : (labels : Labelling) → NeedsNoTour (node_count net) labels → IsOrderBy net labels numbers.order → IsPlanBy net kind labels plan
  plan_by (FromRoot labels root) none (parents, depth) = record {
    valid = is.valid;
    over = is.over;
    of_kind = is.of_kind;
    labelled = (labelled labels root none (is_first root parents depth), has_root root parents depth);
  }
  plan_by (ByList list) none by = record { valid = is.valid; over = is.over; of_kind = is.of_kind; labelled = is.order ∙ by }

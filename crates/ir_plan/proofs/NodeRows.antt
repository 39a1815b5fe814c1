-- The rows of all nodes stand for the full table of their kind.
use Rattle.std.proofs.Common.{◌≡◌, ◌≢◌, ℕ, ◌<◌, ◌≤◌, List, [], ◌∷◌, length, map, Option, None, get_or, refl, ap, sym, ◌∙◌, subst, inl, inr, arith}
use Rattle.std.specs.Prelude.{slice_index, slice_index_or, IsSome}
use Rattle.std.proofs.lemmas.Bool.{cases_eq, eq-eqb, ne_eqb}
use Rattle.std.proofs.lemmas.List.{get_or-map, length-map, ext_get_or}
use Rattle.ir_model.specs.declared.Detour.{Detour}
use Rattle.ir_model.specs.declared.Kind.{Kind}
use Rattle.ir_model.specs.declared.Kind.TheVariants.{Tree, Shortest, Compact, Landmark}
use Rattle.ir_model.specs.Topology.{Topology, IsTopology, node_count}
use Rattle.ir_model.specs.Table.{LeadsNearer, IsShortestPort, IsShortestTable, IsPrescribedWalk}
use Rattle.ir_model.specs.Row.{Start}
use Rattle.ir_model.specs.Numbering.{neighbors_of}
use Rattle.ir_model.specs.Compiled.{IsDestinations, IsCanonical, port_to}
use Rattle.ir_model.specs.Choices.{AreChoices, AreChosen}
use Rattle.ir_model.specs.Compact.{IsTied, IsCompactTable}
use Rattle.ir_model.specs.Walk.{IsConnected}
use Rattle.ir_model.specs.Within.{LeadsWithin, MayLead}
use Rattle.ir_model.specs.Landmark.{AreMostLinked, IsLandmarkBound, IsLandmarkTable}
use Rattle.ir_model.specs.Plan.{AreLabels}
use Rattle.ir_model.proofs.Canonical.{canonical_fits}
use Rattle.ir_model.proofs.Tables.{nearer_walks, shortest_is_nearer}
use Rattle.ir_model.proofs.Chosen.{chosen_may}
use Rattle.ir_model.proofs.Landmarks.{landmark_walks}
use Rattle.ir_model.proofs.Reach.{connected_distances}
use Rattle.ir_tables.specs.FromNode.{held_at, AreLeastPorts}
use Rattle.ir_tables.proofs.Ways.{continues_short}
use Rattle.ir_numbering.specs.Numbering.{Numbering, IsNumberingOf}
use Rattle.ir_numbering.specs.Cells.{IsTreeCell, AreTreeCells}
use Rattle.ir_numbering.proofs.Nested.{depth_first_nests}
use Rattle.ir_numbering.proofs.Ways.{Goes, way}
use Rattle.ir_numbering.proofs.Routes.{tree_walk, tree_table_is}
use Rattle.ir_plan.specs.Shown.{row_port, shown_port, AreRows, StandForTable}
use Rattle.ir_bounds.proofs.Determined.{most_linked_same}
use Rattle.ir_bounds.proofs.Rooted.{linked_are_landmarks}
use Rattle.ir_plan.specs.NodeRows.{AreShortestPorts, ArePortsOf, AreNodeRows}
use Rattle.ir_plan.proofs.RowPorts.{shown_fits}

module _ (kind : Kind) (net : Topology) (order parents labels : List ℕ) (named : AreLabels (node_count net) order labels) (rows : List (List Start))
    (are : AreNodeRows kind net order parents labels (node_count net) rows) where
  -- the ports that a row shows are those that it was compiled from
  shown_ports : (u : ℕ) → (hu : u < node_count net) → map (shown_port labels rows u) order ≡ (are.each u hu).ports
  shown_ports u hu =
      let n = node_count net in
      let a = slice_index labels u in
      let w = are.each u hu in
      let row = slice_index_or rows u [] in
      let fits = canonical_fits n a w.ports w.destinations row w.canonical in
      let len : length (map (shown_port labels rows u) order) ≡ n = length-map order (shown_port labels rows u) ∙ named.every_label in
      ext_get_or None (map (shown_port labels rows u) order) w.ports (len ∙ sym w.destinations.every) (λ d l.
      let hd : d < n = omega arith in
      let at : get_or (map (shown_port labels rows u) order) d None ≡ shown_port labels rows u (slice_index order d) = get_or-map (shown_port labels rows u) order d 0 None (rw named.every_label hd) in
      elim (cases_eq d a) [
        | inl e ↦
            let same : u ≡ slice_index order d = sym (ap (slice_index order) e ∙ named.there u hu) in
            at ∙ rw (eq-eqb u (slice_index order d) same) (sym (ap (port_to w.ports) e ∙ w.destinations.none))
        | inr ne ↦
            let differ : u ≢ slice_index order d = λ e. ne (sym (ap (slice_index labels) e ∙ named.back d hd)) in
            at ∙ rw (ne_eqb u (slice_index order d) differ) (ap (row_port row) (named.back d hd) ∙ shown_fits n d hd a w.ports row fits ne)
      ])

  rows_stand : AreRows (node_count net) order labels (shown_port labels rows) rows
  rows_stand = record {
    every = are.every;
    canonical = λ u hu.
        subst (λ (ports : List (Option ℕ)). IsCanonical (node_count net) (slice_index labels u) ports (slice_index_or rows u [])) (sym (shown_ports u hu)) (are.each u hu).canonical;
  }

  shown_own : (d : ℕ) → d < node_count net → shown_port labels rows d d ≡ None
  shown_own d hd = rw (eq-eqb d d refl) refl

  -- the port to a node, in the ports by label
  shown_at_label : (u d : ℕ) → (hu : u < node_count net) → d < node_count net → shown_port labels rows u d ≡ port_to (are.each u hu).ports (slice_index labels d)
  shown_at_label u d hu hd =
      let at : get_or (map (shown_port labels rows u) order) (slice_index labels d) None ≡ shown_port labels rows u (slice_index order (slice_index labels d)) =
      get_or-map (shown_port labels rows u) order (slice_index labels d) 0 None (rw named.every_label (named.label d hd)) in
      ap (shown_port labels rows u) (sym (named.there d hd)) ∙ sym at ∙ ap (λ (ports : List (Option ℕ)). get_or ports (slice_index labels d) None) (shown_ports u hu)

  label_differs : (u d : ℕ) → u < node_count net → d < node_count net → u ≢ d → slice_index labels d ≢ slice_index labels u
  label_differs u d hu hd ne = λ e. ne (sym (sym (named.there d hd) ∙ ap (slice_index order) e ∙ named.there u hu))

-- what the kinds' rows say of the table that they show
module _ (net : Topology) (order parents labels : List ℕ) (named : AreLabels (node_count net) order labels) (rows : List (List Start)) where
  shortest_shown : AreNodeRows Shortest net order parents labels (node_count net) rows → IsShortestTable net (shown_port labels rows)
  shortest_shown are = record {
    own = shown_own Shortest net order parents labels named rows are;
    port = λ u d hu hd ne.
        let a = slice_index labels u in
        let ports : AreShortestPorts net order a (are.each u hu).ports = (are.each u hu).ports_of_kind in
        let w = ports.port (slice_index labels d) (named.label d hd) (label_differs Shortest net order parents labels named rows are u d hu hd ne) in (
          w.0,
          shown_at_label Shortest net order parents labels named rows are u d hu hd ∙ w.1,
          subst (λ (x : ℕ). IsShortestPort net x d w.0) (named.there u hu) (subst (λ (y : ℕ). IsShortestPort net (slice_index order a) y w.0) (named.there d hd) w.2),
        );
  }

  tree_cells : (are : AreNodeRows Tree net order parents labels (node_count net) rows) (u d : ℕ) → u < node_count net → d < node_count net
      → IsTreeCell net order parents (slice_index labels u) (slice_index labels d) (shown_port labels rows u d)
  tree_cells are u d hu hd =
      let cells : AreTreeCells net order parents (slice_index labels u) (node_count net) (are.each u hu).ports = (are.each u hu).ports_of_kind in
      subst (λ (port : Option ℕ). IsTreeCell net order parents (slice_index labels u) (slice_index labels d) port) (sym (shown_at_label Tree net order parents labels named rows are u d hu hd))
      (cells.each (slice_index labels d) (named.label d hd))

  compact_shown : AreNodeRows Compact net order parents labels (node_count net) rows → IsCompactTable net order (shown_port labels rows)
  compact_shown are = record {
    nearer = record {
      own = shown_own Compact net order parents labels named rows are;
      port = λ u d hu hd ne.
          let a = slice_index labels u in
          let w = are.each u hu in
          let tied : AreChoices (node_count net) a (IsTied net order a) × AreChosen (node_count net) a (IsTied net order a) w.ports = w.ports_of_kind in
          let m = chosen_may (node_count net) a (IsTied net order a) tied.0 w.ports tied.1 (slice_index labels d) (named.label d hd) (label_differs Compact net order parents labels named rows are u d hu hd ne) in (
            m.0,
            shown_at_label Compact net order parents labels named rows are u d hu hd ∙ m.1,
            subst (λ (x : ℕ). LeadsNearer net x d m.0) (named.there u hu) (subst (λ (y : ℕ). LeadsNearer net (slice_index order a) y m.0) (named.there d hd) m.2),
          );
    };
    chosen = λ a ha.
        let u = slice_index order a in
        let hu = named.node a ha in
        let w = are.each u hu in
        let tied : AreChoices (node_count net) (slice_index labels u) (IsTied net order (slice_index labels u)) × AreChosen (node_count net) (slice_index labels u) (IsTied net order (slice_index labels u)) w.ports = w.ports_of_kind in
        subst (λ (ports : List (Option ℕ)). AreChosen (node_count net) a (IsTied net order a) ports) (sym (shown_ports Compact net order parents labels named rows are u hu))
        (subst (λ (x : ℕ). AreChosen (node_count net) x (IsTied net order x) w.ports) (named.back a ha) tied.1);
  }

  -- the landmarks of one row are those of each
  ports_within : (t : Detour) (are : AreNodeRows (Landmark t) net order parents labels (node_count net) rows) (landmarks : List ℕ) → AreMostLinked net (slice_index order 0) t.landmarks landmarks → (u : ℕ) → (hu : u < node_count net)
      → AreChoices (node_count net) (slice_index labels u) (MayLead net (IsLandmarkBound net landmarks t.stretch) order (slice_index labels u))
      × AreChosen (node_count net) (slice_index labels u) (MayLead net (IsLandmarkBound net landmarks t.stretch) order (slice_index labels u)) (are.each u hu).ports
  ports_within t are landmarks chosen u hu =
      let w : ArePortsOf (Landmark t) net order parents (slice_index labels u) (are.each u hu).ports = (are.each u hu).ports_of_kind in
      let a = slice_index labels u in
      let P : List ℕ → Type 0 = λ ls. AreChoices (node_count net) a (MayLead net (IsLandmarkBound net ls t.stretch) order a) × AreChosen (node_count net) a (MayLead net (IsLandmarkBound net ls t.stretch) order a) (are.each u hu).ports in
      subst P (most_linked_same net (slice_index order 0) t.landmarks w.0 landmarks w.1 chosen) (w.2, w.3)

  landmark_shown : (t : Detour) → 0 < node_count net → AreNodeRows (Landmark t) net order parents labels (node_count net) rows
      → (landmarks : List ℕ) × AreMostLinked net (slice_index order 0) t.landmarks landmarks × IsLandmarkTable net landmarks t.stretch order (shown_port labels rows)
  landmark_shown t some are =
      let first : ArePortsOf (Landmark t) net order parents (slice_index labels 0) (are.each 0 some).ports = (are.each 0 some).ports_of_kind in
      let landmarks : List ℕ = first.0 in (
        landmarks,
        first.1,
        record {
          keeps = record {
            own = shown_own (Landmark t) net order parents labels named rows are;
            port = λ u d hu hd ne.
                let a = slice_index labels u in
                let tied = ports_within t are landmarks first.1 u hu in
                let may : ℕ → ℕ → Type 0 = MayLead net (IsLandmarkBound net landmarks t.stretch) order a in
                let m = chosen_may (node_count net) a may tied.0 (are.each u hu).ports tied.1 (slice_index labels d) (named.label d hd) (label_differs (Landmark t) net order parents labels named rows are u d hu hd ne) in (
                  m.0,
                  shown_at_label (Landmark t) net order parents labels named rows are u d hu hd ∙ m.1,
                  subst (λ (x : ℕ). LeadsWithin net (IsLandmarkBound net landmarks t.stretch) x d m.0) (named.there u hu)
                      (subst (λ (y : ℕ). LeadsWithin net (IsLandmarkBound net landmarks t.stretch) (slice_index order a) y m.0) (named.there d hd) m.2),
                );
          };
          chosen = λ a ha.
              let u = slice_index order a in
              let hu = named.node a ha in
              let tied = ports_within t are landmarks first.1 u hu in
              subst (λ (ports : List (Option ℕ)). AreChosen (node_count net) a (MayLead net (IsLandmarkBound net landmarks t.stretch) order a) ports) (sym (shown_ports (Landmark t) net order parents labels named rows are u hu))
              (subst (λ (x : ℕ). AreChosen (node_count net) x (MayLead net (IsLandmarkBound net landmarks t.stretch) order x) (are.each u hu).ports) (named.back a ha) tied.1);
        },
      )

-- the rows of all nodes stand for a full table
module _ (net : Topology) (ok : IsTopology net) (numbers : Numbering) (named : AreLabels (node_count net) numbers.order numbers.labels) (rows : List (List Start)) where
  -- the walk that a tree table prescribes is short
  tree_short : (table : ℕ → ℕ → Option ℕ) (u d : ℕ) → u < node_count net → (walk : List ℕ) → IsPrescribedWalk net table u d walk → length walk ≤ node_count net
  tree_short table u d hu [] walks = absurd walks
  tree_short table u d hu (x ∷ rest) walks = continues_short net ok table d u hu rest walks.1

  pub node_rows_stand : (kind : Kind) → IsConnected net → 0 < node_count net → (kind ≡ Tree → IsNumberingOf net numbers) → AreNodeRows kind net numbers.order numbers.parents numbers.labels (node_count net) rows → StandForTable kind net numbers.order numbers.parents numbers.labels rows
  node_rows_stand Tree connected some tree are =
      let is = tree refl in
      let table = shown_port numbers.labels rows in
      let cells = tree_cells net numbers.order numbers.parents numbers.labels named rows are in (
        table,
        tree_table_is net numbers.order numbers.parents numbers.labels (slice_index numbers.order 0) is.order named table cells,
        (λ u d hu hd.
            let w = tree_walk net numbers.order numbers.parents numbers.labels (slice_index numbers.order 0) is.order named table cells u d hu hd in
            (w.0, w.1, tree_short table u d hu w.0 w.1)),
        rows_stand Tree net numbers.order numbers.parents numbers.labels named rows are,
      )
  node_rows_stand Shortest connected some tree are =
      let table = shortest_shown net numbers.order numbers.parents numbers.labels named rows are in (
        shown_port numbers.labels rows,
        table,
        nearer_walks net ok (shown_port numbers.labels rows) (shortest_is_nearer net (shown_port numbers.labels rows) table),
        rows_stand Shortest net numbers.order numbers.parents numbers.labels named rows are,
      )
  node_rows_stand Compact connected some tree are =
      let table = compact_shown net numbers.order numbers.parents numbers.labels named rows are in (
        shown_port numbers.labels rows,
        table,
        nearer_walks net ok (shown_port numbers.labels rows) table.nearer,
        rows_stand Compact net numbers.order numbers.parents numbers.labels named rows are,
      )
  node_rows_stand (Landmark t) connected some tree are =
      let shown = shown_port numbers.labels rows in
      let table = landmark_shown net numbers.order numbers.parents numbers.labels named rows t some are in
      let far_between = connected_distances net ok connected in
      let landmarks = linked_are_landmarks net (slice_index numbers.order 0) t.landmarks table.0 (named.node 0 some) table.1 in (
        shown,
        table,
        (λ u d hu hd.
            let far = far_between u d hu hd in
            landmark_walks net ok table.0 t.stretch t.least t.most far_between landmarks shown table.2.keeps u d far.0 far.1),
        rows_stand (Landmark t) net numbers.order numbers.parents numbers.labels named rows are,
      )

-- ---- the ports of one node

-- the ports of a tree are a list of destinations
pub tree_destinations : (net : Topology) (numbers : Numbering) → IsNumberingOf net numbers → (a : ℕ) → a < node_count net → (ports : List (Option ℕ))
    → AreTreeCells net numbers.order numbers.parents a (node_count net) ports → IsDestinations (node_count net) a ports
tree_destinations net numbers is a own ports cells = record {
  every = cells.every;
  has_own = own;
  none = (cells.each a own).own refl;
  some = λ d hd ne.
      let w = way (node_count net) numbers.parents (depth_first_nests (neighbors_of net) (node_count net) (slice_index numbers.order 0) numbers.order numbers.parents is.order) a a d (omega arith) own hd in
      by d hd ne w.0 w.1;
}
  where
    by : (d : ℕ) → d < node_count net → d ≢ a → (rest : List ℕ) → Goes (node_count net) numbers.parents d a rest → IsSome (port_to ports d)
    by d hd ne [] goes = absurd (ne (sym goes))
    by d hd ne (k ∷ rest) goes =
        elim goes.0 [
          | inl down ↦ let s = (cells.each d hd).son k down.0 down.1 down.2 down.3 in rw s.1 refl
          | inr up ↦ let f = (cells.each d hd).father up.2 in rw f.1 refl
        ]

-- the least ports by node are, by label, a list of destinations
module _ (net : Topology) (order labels : List ℕ) (named : AreLabels (node_count net) order labels) (u : ℕ) (hu : u < node_count net) (held : List (Option ℕ)) (least : AreLeastPorts net u held) where
  label_read : (d : ℕ) → d < node_count net → port_to (map (held_at held) order) d ≡ held_at held (slice_index order d)
  label_read d hd = get_or-map (held_at held) order d 0 None (rw named.every_label hd)

  pub least_by_label : AreShortestPorts net order (slice_index labels u) (map (held_at held) order)
  least_by_label = record {
    every = length-map order (held_at held) ∙ named.every_label;
    own = label_read (slice_index labels u) (named.label u hu) ∙ ap (held_at held) (named.there u hu) ∙ least.own;
    port = λ d hd ne.
        let other : u ≢ slice_index order d = λ e. ne (sym (ap (slice_index labels) e ∙ named.back d hd)) in
        let w = least.port (slice_index order d) (named.node d hd) other in
        (w.0, label_read d hd ∙ w.1, subst (λ (x : ℕ). IsShortestPort net x (slice_index order d) w.0) (sym (named.there u hu)) w.2);
  }

  pub least_destinations : IsDestinations (node_count net) (slice_index labels u) (map (held_at held) order)
  least_destinations = record {
    every = least_by_label.every;
    has_own = named.label u hu;
    none = least_by_label.own;
    some = λ d hd ne. let w = least_by_label.port d hd ne in rw w.1 refl;
  }

-- The rows of a landmark plan are fewest over all choices of ports that lead within the bound by its landmarks.
use Rattle.std.proofs.Common.{◌≡◌, ℕ, ◌*◌, ◌<◌, ◌≤◌, length, List, map, None, subst}
use Rattle.std.specs.Prelude.{slice_index}
use Rattle.ir_model.specs.declared.Detour.{Detour}
use Rattle.ir_model.specs.declared.Kind.{Kind}
use Rattle.ir_model.specs.declared.Kind.TheVariants.{Tree, Shortest, Compact, Landmark}
use Rattle.ir_model.specs.Topology.{Topology, node_count}
use Rattle.ir_model.specs.Walk.{IsDistance, walk_weight}
use Rattle.ir_model.specs.Table.{IsPrescribedWalk}
use Rattle.ir_model.specs.Row.{Start, intervals_of}
use Rattle.ir_model.specs.Choices.{AreChoices, AreChosen}
use Rattle.ir_model.specs.Within.{MayLead}
use Rattle.ir_model.specs.Landmark.{AreMostLinked, IsLandmarkBound, IsLandmarkTable}
use Rattle.ir_model.specs.Plan.{Plan, IsPlan, IsTableOf, table_port, label_in, by_label, row_in}
use Rattle.ir_model.proofs.Chosen.{chosen_fits, chosen_is_fewest}
use Rattle.ir_model.proofs.Landmarks.{landmark_walk_weight}
use Rattle.ir_model.proofs.Reach.{connected_distances}
use Rattle.ir_model.proofs.Within.{kept_choices}
use Rattle.ir_bounds.proofs.Rooted.{linked_are_landmarks}
use Rattle.ir_bounds.specs.Rows.{IsRowWithin}
use Rattle.ir_bounds.specs.Detours.{AreDetourBounds}
use Rattle.ir_bounds.specs.declared.detours.LandmarkBounds.{LandmarkBounds}
use Rattle.ir_plan.specs.NodeRows.{IsNodeRow}
use Rattle.ir_plan.specs.LandmarkRows.{FitsWithin, IsFewestWithin}
use Rattle.ir_plan.specs.Prepared.{AreBoundsFor}

-- where nothing is prepared, no bounds are
pub no_bounds : (kind : Kind) (net : Topology) (root : ℕ) → AreBoundsFor kind net root None
no_bounds Tree net root = tt
no_bounds Shortest net root = tt
no_bounds Compact net root = tt
no_bounds (Landmark t) net root = tt

-- a row within the bounds that a root and a detour choose is that of the kind
pub row_of_detour : (net : Topology) (order parents : List ℕ) (a : ℕ) (t : Detour) (held : LandmarkBounds) → AreDetourBounds net (slice_index order 0) t held → (row : List Start)
    → IsRowWithin net (IsLandmarkBound net held.owners.landmarks.items held.stretch) order a row → IsNodeRow (Landmark t) net order parents a row
row_of_detour net order parents a t held are row is =
    let landmarks : List ℕ = held.owners.landmarks.items in
    let P : ℕ → Type 0 = λ stretch. IsRowWithin net (IsLandmarkBound net landmarks stretch) order a row in
    let within : P t.stretch = subst P are.stretch is in
    record {
      ports = within.ports;
      ports_of_kind = (landmarks, are.chosen, within.choices, within.chosen);
      destinations = within.destinations;
      canonical = within.canonical;
    }

module _ (s : Plan) (is : IsPlan s) (t : Detour) (landmark : s.kind ≡ Landmark t) where
  table : (landmarks : List ℕ) × AreMostLinked s.topology (slice_index s.order 0) t.landmarks landmarks × IsLandmarkTable s.topology landmarks t.stretch s.order (table_port s)
  table = subst (λ (k : Kind). IsTableOf k s.topology s.order is.parents (table_port s)) landmark is.table

  from_root : AreMostLinked s.topology s.root t.landmarks table.0
  from_root = subst (λ (r : ℕ). AreMostLinked s.topology r t.landmarks table.0) is.first table.1

  -- what the plan prescribes weighs no more than its stretch allows
  pub landmark_weight : (u d n : ℕ) → IsDistance s.topology u d n → (walk : List ℕ) → IsPrescribedWalk s.topology (table_port s) u d walk → 100 * walk_weight s.topology walk ≤ t.stretch * n
  landmark_weight u d n far walk prescribed =
      let net = s.topology in
      let are = linked_are_landmarks net s.root t.landmarks table.0 is.root_in from_root in
      (landmark_walk_weight net is.topology table.0 t.stretch t.least t.most (connected_distances net is.topology is.connected) are (table_port s) table.2.keeps u d n far walk prescribed).1

  module _ (u : ℕ) (node : u < node_count s.topology) where
    abbrev may : ℕ → ℕ → Type 0
    may = MayLead s.topology (IsLandmarkBound s.topology table.0 t.stretch) s.order (label_in s u)

    choices : AreChoices (node_count s.topology) (label_in s u) may
    choices = kept_choices s.topology (IsLandmarkBound s.topology table.0 t.stretch) s.order s.labels is.labels (table_port s) table.2.keeps (label_in s u) (is.labels.label u node)

    chosen : AreChosen (node_count s.topology) (label_in s u) may (by_label s u)
    chosen =
        let named = is.labels in
        let P : ℕ → Type 0 = λ x. AreChosen (node_count s.topology) (label_in s u) (MayLead s.topology (IsLandmarkBound s.topology table.0 t.stretch) s.order (label_in s u)) (map (table_port s x) s.order) in
        subst P (named.there u node) (table.2.chosen (label_in s u) (named.label u node))

    pub landmark_row_fits : FitsWithin t s u (intervals_of (row_in s u))
    landmark_row_fits = (table.0, from_root, chosen_fits (node_count s.topology) (label_in s u) may choices (by_label s u) chosen (row_in s u) (is.rows u node))

    pub landmark_row_fewest : IsFewestWithin t s u (length (row_in s u))
    landmark_row_fewest = (table.0, from_root, chosen_is_fewest (node_count s.topology) (label_in s u) may choices (by_label s u) chosen (row_in s u) (is.rows u node))

-- Within the bound by landmarks there is a port to choose for each other label.
use Rattle.std.proofs.Common.{◌≢◌, ℕ, ◌<◌, List, ap, sym, ◌∙◌, subst}
use Rattle.std.specs.Prelude.{slice_index}
use Rattle.ir_model.specs.Topology.{Topology, node_count, IsTopology}
use Rattle.ir_model.specs.Walk.{IsConnected}
use Rattle.ir_model.specs.Plan.{AreLabels}
use Rattle.ir_model.specs.Choices.{AreChoices}
use Rattle.ir_model.specs.Within.{LeadsWithin, MayLead, IsKeepable}
use Rattle.ir_model.specs.Landmark.{AreLandmarks, IsLandmarkBound, IsPathStretch}
use Rattle.ir_model.proofs.Landmarks.{landmark_bound_keepable}
use Rattle.ir_model.proofs.Reach.{connected_distances}

-- to each label but that of u some port leads within the bound
pub landmark_choices : (net : Topology) → IsTopology net → IsConnected net → (landmarks : List ℕ) (stretch : ℕ) → IsPathStretch stretch → AreLandmarks net landmarks → (order labels : List ℕ)
    → AreLabels (node_count net) order labels → (u : ℕ) → u < node_count net → AreChoices (node_count net) (slice_index labels u) (MayLead net (IsLandmarkBound net landmarks stretch) order (slice_index labels u))
landmark_choices net ok connected landmarks stretch allowed some order labels named u hu =
    let bound : ℕ → ℕ → ℕ → Type 0 = IsLandmarkBound net landmarks stretch in
    let can : IsKeepable net bound = landmark_bound_keepable net ok landmarks stretch allowed.0 allowed.1 (connected_distances net ok connected) some in
    record {
      has_own = named.label u hu;
      some = λ d hd ne.
          let other : u ≢ slice_index order d = λ e. ne (sym (ap (slice_index labels) e ∙ named.back d hd)) in
          let w = can.port u (slice_index order d) hu (named.node d hd) other in
          (w.0, subst (λ (x : ℕ). LeadsWithin net bound x (slice_index order d) w.0) (sym (named.there u hu)) w.1);
    }

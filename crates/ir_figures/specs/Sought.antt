-- The tour that plans of a network are labelled by, where one is sought.
use Rattle.std.specs.Prelude.{ℕ, ◌<◌, ◌≤◌, Option, Some, None}
use Rattle.std.specs.Global.{Vec}
use Rattle.ir_model.specs.Topology.{Topology, node_count}
use Rattle.ir_plan.specs.Tour.{IsTourOf}
use Rattle.ir_plan.specs.declared.TheConstants.{MOST_TOUR_NODES}

-- the tour of the network from the root; none, where there are too many nodes
abbrev pub IsSoughtTour : Topology → ℕ → Option (Vec ℕ) → Type 0
IsSoughtTour network root None = MOST_TOUR_NODES < node_count network
IsSoughtTour network root (Some tour) = (node_count network ≤ MOST_TOUR_NODES) × IsTourOf network root tour.items

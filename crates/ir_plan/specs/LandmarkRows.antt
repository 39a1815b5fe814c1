-- What the rows of a landmark plan are.
use Rattle.std.specs.Prelude.{ℕ, List}
use Rattle.ir_model.specs.declared.Detour.{Detour}
use Rattle.ir_model.specs.Topology.{node_count}
use Rattle.ir_model.specs.Interval.{PortInterval}
use Rattle.ir_model.specs.Choices.{FitsChoices, IsFewestOfChoices}
use Rattle.ir_model.specs.Within.{MayLead}
use Rattle.ir_model.specs.Landmark.{AreMostLinked, IsLandmarkBound}
use Rattle.ir_model.specs.Plan.{Plan, label_in}

-- the intervals give each label but that of u a port that leads to its node within the bound by the plan's landmarks
abbrev pub FitsWithin : Detour → Plan → ℕ → List PortInterval → Type 0
FitsWithin t plan u set =
    (landmarks : List ℕ) × AreMostLinked plan.topology plan.root t.landmarks landmarks
    × FitsChoices (node_count plan.topology) (label_in plan u) (MayLead plan.topology (IsLandmarkBound plan.topology landmarks t.stretch) plan.order (label_in plan u)) set

-- no set of intervals that gives each label but that of u such a port has fewer members
abbrev pub IsFewestWithin : Detour → Plan → ℕ → ℕ → Type 0
IsFewestWithin t plan u count =
    (landmarks : List ℕ) × AreMostLinked plan.topology plan.root t.landmarks landmarks
    × IsFewestOfChoices (node_count plan.topology) (label_in plan u) (MayLead plan.topology (IsLandmarkBound plan.topology landmarks t.stretch) plan.order (label_in plan u)) count

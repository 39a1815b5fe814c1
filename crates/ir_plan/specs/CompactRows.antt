-- The marks of the tied ports that the rows of a compact plan are chosen from, and what the rows are.
use Rattle.std.specs.Prelude.{◌≡◌, ◌↔◌, ℕ, ◌<◌, Bool, true, false, Contains, List, length, slice_index, slice_index_or}
use Rattle.ir_model.specs.Topology.{Topology, node_count}
use Rattle.ir_model.specs.Interval.{PortInterval}
use Rattle.ir_model.specs.Choices.{FitsChoices, IsFewestOfChoices}
use Rattle.ir_model.specs.Plan.{Plan, label_in}
use Rattle.ir_model.specs.Compact.{IsTied}
use Rattle.ir_model.specs.Table.{LeadsNearer}
use Rattle.ir_model.proofs.Steps.{AreLongest}

-- the intervals give each label but that of u a port that leads nearer to its node
abbrev pub FitsTied : Plan → ℕ → List PortInterval → Type 0
FitsTied plan u set = FitsChoices (node_count plan.topology) (label_in plan u) (IsTied plan.topology plan.order (label_in plan u)) set

-- no set of intervals that gives each label but that of u a port that leads nearer has fewer members
abbrev pub IsFewestOfTied : Plan → ℕ → ℕ → Type 0
IsFewestOfTied plan u count = IsFewestOfChoices (node_count plan.topology) (label_in plan u) (IsTied plan.topology plan.order (label_in plan u)) count

-- the marks of the port p of u, by label: where it leads nearer
pub record AreTiedMarks (topology : Topology) (order : List ℕ) (u p : ℕ) (row : List Bool) : Type 0 where
  pub every : length row ≡ node_count topology
  pub marks : (d : ℕ) → d < node_count topology → (slice_index_or row d false ≡ true) ↔ LeadsNearer topology u (slice_index order d) p

-- the marks of some nodes, by label
pub record AreMarksOf (n : ℕ) (order nodes : List ℕ) (row : List Bool) : Type 0 where
  pub every : length row ≡ n
  pub marks : (d : ℕ) → d < n → (slice_index_or row d false ≡ true) ↔ Contains nodes (slice_index order d)

-- the label d is that of a node, and the port p of the node with the label a leads nearer to it
abbrev pub MayTake : Topology → List ℕ → ℕ → ℕ → ℕ → Type 0
MayTake topology order a d p = (d < node_count topology) × IsTied topology order a d p

-- for each label the longest run of one port from it on, at the node with the label a, and the least such port
abbrev pub AreLongestRuns : Topology → List ℕ → ℕ → List ℕ → List ℕ → Type 0
AreLongestRuns topology order a counts ports = AreLongest (node_count topology) a (MayTake topology order a) counts ports

-- The row of one node, and the ports that it was compiled from.
use Rattle.std.specs.Prelude.{◌≡◌, ◌≢◌, ℕ, ◌+◌, ◌-◌, ◌<◌, min, Option, Some, None, List, [], length, slice_index, slice_index_or}
use Rattle.ir_model.specs.declared.Kind.{Kind}
use Rattle.ir_model.specs.declared.Kind.TheVariants.{Tree, Shortest, Compact, Landmark}
use Rattle.ir_model.specs.Topology.{Topology, node_count}
use Rattle.ir_model.specs.Table.{IsShortestPort}
use Rattle.ir_model.specs.Row.{Start}
use Rattle.ir_model.specs.Compiled.{port_to, IsDestinations, IsCanonical}
use Rattle.ir_model.specs.Choices.{AreChoices, AreChosen}
use Rattle.ir_model.specs.Compact.{IsTied}
use Rattle.ir_model.specs.Within.{MayLead}
use Rattle.ir_model.specs.Landmark.{AreMostLinked, IsLandmarkBound}
use Rattle.ir_numbering.specs.Numbering.{Numbering}
use Rattle.ir_numbering.specs.Cells.{AreTreeCells}

-- the least ports that lead nearer, by label, of the node with the label a
pub record AreShortestPorts (topology : Topology) (order : List ℕ) (a : ℕ) (ports : List (Option ℕ)) : Type 0 where
  pub every : length ports ≡ node_count topology
  pub own : port_to ports a ≡ None
  pub port : (d : ℕ) → d < node_count topology → d ≢ a → (p : ℕ) × (port_to ports d ≡ Some p) × IsShortestPort topology (slice_index order a) (slice_index order d) p

-- the ports, by label, of the node with the label a in the full table of a kind
abbrev pub ArePortsOf : Kind → Topology → List ℕ → List ℕ → ℕ → List (Option ℕ) → Type 0
ArePortsOf Tree topology order parents a ports = AreTreeCells topology order parents a (node_count topology) ports
ArePortsOf Shortest topology order parents a ports = AreShortestPorts topology order a ports
ArePortsOf Compact topology order parents a ports = AreChoices (node_count topology) a (IsTied topology order a) × AreChosen (node_count topology) a (IsTied topology order a) ports
ArePortsOf (Landmark t) topology order parents a ports =
    (landmarks : List ℕ) × AreMostLinked topology (slice_index order 0) t.landmarks landmarks
    × AreChoices (node_count topology) a (MayLead topology (IsLandmarkBound topology landmarks t.stretch) order a)
    × AreChosen (node_count topology) a (MayLead topology (IsLandmarkBound topology landmarks t.stretch) order a) ports

-- the canonical row of these ports
pub record IsNodeRow (kind : Kind) (topology : Topology) (order parents : List ℕ) (a : ℕ) (row : List Start) : Type 0 where
  pub ports : List (Option ℕ)
  pub ports_of_kind : ArePortsOf kind topology order parents a ports
  pub destinations : IsDestinations (node_count topology) a ports
  pub canonical : IsCanonical (node_count topology) a ports row

-- the rows of the first nodes
pub record AreNodeRows (kind : Kind) (topology : Topology) (order parents labels : List ℕ) (count : ℕ) (rows : List (List Start)) : Type 0 where
  pub every : length rows ≡ count
  pub each : (u : ℕ) → u < count → IsNodeRow kind topology order parents (slice_index labels u) (slice_index_or rows u [])

-- the rows of nodes from one on, at most so many
pub record AreRowsFrom (kind : Kind) (topology : Topology) (order parents labels : List ℕ) (first most : ℕ) (rows : List (List Start)) : Type 0 where
  pub every : length rows ≡ min most (node_count topology - first)
  pub each : (k : ℕ) → k < length rows → IsNodeRow kind topology order parents (slice_index labels (first + k)) (slice_index_or rows k [])

-- the rows of all nodes in the shortest table
abbrev pub AreShortestRows : Topology → Numbering → List (List Start) → Type 0
AreShortestRows topology numbers rows =
    AreNodeRows Shortest topology numbers.order numbers.parents numbers.labels (node_count topology) rows

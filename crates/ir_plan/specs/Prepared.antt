-- What is prepared for the rows of a kind, once for all of them.
use Rattle.std.specs.Prelude.{◌≡◌, ℕ, ◌<◌, List, Option, IfSome, slice_index}
use Rattle.ir_model.specs.declared.Kind.{Kind}
use Rattle.ir_model.specs.declared.Kind.TheVariants.{Tree, Landmark}
use Rattle.ir_model.specs.Topology.{Topology, node_count}
use Rattle.ir_model.specs.Walk.{IsConnected}
use Rattle.ir_model.specs.Plan.{AreLabels}
use Rattle.ir_numbering.specs.Numbering.{Numbering, IsNumberingOf}
use Rattle.ir_bounds.specs.Detours.{AreDetourBounds}
use Rattle.ir_bounds.specs.declared.detours.LandmarkBounds.{LandmarkBounds}
use Rattle.ir_plan.specs.Ties.{AreTies}
use Rattle.ir_plan.specs.declared.prepared.Prepared.{Prepared}

-- the bounds are those by the landmarks that the kind's detour chooses with this root
abbrev pub AreBoundsFor : Kind → Topology → ℕ → Option LandmarkBounds → Type 0
AreBoundsFor (Landmark t) topology root bounds = IfSome bounds (AreDetourBounds topology root t)
AreBoundsFor kind topology root bounds = Unit {0}

-- what is prepared is of the network and the labels
pub record ArePrepared (kind : Kind) (topology : Topology) (order : List ℕ) (prepared : Prepared) : Type 0 where
  pub ties : IfSome prepared.ties (AreTies topology order)
  pub bounds : AreBoundsFor kind topology (slice_index order 0) prepared.bounds

-- The node u of a connected network can have its row made: the numbers are labels, and depth first for a tree, and what is
-- prepared is of the network and the labels.
abbrev pub MayHaveRow : Kind → Topology → Numbering → Prepared → ℕ → Type 0
MayHaveRow kind topology numbers prepared u =
    (u < node_count topology) × AreLabels (node_count topology) numbers.order numbers.labels
    × (kind ≡ Tree → IsNumberingOf topology numbers) × ArePrepared kind topology numbers.order prepared × IsConnected topology

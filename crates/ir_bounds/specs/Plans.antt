-- The labels of a landmark plan.
use Rattle.std.specs.Prelude.{ℕ, List}
use Rattle.ir_model.specs.Topology.{Topology}
use Rattle.ir_model.specs.Landmark.{AreMostLinked, AreBlocks}

-- The labels of a landmark plan from a root, with so many landmarks: the blocks of the chosen landmarks.
pub record AreBlockLabels (net : Topology) (root count : ℕ) (order : List ℕ) : Type 0 where
  pub landmarks : List ℕ
  pub chosen : AreMostLinked net root count landmarks
  pub blocks : AreBlocks net landmarks order

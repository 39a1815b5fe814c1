-- The ties of a network: which ports lead nearer to the nodes of which labels.
use Rattle.std.specs.Prelude.{◌≡◌, ◌≢◌, ℕ, List, []}
use Rattle.ir_model.specs.Topology.{Topology}
use Rattle.ir_lanes.specs.Marks.{AreBatchWords, ArePortMarks}
use Rattle.ir_plan.specs.declared.ties.Ties.{Ties}

-- the order is that of the labels, and the marks are those of all ports for it
pub record AreTies (topology : Topology) (order : List ℕ) (ties : Ties) : Type 0 where
  pub same : ties.order.items ≡ order
  pub marks : ArePortMarks topology order ties.marks

-- the words of all ports for a batch of nodes of a list, or none
abbrev pub MayBeWords : Topology → List ℕ → ℕ → List ℕ → Type 0
MayBeWords topology order batch words = words ≢ [] → AreBatchWords topology order batch words

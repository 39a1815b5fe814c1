-- What finish makes of the parts of a net.
use Rattle.std.specs.Prelude.{◌≡◌, ℕ, ◌+◌, ◌<◌, List, None, Vec, length, sum_by, slice_index_or}
use Rattle.std.specs.Global.{Global}
use Rattle.ir_model.specs.Topology.{node_count}
use Rattle.ir_worker.specs.declared.node.Node.{Node}
use Rattle.ir_worker.specs.declared.parcel.Outcome.{Outcome}
use Rattle.ir_worker.specs.Seen.{Parcel}
use Rattle.ir_worker.specs.Wires.{Out}
use Rattle.ir_control.specs.declared.net.Net.{Net}
use Rattle.ir_control.specs.declared.leaving.PartRows.{PartRows}
use Rattle.ir_control.specs.Parts.{node_number}
use Rattle.ir_control.specs.Rowed.{AreEmptyRows, node_settled, node_taken, node_sent}
use Rattle.ir_control.specs.Slots.{hit}
use Rattle.ir_control.specs.Told.{weight_settled}

-- empty rows that have room for the parts of a net of so many nodes and ways
pub record AreEmptyPartRows (n ways : ℕ) (rows : PartRows) : Type 0 where
  pub slots_count : length rows.slots.items ≡ n
  pub slots_empty : (k : ℕ) → slice_index_or rows.slots.items k None ≡ None
  pub ends : AreEmptyRows n ways rows.ends

-- every node of the net is there
abbrev pub AreAllThere : Net → List Node → Type 0
AreAllThere net nodes = (u : ℕ) → u < node_count net.topology → 0 < sum_by (hit node_number u) nodes

-- What was settled is what the nodes settled; and what was sent is what was taken and what is left, each parcel as often.
pub record IsGathered (nodes : List Node) (injected : List Out) (settled : List (Vec Outcome Global)) (left : List Parcel) : Type 0 where
  pub settlings : (w : Outcome → ℕ) → weight_settled w settled ≡ sum_by (node_settled w) nodes
  pub leavings : (w : Parcel → ℕ) → sum_by (λ s. sum_by w s.sent) injected + sum_by (node_sent w) nodes ≡ sum_by (node_taken w) nodes + sum_by w left

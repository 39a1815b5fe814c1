use Rattle.std.specs.Prelude.{◌≡◌, ℕ, Some, All, slice_get, vec_len, vec_capacity}
use Rattle.ir_epochs.specs.Handles.{known}
use Rattle.ir_epochs.specs.declared.handles.BoardReader.{BoardReader}
use Rattle.ir_control.specs.Fresh.{AreFreshOuts, AreFreshIns}
use Rattle.ir_control.specs.Parts.{opening_entries, AreFirstNodes, IsFreshNode, ReadsAsOneOf}
use Rattle.ir_control.proofs.net.Net.nodes_with.Given as goal

pub record IsBuilding (Inboxes Readers Given Senders Takers Nodes Boards Fresh Room : Type 0) : Type 0 where
  pub inboxes : Inboxes
  pub readers : Readers
  pub given : Given
  pub senders : Senders
  pub takers : Takers
  pub nodes : Nodes
  pub boards : Boards
  pub fresh : Fresh
  pub room : Room

abbrev pub invariant-loop-u : goal.invariant-loop-u
invariant-loop-u l = IsBuilding
    (AreFreshIns l.self.inboxes.items l.inboxes.items)
    (All (λ x. known x ≡ opening_entries l.self) l.readers.items)
    (All (λ (x : BoardReader). (k : ℕ) × (slice_get l.fn.readers.items k ≡ Some x)) l.readers.items)
    (AreFreshOuts l.self.ways.items l.senders.items)
    (AreFreshIns l.self.ways.items l.takers.items)
    (AreFirstNodes l.self l.u l.nodes.items)
    (All (ReadsAsOneOf l.fn.readers.items) l.nodes.items)
    (All (IsFreshNode (opening_entries l.self)) l.nodes.items)
    (vec_capacity l.nodes ≡ vec_len l.self.inboxes)

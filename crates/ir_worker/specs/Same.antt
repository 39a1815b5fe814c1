-- Which node of which net a node is, and what a clause reads of it.
use Rattle.std.specs.Prelude.{◌≡◌, ℕ, List, [], All, Vec}
use Rattle.std.specs.Global.{Global}
use Rattle.ir_model.specs.declared.Hop.{Hop}
use Rattle.ir_epochs.specs.declared.entry.Entry.{Entry}
use Rattle.ir_epochs.specs.declared.handles.BoardReader.{BoardReader}
use Rattle.ir_epochs.specs.declared.handles.BoardWriter.{BoardWriter}
use Rattle.ir_epochs.specs.declared.handles.Receipt.{Receipt}
use Rattle.ir_epochs.specs.Handles.{known, reader_board, writer_board, receipt_board}
use Rattle.ir_worker.specs.Account.{lines_in, lines_out}
use Rattle.ir_worker.specs.Outcomes.{IsOutcomeOf, IsCauseKnown}
use Rattle.ir_worker.specs.Wires.{AreEndsOf}
use Rattle.ir_worker.specs.declared.node.Node.{Node}
use Rattle.ir_worker.specs.declared.node.Common.{Common}
use Rattle.ir_worker.specs.declared.node.Ends.{Ends}

-- its number in its net
abbrev pub number_in_net : Node → ℕ
number_in_net n = n.index

-- the entries of the newest board that it has read or learnt
abbrev pub known_to : Node → List Entry
known_to n = known n.reader

-- it reads the board that this writes, and the one of which this receipt is
abbrev pub ReadsBoardOf : {R : Type 0} → BoardWriter R → Node → Type 0
ReadsBoardOf w n = reader_board n.reader ≡ writer_board w

abbrev pub ReadsBoardOfReceipt : Receipt → Node → Type 0
ReadsBoardOfReceipt t n = receipt_board t ≡ reader_board n.reader

-- the way that it polls next
abbrev pub next_way : Node → ℕ
next_way n = n.entrances.next

-- it has this number and these ports, shares this with its net, and reads the board by this
abbrev pub IsNodeWith : ℕ → Common → Vec Hop Global → BoardReader → Node → Type 0
IsNodeWith index common ports reader n =
    (n.index ≡ index) × (n.registry ≡ common.registry) × (n.opening ≡ common.opening) × (n.restamps ≡ common.restamps) × (n.ports ≡ ports) × (n.reader ≡ reader)

-- its ends are these
abbrev pub HasNodeEnds : Ends → Node → Type 0
HasNodeEnds ends n = (n.entrances.inbox ≡ ends.inbox) × (n.entrances.ports ≡ ends.ins) × (n.outs ≡ ends.outs)

-- it takes from its inbox first, and has settled nothing
abbrev pub IsAtStart : Node → Type 0
IsAtStart n = (n.entrances.next ≡ 0) × (n.outcomes.items ≡ [])

-- taken apart it is these
abbrev pub ComesApartAs : Node → Ends → Type 0
ComesApartAs n ends = (ends.inbox ≡ n.entrances.inbox) × (ends.ins ≡ n.entrances.ports) × (ends.outs ≡ n.outs) × (ends.outcomes ≡ n.outcomes)

-- these are ends of the channels of its place in its net
abbrev pub AreEndsOfNode : Node → Ends → Type 0
AreEndsOfNode n ends = AreEndsOf n.opening n.restamps n.index n.ports.items ends.inbox ends.ins.items ends.outs.items

-- these outcomes are of its net, and their causes held on boards that it knows
abbrev pub AreOutcomesOfNode : Node → Ends → Type 0
AreOutcomesOfNode n ends = ∥ All (IsOutcomeOf n.opening n.restamps) ends.outcomes.items ∥₁

abbrev pub AreCausesKnownTo : Node → Ends → Type 0
AreCausesKnownTo n ends = ∥ All (IsCauseKnown (known n.reader)) ends.outcomes.items ∥₁

-- The same node of the same net: its ends are of the channels that they were of, and it reads the same board.
pub record IsSameNode (before after : Node) : Type 0 where
  pub index : after.index ≡ before.index
  pub registry : after.registry ≡ before.registry
  pub opening : after.opening ≡ before.opening
  pub restamps : after.restamps ≡ before.restamps
  pub ports : after.ports.items ≡ before.ports.items
  pub inbox : after.entrances.inbox.channel ≡ before.entrances.inbox.channel
  pub ins : lines_in after.entrances.ports.items ≡ lines_in before.entrances.ports.items
  pub outs : lines_out after.outs.items ≡ lines_out before.outs.items
  pub reader : reader_board after.reader ≡ reader_board before.reader

-- All nodes' ends in rows, in the nodes' order, and what they weigh.
use Rattle.std.specs.Prelude.{◌≡◌, ℕ, ◌+◌, ◌<◌, ◌≤◌, List, [], ◌∷◌, ◌++◌, Option, Some, None, sum_by, length, map, slice_get, slice_index, slice_index_or, vec_len, vec_capacity}
use Rattle.ir_model.specs.Topology.{node_count}
use Rattle.ir_worker.specs.declared.node.Node.{Node}
use Rattle.ir_worker.specs.declared.parcel.Outcome.{Outcome}
use Rattle.ir_worker.specs.Seen.{Parcel}
use Rattle.ir_control.specs.declared.leaving.EndRows.{EndRows}
use Rattle.ir_control.specs.declared.net.Net.{Net}
use Rattle.ir_control.specs.Places.{offset}
use Rattle.ir_control.specs.Pairs.{slot_line}
use Rattle.ir_control.specs.Parts.{IsNodeOf}
use Rattle.ir_control.specs.Slots.{slot_weight, times_in_slots, weight_taken}
use Rattle.ir_control.specs.Told.{weight_settled}

-- each element is such at its place
abbrev pub AllGet : {X : Type 0} → (ℕ → X → Type 0) → List X → Type 0
AllGet {X} Q xs = (k : ℕ) (x : X) → slice_get xs k ≡ Some x → Q k x

-- what a node settled, took and sent
abbrev pub node_settled : (Outcome → ℕ) → Node → ℕ
node_settled w n = sum_by w n.outcomes.items

abbrev pub node_taken : (Parcel → ℕ) → Node → ℕ
node_taken w n = sum_by w n.entrances.inbox.taken + weight_taken w n.entrances.ports.items

abbrev pub node_sent : (Parcel → ℕ) → Node → ℕ
node_sent w n = sum_by (λ s. sum_by w s.sent) n.outs.items

-- empty rows that have room for the ends of so many nodes and ways
pub record AreEmptyRows (n ways : ℕ) (rows : EndRows) : Type 0 where
  pub inboxes : (rows.inboxes.items ≡ []) × (n ≤ vec_capacity rows.inboxes)
  pub takers : (rows.takers.items ≡ []) × (ways ≤ vec_capacity rows.takers)
  pub senders : (rows.senders.items ≡ []) × (ways ≤ vec_capacity rows.senders)
  pub settled : (rows.settled.items ≡ []) × (n ≤ vec_capacity rows.settled)

-- rows that have room for the ends of a node
pub record HaveRoomFor (rows : EndRows) (n : Node) : Type 0 where
  pub inboxes : vec_len rows.inboxes < vec_capacity rows.inboxes
  pub takers : vec_len rows.takers + length n.entrances.ports.items ≤ vec_capacity rows.takers
  pub senders : vec_len rows.senders + length n.outs.items ≤ vec_capacity rows.senders
  pub settled : vec_len rows.settled < vec_capacity rows.settled

-- no row has less room than before
pub record KeepRoom (before after : EndRows) : Type 0 where
  pub inboxes : vec_capacity before.inboxes ≤ vec_capacity after.inboxes
  pub takers : vec_capacity before.takers ≤ vec_capacity after.takers
  pub senders : vec_capacity before.senders ≤ vec_capacity after.senders
  pub settled : vec_capacity before.settled ≤ vec_capacity after.settled

-- the ends of a node come after what was in the rows, each sender in a slot of its own
pub record AppendsEnds (before : EndRows) (n : Node) (after : EndRows) : Type 0 where
  pub inboxes : after.inboxes.items ≡ before.inboxes.items ++ n.entrances.inbox ∷ []
  pub takers : after.takers.items ≡ before.takers.items ++ n.entrances.ports.items
  pub senders : after.senders.items ≡ before.senders.items ++ map (λ s. Some s) n.outs.items
  pub settled : after.settled.items ≡ before.settled.items ++ n.outcomes ∷ []
  pub room : KeepRoom before after

-- what was taken at the ends in the rows
abbrev pub rows_taken : (Parcel → ℕ) → EndRows → ℕ
rows_taken w rows = weight_taken w rows.inboxes.items + weight_taken w rows.takers.items

-- The ends of the first u nodes of a net, each of the channel of its place.
pub record AreEndRows (net : Net) (u : ℕ) (rows : EndRows) : Type 0 where
  pub inbox_count : length rows.inboxes.items ≡ u
  pub inbox_lines : AllGet (λ k t. slice_get net.inboxes.items k ≡ Some t.channel) rows.inboxes.items
  pub in_count : length rows.takers.items ≡ offset net.topology u
  pub in_lines : AllGet (λ k t. slice_get net.ways.items (slice_index net.peers.items k) ≡ Some t.channel) rows.takers.items
  pub out_count : length rows.senders.items ≡ offset net.topology u
  pub out_lines : AllGet (λ k slot. slice_get net.ways.items k ≡ slot_line slot) rows.senders.items

-- the slots from u on have the nodes of a net by their numbers, and those before u are empty
pub record AreSlotsFrom (net : Net) (u : ℕ) (slots : List (Option Node)) : Type 0 where
  pub count : length slots ≡ node_count net.topology
  pub emptied : (k : ℕ) → k < u → slice_index_or slots k None ≡ None
  pub full : (k : ℕ) → u ≤ k → k < node_count net.topology → (n : Node) × (slice_index_or slots k None ≡ Some n) × (n.index ≡ k) × IsNodeOf net n

-- what is in the rows and what is in the slots was all in the slots
pub record AreWeighed (all slots : List (Option Node)) (rows : EndRows) : Type 0 where
  pub settlings : (w : Outcome → ℕ) → weight_settled w rows.settled.items + sum_by (slot_weight (node_settled w)) slots ≡ sum_by (slot_weight (node_settled w)) all
  pub takings : (w : Parcel → ℕ) → rows_taken w rows + sum_by (slot_weight (node_taken w)) slots ≡ sum_by (slot_weight (node_taken w)) all
  pub sendings : (w : Parcel → ℕ) → times_in_slots w rows.senders.items + sum_by (slot_weight (node_sent w)) slots ≡ sum_by (slot_weight (node_sent w)) all

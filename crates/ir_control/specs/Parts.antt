-- Which parts are of which net.
use Rattle.std.specs.Prelude.{◌≡◌, ℕ, ◌+◌, ◌<◌, ◌≤◌, List, [], ◌∷◌, All, Some, length, slice_get, slice_index, sum_by}
use Rattle.std.specs.Arc.{arc_value}
use Rattle.ir_model.specs.Topology.{node_count, ports_of}
use Rattle.ir_links.specs.Ends.{Sender, Taker}
use Rattle.ir_epochs.specs.Handles.{published, known, writer_board, reader_board}
use Rattle.ir_worker.specs.declared.node.Node.{Node}
use Rattle.ir_worker.specs.declared.parcel.Place.{Place}
use Rattle.ir_worker.specs.Seen.{Parcel}
use Rattle.ir_worker.specs.Account.{lines_out}
use Rattle.ir_epochs.specs.declared.entry.Entry.{Entry}
use Rattle.ir_epochs.specs.declared.handles.BoardReader.{BoardReader}
use Rattle.ir_epochs.specs.declared.entry.Entry.TheVariants.{Opened}
use Rattle.ir_control.specs.Places.{offset}
use Rattle.ir_control.specs.Slots.{hit}
use Rattle.ir_control.specs.declared.net.Net.{Net}
use Rattle.ir_control.specs.declared.injector.Injector.{Injector}
use Rattle.ir_control.specs.declared.controller.Controller.{Controller}

-- A node of a net, which allows as many restamps as the net. Its inbox is that of its number, its ways out are those of
-- its ports' places, and its ways in those of their peers.
pub record IsNodeOf (net : Net) (n : Node) : Type 0 where
  pub index_in : n.index < node_count net.topology
  pub opening : n.opening ≡ net.opening
  pub restamps : n.restamps ≡ net.restamps
  pub inbox : slice_get net.inboxes.items n.index ≡ Some n.entrances.inbox.channel
  pub outs_count : length n.outs.items ≡ length (ports_of net.topology n.index)
  pub outs : (p : ℕ) (s : Sender Place Parcel) → slice_get n.outs.items p ≡ Some s → slice_get net.ways.items (offset net.topology n.index + p) ≡ Some s.channel
  pub ins_count : length n.entrances.ports.items ≡ length (ports_of net.topology n.index)
  pub ins : (p : ℕ) (t : Taker Place Parcel) → slice_get n.entrances.ports.items p ≡ Some t
      → slice_get net.ways.items (slice_index net.peers.items (offset net.topology n.index + p)) ≡ Some t.channel

-- the injector of a net: its ends are those of the inboxes, in the nodes' order
pub record IsInjectorOf (net : Net) (injector : Injector) : Type 0 where
  pub opening : injector.opening ≡ net.opening
  pub ends : lines_out injector.outs.items ≡ net.inboxes.items
  pub most : injector.max_packets ≡ net.max_packets

abbrev pub node_number : Node → ℕ
node_number n = n.index

-- Nodes of a net, no two of one number.
pub record AreNodesOf (net : Net) (nodes : List Node) : Type 0 where
  pub each : All (IsNodeOf net) nodes
  pub apart : (i : ℕ) → sum_by (hit node_number i) nodes ≤ 1

-- so many nodes of a net, each at the place of its number
pub record AreFirstNodes (net : Net) (count : ℕ) (nodes : List Node) : Type 0 where
  pub count_is : length nodes ≡ count
  pub each : (u : ℕ) (n : Node) → slice_get nodes u ≡ Some n → IsNodeOf net n × (n.index ≡ u)

-- the entries of a net's board as it is opened
abbrev pub opening_entries : Net → List Entry
opening_entries net = Opened (length net.topology.links) net.opening ∷ []

-- the node reads the board of one of these readers
abbrev pub ReadsAsOneOf : List BoardReader → Node → Type 0
ReadsAsOneOf readers n = (k : ℕ) × (x : BoardReader) × (slice_get readers k ≡ Some x) × (reader_board n.reader ≡ reader_board x)

-- A node as it is handed out: it has taken, sent and settled nothing, takes from its inbox first, and has read these entries of the board.
pub record IsFreshNode (entries : List Entry) (n : Node) : Type 0 where
  pub inbox_untaken : n.entrances.inbox.taken ≡ []
  pub untaken : All (λ t. t.taken ≡ []) n.entrances.ports.items
  pub unsent : All (λ s. s.sent ≡ []) n.outs.items
  pub unsettled : n.outcomes.items ≡ []
  pub inbox_first : n.entrances.next ≡ 0
  pub has_read : known n.reader ≡ entries

-- The parts of a net as they are handed out: nothing was injected, the board is the opening one, and each node has read it.
pub record AreFreshParts {R : Type 0} (net : Net) (nodes : List Node) (injector : Injector) (controller : Controller R) : Type 0 where
  pub nodes_are : AreFirstNodes net (node_count net.topology) nodes
  pub boards : All (λ n. reader_board n.reader ≡ writer_board controller.writer) nodes
  pub fresh_nodes : All (IsFreshNode (opening_entries net)) nodes
  pub injector_of : IsInjectorOf net injector
  pub nothing : injector.accepted.items ≡ []
  pub unsent : All (λ s. s.sent ≡ []) injector.outs.items
  pub learnt : injector.newest ≡ net.opening
  pub controller_opening : controller.opening ≡ net.opening
  pub controller_labels : controller.labels ≡ net.labels
  pub controller_keeps : controller.keeps ≡ net.keeps
  pub controller_registry : arc_value controller.registry ≡ arc_value net.registry
  pub used : controller.used ≡ 1
  pub board : published controller.writer ≡ opening_entries net

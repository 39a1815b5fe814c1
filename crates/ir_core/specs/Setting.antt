-- What a world was opened with, and the numbers of its channels.
use Rattle.std.specs.Prelude.{◌≡◌, ℕ, Bool, ◌+◌, ◌*◌, ◌<◌, ◌≤◌, [], length, slice_get, Option, Some, None, unwrap_or, if◌then◌else◌, ◌==◌}
use Rattle.ir_model.specs.declared.Link.{Link as Edge}
use Rattle.ir_model.specs.declared.Hop.{Hop}
use Rattle.ir_model.specs.declared.Kind.TheVariants.{Tree}
use Rattle.ir_model.specs.Topology.{Topology, node_count, port_at, IsTopology}
use Rattle.ir_model.specs.Plan.{Plan, IsPlan}
use Rattle.ir_plan.specs.declared.tour.LabelOrder.{LabelOrder}
use Rattle.ir_core.specs.declared.TheConstants.{MAX_NODES, MAX_LINKS, MAX_CAPACITY, MAX_PACKETS, MAX_RESTAMPS}
use Rattle.ir_core.specs.declared.event.Way.{Way}
use Rattle.ir_core.specs.declared.event.Way.TheVariants.{Inbox, Link}

-- A network, the order in which its plans are labelled, whether an install keeps that of the epoch before, the plan of
-- its first epoch, the capacity of each channel, the most packets, and the most restamps of a packet.
pub record Setting : Type 0 where
  pub topology : Topology
  pub labels : LabelOrder
  pub keeps : Bool
  pub first : Plan
  pub capacity : ℕ
  pub max_packets : ℕ
  pub restamps : ℕ

-- the plan that is where there is none
abbrev pub no_plan : Plan
no_plan = record { kind = Tree; root = 0; topology = record { links = []; ports = [] }; order = []; labels = []; table = []; rows = [] }

-- how many nodes and links there are
abbrev pub nodes_of : Setting → ℕ
nodes_of setting = node_count setting.topology

abbrev pub links_of : Setting → ℕ
links_of setting = length setting.topology.links

-- the channel of a link into one of its ends, of the two that begin at this number
abbrev pub channel_into : ℕ → ℕ → Option Edge → Option ℕ
channel_into first u None = None
channel_into first u (Some link) =
    if link.low == u then Some first else if link.high == u then Some (first + 1) else None

-- The number of the channel that a node takes from by this way, if there is one. The inboxes by node come first, then
-- for each link the channel into its first end and the channel into its second.
abbrev pub channel_in : Topology → ℕ → Way → Option ℕ
channel_in topology u Inbox = Some u
channel_in topology u (Link l) = channel_into (node_count topology + 2 * l) u (slice_get topology.links l)

abbrev pub channel_of : Setting → ℕ → Way → Option ℕ
channel_of setting u way = channel_in setting.topology u way

abbrev pub into : Setting → ℕ → Way → ℕ
into setting u way = unwrap_or (channel_of setting u way) 0

-- a plan over the nodes and numbered links of the network, and some of its ports
pub record IsPlanFor (setting : Setting) (s : Plan) : Type 0 where
  pub plan : IsPlan s
  pub nodes : node_count s.topology ≡ nodes_of setting
  pub links : s.topology.links ≡ setting.topology.links
  pub ports : (u p : ℕ) (hop : Hop) → port_at s.topology u p ≡ Some hop → (q : ℕ) × (port_at setting.topology u q ≡ Some hop)

-- What is true of every world's setting.
pub record IsSetting (setting : Setting) : Type 0 where
  pub some_nodes : 0 < nodes_of setting
  pub few_nodes : nodes_of setting ≤ MAX_NODES
  pub few_links : links_of setting ≤ MAX_LINKS
  pub some_capacity : 0 < setting.capacity
  pub capacity : setting.capacity ≤ MAX_CAPACITY
  pub some_packets : 0 < setting.max_packets
  pub max_packets : setting.max_packets ≤ MAX_PACKETS
  pub restamps : setting.restamps ≤ MAX_RESTAMPS
  pub topology : IsTopology setting.topology
  pub first : IsPlanFor setting setting.first

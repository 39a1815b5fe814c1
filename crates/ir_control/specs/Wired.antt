-- The channels of a net: an inbox for each node, and for each port a way out of it.
use Rattle.std.specs.Prelude.{◌≡◌, ℕ, ◌+◌, ◌<◌, ◌≤◌, Some, List, length, slice_get, slice_index}
use Rattle.ir_model.specs.declared.Hop.{Hop}
use Rattle.ir_model.specs.Topology.{Topology, node_count, port_at}
use Rattle.ir_core.specs.declared.TheConstants.{MAX_NODES, MAX_LINKS}
use Rattle.ir_epochs.specs.declared.registry.Stamp.{Stamp}
use Rattle.ir_epochs.specs.declared.registry.Registry.{Registry}
use Rattle.ir_epochs.specs.Stamps.{IsOf, knows}
use Rattle.ir_links.specs.Ends.{Channel}
use Rattle.ir_worker.specs.declared.parcel.Place.{Place}
use Rattle.ir_worker.specs.Seen.{net_place}
use Rattle.ir_control.specs.Places.{offset, way_count}
use Rattle.ir_control.specs.Pairs.{ArePeers}

-- a channel of the net of the opening's stamp, from one node to another, of this capacity
pub record IsNetChannel (opening : Stamp) (restamps capacity from to : ℕ) (channel : Channel Place) : Type 0 where
  pub place : channel.place ≡ net_place opening restamps from to
  pub holds : channel.capacity ≡ capacity

-- the inbox of each node leads from it to itself
pub record AreInboxes (net : Topology) (opening : Stamp) (restamps capacity : ℕ) (inboxes : List (Channel Place)) : Type 0 where
  pub count : length inboxes ≡ node_count net
  pub each : (u : ℕ) (channel : Channel Place) → slice_get inboxes u ≡ Some channel → IsNetChannel opening restamps capacity u u channel

-- The ways are in the order of the ports' places, and each port's way out is at the other end a way in, which the
-- peers name.
pub record AreWiredWays (net : Topology) (opening : Stamp) (restamps capacity : ℕ) (ways : List (Channel Place)) (peers : List ℕ) : Type 0 where
  pub count : length ways ≡ way_count net
  pub peer_count : length peers ≡ way_count net
  pub peers_are : ArePeers peers
  pub out : (u p : ℕ) (hop : Hop) (channel : Channel Place) → port_at net u p ≡ Some hop → slice_get ways (offset net u + p) ≡ Some channel
      → IsNetChannel opening restamps capacity u hop.node channel
  pub in_by : (u p : ℕ) (hop : Hop) (channel : Channel Place) → port_at net u p ≡ Some hop → slice_get ways (slice_index peers (offset net u + p)) ≡ Some channel
      → IsNetChannel opening restamps capacity hop.node u channel

-- a stamp of epoch 1 of the registry, whose plan is over this network, which is within the limits
pub record IsOpening (registry : Registry) (net : Topology) (stamp : Stamp) : Type 0 where
  pub epoch : stamp.epoch ≡ 1
  pub registry_is : IsOf registry stamp
  pub topology : (knows stamp).topology ≡ net
  pub some_nodes : 0 < node_count net
  pub few_nodes : node_count net ≤ MAX_NODES
  pub few_links : length net.links ≤ MAX_LINKS

-- the place of each node's first port
pub record AreOffsets (net : Topology) (offsets : List ℕ) : Type 0 where
  pub count : length offsets ≡ node_count net
  pub each : (u : ℕ) → u < node_count net → slice_index offsets u ≡ offset net u

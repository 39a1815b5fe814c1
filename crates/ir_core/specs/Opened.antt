-- How a world is opened.
use Rattle.std.specs.Prelude.{◌≡◌, ℕ, Bool, false, not, ◌&&◌, nat_le, length, Option, Some, None, ◌⊎◌, if◌then◌else◌, ◌==◌}
use Rattle.ir_model.specs.Topology.{Topology, node_count}
use Rattle.ir_model.specs.Walk.{IsDisconnected}
use Rattle.ir_model.specs.Plan.{Plan}
use Rattle.ir_model.specs.declared.Kind.{Kind}
use Rattle.ir_plan.specs.declared.tour.LabelOrder.TheVariants.{DepthFirst}
use Rattle.ir_plan.specs.Building.{FromRoot}
use Rattle.ir_core.specs.declared.TheConstants.{MAX_NODES, MAX_LINKS, MAX_CAPACITY, MAX_PACKETS, MAX_RESTAMPS}
use Rattle.ir_core.specs.declared.opening.Opening.{Opening}
use Rattle.ir_core.specs.declared.event.OpenError.{OpenError}
use Rattle.ir_core.specs.declared.event.OpenError.TheVariants.{NoNode, Empty, Disconnected, TooLarge, NoMemory}
use Rattle.ir_core.specs.Setting.{Setting}
use Rattle.ir_core.specs.Meaning.{IsMade}

-- the opening by these, whose plans are labelled depth first
abbrev pub opening_of : Topology → Kind → (root capacity max_packets restamps : ℕ) → Opening
opening_of topology kind root capacity max_packets restamps = record {
  topology = topology;
  labels = DepthFirst;
  keeps = false;
  kind = kind;
  root = root;
  capacity = capacity;
  max_packets = max_packets;
  restamps = restamps;
}

-- a number from 1 to this greatest one
abbrev pub is_within : ℕ → ℕ → Bool
is_within n most = not (n == 0) && nat_le n most

-- the network, the capacity, the number of packets and that of restamps are within the limits
abbrev pub is_small : Opening → Bool
is_small o =
    nat_le (node_count o.topology) MAX_NODES && nat_le (length o.topology.links) MAX_LINKS && is_within o.capacity MAX_CAPACITY
    && is_within o.max_packets MAX_PACKETS && nat_le o.restamps MAX_RESTAMPS

-- why a world is not opened, before any plan is made
abbrev pub open_refused : Opening → Option OpenError
open_refused o =
    if node_count o.topology == 0 then Some Empty
    else if nat_le (node_count o.topology) o.root then Some NoNode
    else if not (is_small o) then Some TooLarge
    else None

-- the setting of an opening, with this plan of the first epoch
abbrev pub setting_of : Opening → Plan → Setting
setting_of opening first = record {
  topology = opening.topology;
  labels = opening.labels;
  keeps = opening.keeps;
  first = first;
  capacity = opening.capacity;
  max_packets = opening.max_packets;
  restamps = opening.restamps;
}

-- A setting for this opening: its first epoch's plan is of the opening's kind and root over all links.
pub record IsOpenedWith (opening : Opening) (setting : Setting) : Type 0 where
  pub topology : setting.topology ≡ opening.topology
  pub labels : setting.labels ≡ opening.labels
  pub keeps : setting.keeps ≡ opening.keeps
  pub capacity : setting.capacity ≡ opening.capacity
  pub max_packets : setting.max_packets ≡ opening.max_packets
  pub restamps : setting.restamps ≡ opening.restamps
  pub first : IsMade (FromRoot opening.labels opening.root) opening.kind opening.topology (Some setting.first)

-- an opening is refused as this
abbrev pub IsRefusedAs : Topology → OpenError → Option OpenError → Type 0
IsRefusedAs topology error (Some e) = error ≡ e
IsRefusedAs topology error None = ((error ≡ Disconnected) × IsDisconnected topology) ⊎ (error ≡ NoMemory)

-- Why no world was opened: the first refusal, or else that the network is disconnected, or want of memory.
abbrev pub IsOpenRefusal : Opening → OpenError → Type 0
IsOpenRefusal o error = IsRefusedAs o.topology error (open_refused o)

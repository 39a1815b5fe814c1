-- How a record is seen, and the room that it keeps.
use Rattle.std.specs.Prelude.{◌<◌, ◌≤◌, length, vec_capacity}
use Rattle.ir_core.specs.declared.TheConstants.{MAX_RESTAMPS}
use Rattle.ir_core.specs.declared.event.Way.{Way}
use Rattle.ir_core.specs.declared.event.Way.TheVariants.{Inbox, Link}
use Rattle.ir_core.specs.declared.packet.Record.TheInside.{Inside}
use Rattle.ir_core.specs.Record.{Record}

abbrev pub record_of : Inside → Record
record_of r = record { id = r.id; epoch = r.epoch; source = r.source; dest = r.dest; hops = r.hops.items; restamps = r.restamps.items; fate = r.fate; room = r.room }

-- there is room for the hops that it says, and for all restamps that a packet can have
abbrev pub HasRoom : Inside → Type 0
HasRoom r = (r.room ≤ vec_capacity r.hops) × (MAX_RESTAMPS ≤ vec_capacity r.restamps)

-- a packet that was taken by a link has room for the node as a hop
abbrev pub HasRoomHere : Way → Record → Type 0
HasRoomHere Inbox r = Unit {0}
HasRoomHere (Link l) r = length r.hops < r.room

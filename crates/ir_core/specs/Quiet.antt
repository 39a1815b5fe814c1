-- What the steps of a drain leave, and how far a drain is from its end.
use Rattle.std.specs.Prelude.{◌≡◌, ◌≢◌, ℕ, zero, suc, ◌+◌, ◌-◌, ◌<◌, ◌≤◌, Bool, true, false, Option, Some, None, List, [], length, slice_get, slice_index, slice_index_or, nat_lt, if◌then◌else◌}
use Rattle.std.specs.List.{sum_by}
use Rattle.ir_model.specs.declared.Hop.{Hop}
use Rattle.ir_model.specs.Topology.{port_at}
use Rattle.ir_core.specs.declared.event.Way.{Way}
use Rattle.ir_core.specs.declared.event.Way.TheVariants.{Inbox, Link}
use Rattle.ir_core.specs.declared.packet.Held.{Held}
use Rattle.ir_core.specs.declared.packet.Fate.{Fate}
use Rattle.ir_core.specs.declared.packet.Fate.TheVariants.{Delivered, Retired, Down, Full, Left}
use Rattle.ir_core.specs.Record.{Record, present, stamp_of}
use Rattle.ir_core.specs.Meaning.{newest_of}
use Rattle.ir_core.specs.Setting.{Setting, nodes_of, channel_of}
use Rattle.ir_core.specs.Entry.{Entry, fresh}
use Rattle.ir_core.specs.World.{World, IsWorld, Place, Waits, InHand, Ended}
use Rattle.ir_core.specs.Shows.{Shows}
use Rattle.ir_core.specs.Drain.{acts_in, acts_of, IsDrained}

-- how many hops a packet has made of its walk: none where its epoch is below the floor, since it may be restamped
abbrev pub made_of : ℕ → Record → ℕ
made_of floor r = if nat_lt (stamp_of r) floor then 0 else length (present r).hops

-- how many hops a packet may still make, of n nodes, when it made this many
abbrev pub hops_left : ℕ → ℕ → Fate → ℕ
hops_left n made Left = n - made
hops_left n made Delivered = 0
hops_left n made Retired = 0
hops_left n made (Down l) = 0
hops_left n made (Full l node) = 0

abbrev pub travel : ℕ → ℕ → Record → ℕ
travel n floor r = hops_left n (made_of floor r) r.fate

-- a packet that came from an inbox has one more Act before it
abbrev pub way_load : Way → ℕ
way_load Inbox = 1
way_load (Link l) = 0

abbrev pub held_load : Option Held → ℕ
held_load None = 0
held_load (Some h) = way_load h.way

-- the packets in the inboxes of the first nodes, and in their hands from there
abbrev pub inbox_load : List (List ℕ) → List (Option Held) → ℕ → ℕ
inbox_load channels hands zero = 0
inbox_load channels hands (suc u) = inbox_load channels hands u + (length (slice_index_or channels u []) + held_load (slice_index_or hands u None))

abbrev pub floor_of : World → ℕ
floor_of s = (newest_of s.boards).floor

-- how many Acts there can still be, by nodes that read the newest board
abbrev pub weight : World → ℕ
weight s = sum_by (travel (nodes_of s.opening) (floor_of s)) s.records + inbox_load s.channels s.hands (nodes_of s.opening)

-- whether there were Acts between two histories
abbrev pub CountsActs : Bool → List Entry → List Entry → Type 0
CountsActs true log later = acts_in log < acts_in later
CountsActs false log later = acts_in later ≡ acts_in log

-- no packet moved
pub record SamePackets (s new : World) : Type 0 where
  pub hands : new.hands ≡ s.hands
  pub channels : new.channels ≡ s.channels
  pub records : new.records ≡ s.records
  pub boards : new.boards ≡ s.boards
  pub opening : new.opening ≡ s.opening

-- how many Acts a packet has before it at most, of n nodes, where it is and with this many hops
abbrev pub acts_ahead : ℕ → Place → ℕ → ℕ
acts_ahead n (Waits u Inbox) made = n
acts_ahead n (Waits u (Link l)) made = n - made
acts_ahead n (InHand u Inbox) made = n
acts_ahead n (InHand u (Link l)) made = n - made
acts_ahead n Ended made = 0

abbrev pub hops_made : ℕ → List Record → ℕ → ℕ
hops_made floor records id = made_of floor (slice_index_or records id (fresh id 0 0 0 0))

abbrev pub before : (s : World) → IsWorld s → ℕ → ℕ
before s ok id = acts_ahead (nodes_of s.opening) (ok.place id) (hops_made (floor_of s) s.records id)

-- each Act on a packet takes from what it has before it
abbrev pub TakesFromBefore : (List Entry → List Entry) → (s : World) → IsWorld s → (new : World) → Type 0
TakesFromBefore after s ok new =
    (later : IsWorld new) × ((id : ℕ) (log : List Entry) → Shows log s → acts_of id (after log) + before new later id ≤ acts_of id log + before s ok id)

-- Steps that make this of a history, with an Act among them or none.
pub record Moves (after : List Entry → List Entry) (acted : Bool) (s new : World) : Type 0 where
  pub shows : (log : List Entry) → Shows log s → Shows (after log) new
  pub counts : (log : List Entry) → Shows log s → CountsActs acted log (after log)
  pub falls : acted ≡ true → weight new < weight s
  pub stays : acted ≡ false → SamePackets s new
  pub opening : new.opening ≡ s.opening
  pub boards : new.boards ≡ s.boards
  pub few : (ok : IsWorld s) → TakesFromBefore after s ok new

abbrev pub IsHandEmpty : World → ℕ → Type 0
IsHandEmpty s u = slice_index_or s.hands u None ≡ None

-- the node's view is the newest board
abbrev pub IsUpToDate : World → ℕ → Type 0
IsUpToDate s u = slice_index s.views u ≡ length s.boards - 1

-- the channel of this way is empty
abbrev pub IsEmptyAt : World → ℕ → Way → Type 0
IsEmptyAt s u way = (c : ℕ) → channel_of s.opening u way ≡ Some c → slice_index_or s.channels c [] ≡ []

-- the channels of all ports of a node are empty
abbrev pub ArePortsEmpty : World → ℕ → Type 0
ArePortsEmpty s u = (p : ℕ) (hop : Hop) → port_at s.opening.topology u p ≡ Some hop → IsEmptyAt s u (Link hop.link)

-- a node has nothing to act on
pub record IsQuietAt (s : World) (u : ℕ) : Type 0 where
  pub hand : IsHandEmpty s u
  pub inbox : IsEmptyAt s u Inbox
  pub ports : ArePortsEmpty s u

-- no node has
abbrev pub IsQuiet : World → Type 0
IsQuiet s = (u : ℕ) → u < nodes_of s.opening → IsQuietAt s u

-- no packet is under way
abbrev pub IsNoneLeft : World → Type 0
IsNoneLeft s = (id : ℕ) (r : Record) → slice_get s.records id ≡ Some r → r.fate ≢ Left

-- the later world is that of the history after a drain
abbrev pub ShowsDrained : List Entry → Setting → World → Type 0
ShowsDrained log setting new = (later : List Entry) × IsDrained setting log later × Shows later new

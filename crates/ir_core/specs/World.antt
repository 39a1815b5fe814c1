-- The machine below the histories: a world as lists, its step, and what is true of every world.
use Rattle.std.specs.Prelude.{◌≡◌, ◌≢◌, ℕ, ◌+◌, ◌*◌, ◌<◌, ◌≤◌, max, false, Option, Some, None, List, [], ◌∷◌, ◌++◌, drop, length, reverse, slice_get, slice_index, slice_index_or, slice_set, Result, Ok, Err}
use Rattle.std.specs.List.{AllByRecursion}
use Rattle.ir_model.specs.declared.Hop.{Hop}
use Rattle.ir_model.specs.Plan.{Plan, next_hop}
use Rattle.ir_core.specs.declared.TheConstants.{MAX_EPOCHS, MAX_CHANGES}
use Rattle.ir_core.specs.declared.event.Reply.{Reply}
use Rattle.ir_core.specs.declared.event.Refused.{Refused}
use Rattle.ir_core.specs.declared.event.Way.{Way}
use Rattle.ir_core.specs.declared.event.Way.TheVariants.{Inbox, Link}
use Rattle.ir_core.specs.declared.board.Board.{Board}
use Rattle.ir_core.specs.Record.{Record, hop_room, segments, present, stamp_of}
use Rattle.ir_core.specs.declared.packet.Held.{Held}
use Rattle.ir_core.specs.declared.packet.Fate.{Fate}
use Rattle.ir_core.specs.declared.packet.Fate.TheVariants.{Delivered, Retired, Down, Full, Left}
use Rattle.ir_core.specs.declared.event.Verdict.{Verdict}
use Rattle.ir_core.specs.declared.event.Verdict.TheVariants.{CameByDown, BelowFloor, Arrives, LeavesByDown, NoRoom, GoesOn}
use Rattle.ir_core.specs.Setting.{Setting, IsSetting, IsPlanFor, nodes_of, links_of, channel_of, into}
use Rattle.ir_core.specs.Entry.{Entry, DidInject, DidLearn, DidTake, DidRead, DidAct, DidChange, DidInstall, ruled, fresh, reply_of, judged}
use Rattle.ir_core.specs.Board.{opening_board}
use Rattle.ir_core.specs.Meaning.{Sight, newest_of, plan_of, board_at}
use Rattle.ir_core.specs.Sound.{LeadsOn, last_of, AreRising, ArePlaces}

-- A world as contracts see it.
pub record World : Type 0 where
  pub opening : Setting
  pub boards : List Board
  pub plans : List Plan
  pub learnt : ℕ
  pub views : List ℕ
  pub hands : List (Option Held)
  pub channels : List (List ℕ)
  pub records : List Record

abbrev pub sight_in : World → Sight
sight_in s = record {
  injected = length s.records;
  learnt = s.learnt;
  boards = s.boards;
  plans = s.plans;
  view = λ u. slice_index s.views u;
  hand = λ u. slice_index_or s.hands u None;
  waiting = λ c. slice_index_or s.channels c [];
  packet = λ id. slice_get s.records id;
}

abbrev pub put_into : List (List ℕ) → ℕ → ℕ → List (List ℕ)
put_into channels c id = slice_set channels c (slice_index_or channels c [] ++ id ∷ [])

abbrev pub taken_from : List (List ℕ) → ℕ → List (List ℕ)
taken_from channels c = slice_set channels c (drop 1 (slice_index_or channels c []))

abbrev pub sent_on : Setting → List (List ℕ) → Verdict → ℕ → List (List ℕ)
sent_on setting channels (GoesOn h) id = put_into channels (into setting h.node (Link h.link)) id
sent_on setting channels (CameByDown l) id = channels
sent_on setting channels BelowFloor id = channels
sent_on setting channels Arrives id = channels
sent_on setting channels (LeavesByDown l) id = channels
sent_on setting channels (NoRoom h) id = channels

-- the world after one more entry
abbrev pub after : World → Entry → World
after s (DidInject id e source dest room) =
    record s { channels = put_into s.channels (into s.opening source Inbox) id; records = s.records ++ fresh id e source dest room ∷ [] }
after s (DidLearn e) = record s { learnt = max s.learnt e }
after s (DidTake u way id) =
    record s { channels = taken_from s.channels (into s.opening u way); hands = slice_set s.hands u (Some (record { id = id; way = way })) }
after s (DidRead u k) = record s { views = slice_set s.views u k }
after s (DidAct u id way restamp v) =
    record s {
      hands = slice_set s.hands u None;
      channels = sent_on s.opening s.channels v id;
      records = slice_set s.records id (ruled u way restamp v (slice_index_or s.records id (fresh id 0 0 0 0)));
    }
after s (DidChange b) = record s { boards = s.boards ++ b ∷ [] }
after s (DidInstall e t b) = record s { boards = s.boards ++ b ∷ []; plans = s.plans ++ t ∷ [] }

-- where a packet is
pub data Place : Type 0 where
  Waits : (node : ℕ) → (way : Way) → Place
  InHand : (node : ℕ) → (way : Way) → Place
  Ended : Place

-- the table leads from u in one step to v
abbrev pub StepsTo : Plan → ℕ → ℕ → ℕ → Type 0
StepsTo plan d u v = (h : Hop) × (next_hop plan u d ≡ Some h) × (h.node ≡ v)

-- a beginning of the prescribed walk
abbrev pub IsBeginning : Plan → ℕ → List ℕ → Type 0
IsBeginning plan d [] = ⊥
IsBeginning plan d (u ∷ []) = Unit {0}
IsBeginning plan d (u ∷ v ∷ rest) = (u ≢ d) × StepsTo plan d u v × IsBeginning plan d (v ∷ rest)

-- the packet is at its source, or the table led it here by this link
abbrev pub IsDue : Plan → Record → ℕ → Way → Type 0
IsDue plan r u Inbox = (r.hops ≡ u ∷ []) × (r.source ≡ u)
IsDue plan r u (Link l) = LeadsOn plan r l u

-- what an ended packet's fate says of its last hop
abbrev pub EndFits : Plan → Record → Fate → Type 0
EndFits plan r Delivered = last_of r.hops ≡ r.dest
EndFits plan r Retired = Unit {0}
EndFits plan r (Down l) = (node : ℕ) × LeadsOn plan r l node
EndFits plan r (Full l node) = LeadsOn plan r l node
EndFits plan r Left = Unit {0}

abbrev pub FitsPlace : Plan → Record → Place → Type 0
FitsPlace plan r (Waits u way) = (r.fate ≡ Left) × IsDue plan r u way
FitsPlace plan r (InHand u way) = (r.fate ≡ Left) × IsDue plan r u way
FitsPlace plan r Ended = (r.fate ≢ Left) × EndFits plan r r.fate

-- a record of one epoch follows that epoch's table from its source
pub record IsStretch (setting : Setting) (plans : List Plan) (g : Record) : Type 0 where
  pub source_in : g.source < (nodes_of setting)
  pub dest_in : g.dest < (nodes_of setting)
  pub epoch_above : 0 < g.epoch
  pub epoch_in : g.epoch ≤ length plans
  pub begins : slice_get g.hops 0 ≡ Some g.source
  pub follows : IsBeginning (plan_of setting plans g.epoch) g.dest g.hops

-- a packet that comes from an inbox has had no restamp
abbrev pub IsNew : Record → Place → Type 0
IsNew r (Waits u Inbox) = r.restamps ≡ []
IsNew r (Waits u (Link l)) = Unit {0}
IsNew r (InHand u Inbox) = r.restamps ≡ []
IsNew r (InHand u (Link l)) = Unit {0}
IsNew r Ended = Unit {0}

-- A packet's record is right: its segments follow the tables of their epochs, which rise, and each restamp is at a
-- place of its own. Its room is that of the network and of the restamps that are allowed.
pub record IsRoutedRecord (setting : Setting) (plans : List Plan) (r : Record) : Type 0 where
  pub few : length r.restamps ≤ setting.restamps
  pub places : ArePlaces (length r.hops) (reverse r.restamps)
  pub rising : AreRising (segments r)
  pub each : AllByRecursion (IsStretch setting plans) (segments r)
  pub room : r.room ≡ hop_room setting.restamps (nodes_of setting)

-- and its present segment fits the place where the packet is
pub record IsPacket (setting : Setting) (plans : List Plan) (r : Record) (place : Place) : Type 0 where
  pub routed : IsRoutedRecord setting plans r
  pub fits : FitsPlace (plan_of setting plans (stamp_of r)) (present r) place
  pub is_new : IsNew r place

-- each packet is in one place, at most once
pub record ArePlaced (setting : Setting) (plans : List Plan) (hands : List (Option Held)) (channels : List (List ℕ)) (records : List Record) (place : ℕ → Place) : Type 0 where
  pub each : (id : ℕ) (r : Record) → slice_get records id ≡ Some r → IsPacket setting plans r (place id)
  pub waiting : (c k id : ℕ) → slice_get (slice_index_or channels c []) k ≡ Some id →
      (id < length records) × ((u : ℕ) × (way : Way) × (u < (nodes_of setting)) × (place id ≡ Waits u way) × (channel_of setting u way ≡ Some c))
  pub once : (c j k id : ℕ) → slice_get (slice_index_or channels c []) j ≡ Some id → slice_get (slice_index_or channels c []) k ≡ Some id → j ≡ k
  pub stands : (id u : ℕ) (way : Way) → place id ≡ Waits u way → (c : ℕ) × (k : ℕ) × (channel_of setting u way ≡ Some c) × (slice_get (slice_index_or channels c []) k ≡ Some id)
  pub rests : (id u : ℕ) (way : Way) → place id ≡ InHand u way → slice_index_or hands u None ≡ Some (record { id = id; way = way })
  pub held : (u : ℕ) (h : Held) → slice_index_or hands u None ≡ Some h → (h.id < length records) × (place h.id ≡ InHand u h.way)

-- a board's current epoch is one that there is, and live
pub record IsBoard (epochs : ℕ) (b : Board) : Type 0 where
  pub live : b.floor ≤ b.current
  pub current : b.current ≤ epochs

-- versions count up, and the newest board speaks of the epochs that there are
pub record AreBoards (boards : List Board) (epochs : ℕ) : Type 0 where
  pub some : 0 < length boards
  pub version : (newest_of boards).version + 1 ≡ length boards
  pub few : (newest_of boards).version ≤ MAX_CHANGES
  pub current : (newest_of boards).current ≡ epochs
  pub floor : (newest_of boards).floor ≤ epochs
  pub each : (k : ℕ) → IsBoard epochs (slice_index_or boards k opening_board)

pub record ArePlans (setting : Setting) (plans : List Plan) : Type 0 where
  pub some : 0 < length plans
  pub few : length plans ≤ MAX_EPOCHS
  pub each : (k : ℕ) → IsPlanFor setting (slice_index_or plans k setting.first)

pub record IsWorld (s : World) : Type 0 where
  pub opening : IsSetting s.opening
  pub views : length s.views ≡ (nodes_of s.opening)
  pub hands : length s.hands ≡ (nodes_of s.opening)
  pub channels : length s.channels ≡ (nodes_of s.opening) + 2 * links_of s.opening
  pub boards : AreBoards s.boards (length s.plans)
  pub plans : ArePlans s.opening s.plans
  pub views_in : (u : ℕ) → slice_index s.views u < length s.boards
  pub learnt_above : 0 < s.learnt
  pub learnt_in : s.learnt ≤ length s.plans
  pub few_packets : length s.records ≤ s.opening.max_packets
  pub place : ℕ → Place
  pub placed : ArePlaced s.opening s.plans s.hands s.channels s.records place

-- An event's answer, by what it comes to.
abbrev pub IsAnswer : World → World → Result Entry Refused → Result Reply Refused → Type 0
IsAnswer old new (Ok entry) result = (result ≡ Ok (reply_of entry)) × (new ≡ after old entry)
IsAnswer old new (Err e) result = (result ≡ Err e) × (new ≡ old)

-- the verdict of a node on a packet of this epoch and destination, where each channel has room
abbrev pub open_verdict_on : World → ℕ → Way → ℕ → ℕ → Verdict
open_verdict_on s u way stamp dest =
    judged (plan_of s.opening s.plans stamp) (board_at (sight_in s) (slice_index s.views u)) (λ _. false) way u stamp dest

-- a packet that goes on leads into a channel
abbrev pub LeadsIn : World → Verdict → Type 0
LeadsIn s (GoesOn h) = (c : ℕ) × (channel_of s.opening h.node (Link h.link) ≡ Some c) × (c < length s.channels)
LeadsIn s (CameByDown l) = Unit {0}
LeadsIn s BelowFloor = Unit {0}
LeadsIn s Arrives = Unit {0}
LeadsIn s (LeavesByDown l) = Unit {0}
LeadsIn s (NoRoom h) = Unit {0}

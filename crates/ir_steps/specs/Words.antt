-- The line of an event: the words that a script has for it, and what it came to.
use Rattle.std.specs.Prelude.{ℕ, ◌-◌, List, [], ◌∷◌, ◌++◌, Option, Some, None, Result, Ok, Err, codes, decimal, flat_map, slice_index_or}
use Rattle.ir_model.specs.declared.Kind.{Kind}
use Rattle.ir_model.specs.declared.Kind.TheVariants.{Tree, Shortest, Compact, Landmark}
use Rattle.ir_model.specs.Graph.{Name}
use Rattle.ir_model.specs.Topology.{Topology}
use Rattle.ir_core.specs.declared.event.Event.{Event}
use Rattle.ir_core.specs.declared.event.Event.TheVariants.{Inject, Learn, Take, Read, Act, Install, Renumber, Retire, Down, Up, Avoid, Heed}
use Rattle.ir_core.specs.declared.event.Way.{Way}
use Rattle.ir_core.specs.declared.event.Way.TheVariants.{Inbox, Link}
use Rattle.ir_core.specs.declared.event.Reply.{Reply}
use Rattle.ir_core.specs.declared.event.Reply.TheVariants.{Injected, Learnt, Taken, Viewed, Sent, Settled, Installed, Changed}
use Rattle.ir_core.specs.declared.event.Refused.{Refused}
use Rattle.ir_core.specs.Codes.{refusal_code}
use Rattle.ir_core.specs.Record.{Record, stamp_of}
use Rattle.ir_trace.specs.Rows.{spaced, fate_words}
use Rattle.ir_trace.specs.Written.{name_at, link_at, other_end, fate_text}

-- ---- an event, as a line of a script

abbrev pub kind_word : Kind → Name
kind_word Tree = codes "tree"
kind_word Shortest = codes "shortest"
kind_word Compact = codes "compact"
kind_word (Landmark detour) = codes "landmark"

-- the names of the ends of a link, the smaller node number first
abbrev pub link_words : List Name → Topology → ℕ → List Name
link_words nodes net l = name_at nodes (link_at net l).low ∷ name_at nodes (link_at net l).high ∷ []

-- `inbox`, or `from` and the other end of the link
abbrev pub way_words : List Name → Topology → ℕ → Way → List Name
way_words nodes net u Inbox = codes "inbox" ∷ []
way_words nodes net u (Link l) = codes "from" ∷ name_at nodes (other_end (link_at net l) u) ∷ []

-- `inject A B`, `learn E`, `take N inbox`, `take N from M`, `read N K`, `act N`, `install KIND R`, `retire F`, `down A B`,
-- `up A B`, `avoid A B` or `heed A B`
abbrev pub event_words : List Name → Topology → Event → List Name
event_words nodes net (Inject u v) = codes "inject" ∷ name_at nodes u ∷ name_at nodes v ∷ []
event_words nodes net (Learn e) = codes "learn" ∷ decimal e ∷ []
event_words nodes net (Take u way) = codes "take" ∷ name_at nodes u ∷ way_words nodes net u way
event_words nodes net (Read u k) = codes "read" ∷ name_at nodes u ∷ decimal k ∷ []
event_words nodes net (Act u) = codes "act" ∷ name_at nodes u ∷ []
event_words nodes net (Install kind r) = codes "install" ∷ kind_word kind ∷ name_at nodes r ∷ []
event_words nodes net (Renumber kind r) = codes "renumber" ∷ kind_word kind ∷ name_at nodes r ∷ []
event_words nodes net (Retire f) = codes "retire" ∷ decimal f ∷ []
event_words nodes net (Down l) = codes "down" ∷ link_words nodes net l
event_words nodes net (Up l) = codes "up" ∷ link_words nodes net l
event_words nodes net (Avoid l) = codes "avoid" ∷ link_words nodes net l
event_words nodes net (Heed l) = codes "heed" ∷ link_words nodes net l

-- ---- what it came to

-- the packet with this number, and the epoch of its stamp
abbrev pub packet_words : ℕ → Option Record → List Name
packet_words id None = decimal id ∷ []
packet_words id (Some r) = decimal id ∷ decimal (stamp_of r) ∷ []

-- what became of a packet that an Act ended, in the words of a trace
abbrev pub end_words : List Name → Topology → Option Record → List Name
end_words nodes net None = []
end_words nodes net (Some r) = fate_words (fate_text nodes net r.fate)

-- The packet that was injected, taken, sent on or ended, by its number. An injection and an Act have the epoch of its
-- stamp, an Act has `sent` and the next node or what became of the packet, and an install has its epoch. The packets
-- are those after the event.
abbrev pub reply_words : List Name → Topology → (ℕ → Option Record) → Reply → List Name
reply_words nodes net packet (Injected id) = packet_words id (packet id)
reply_words nodes net packet Learnt = []
reply_words nodes net packet (Taken id) = decimal id ∷ []
reply_words nodes net packet Viewed = []
reply_words nodes net packet (Sent id to) = packet_words id (packet id) ++ codes "sent" ∷ name_at nodes to ∷ []
reply_words nodes net packet (Settled id) = packet_words id (packet id) ++ end_words nodes net (packet id)
reply_words nodes net packet (Installed epoch) = decimal epoch ∷ []
reply_words nodes net packet Changed = []

-- the names of the refusals, in the order of their numbers, which are counted from 1
abbrev pub refused_words : List Name
refused_words =
    codes "NoNode" ∷ codes "NoLink" ∷ codes "NoChannel" ∷ codes "NoEpoch" ∷ codes "HandFull"
    ∷ codes "HandEmpty" ∷ codes "Empty" ∷ codes "BadView" ∷ codes "Same" ∷ codes "EpochsFull"
    ∷ codes "Disconnected" ∷ codes "TooManyPackets" ∷ codes "NoMemory" ∷ codes "InboxFull" ∷ codes "TooManyChanges"
    ∷ codes "Used" ∷ codes "LinkDown" ∷ []

abbrev pub refused_word : Refused → Name
refused_word refusal = slice_index_or refused_words (refusal_code refusal - 1) []

-- an event with what it came to, or `refused NAME` before it
abbrev pub told_words : List Name → Topology → (ℕ → Option Record) → Event → Result Reply Refused → List Name
told_words nodes net packet e (Ok reply) = event_words nodes net e ++ reply_words nodes net packet reply
told_words nodes net packet e (Err refusal) = codes "refused" ∷ refused_word refusal ∷ event_words nodes net e

-- the line: the number of the script's line, and those words
abbrev pub event_line : List Name → Topology → ℕ → (ℕ → Option Record) → Event → Result Reply Refused → List ℕ
event_line nodes net line packet e reply = (decimal line ++ flat_map spaced (told_words nodes net packet e reply)) ++ 10 ∷ []

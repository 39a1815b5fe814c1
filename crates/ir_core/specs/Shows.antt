-- What a world shows of a history, and the replies to events.
use Rattle.std.specs.Prelude.{◌≡◌, ℕ, ◌≤◌, true, false, List, [], length, slice_get, slice_index, slice_index_or, None, Result, Ok, Err, ◌⊎◌}
use Rattle.ir_core.specs.declared.event.Event.{Event}
use Rattle.ir_core.specs.declared.event.Event.TheVariants as event
use Rattle.ir_core.specs.declared.event.Reply.{Reply}
use Rattle.ir_core.specs.declared.event.Refused.{Refused}
use Rattle.ir_core.specs.declared.event.Refused.TheVariants.{InboxFull, NoMemory}
use Rattle.ir_core.specs.Setting.{Setting}
use Rattle.ir_core.specs.Entry.{Entry, reply_of}
use Rattle.ir_core.specs.Meaning.{Sight, sight_after, ComesTo, with_entry, injects, retires, marks, heeds, install_refusal}
use Rattle.ir_core.specs.History as history
use Rattle.ir_core.specs.World.{World}

-- The world is that of a history.
pub record Shows (log : List Entry) (s : World) : Type 0 where
  pub injected : length s.records ≡ history.injected log
  pub learnt : s.learnt ≡ history.learnt log
  pub boards : s.boards ≡ history.boards log
  pub plans : s.plans ≡ history.plans s.opening log
  pub view : (u : ℕ) → slice_index s.views u ≡ history.view u log
  pub hand : (u : ℕ) → slice_index_or s.hands u None ≡ history.hand u log
  pub waiting : (c : ℕ) → slice_index_or s.channels c [] ≡ history.waiting s.opening c log
  pub no_more_takes : (c : ℕ) → history.take_count s.opening c log ≤ length (history.puts s.opening c log)
  pub packet : (id : ℕ) → slice_get s.records id ≡ history.packet id log
  pub ends_once : history.NothingAfterTheEnd log

-- the reply to what an event comes to
abbrev pub reply_to : Result Entry Refused → Result Reply Refused
reply_to (Ok entry) = Ok (reply_of entry)
reply_to (Err e) = Err e

-- memory is asked for where all refusals but a full inbox were ruled out
abbrev pub AsksForMemory : Result Entry Refused → Type 0
AsksForMemory (Ok entry) = Unit {0}
AsksForMemory (Err e) = e ≡ InboxFull

-- The events that may want memory, and where.
abbrev pub MayWantMemory : Setting → Sight → Event → Type 0
MayWantMemory setting s (event.Inject source dest) = AsksForMemory (injects setting s source dest)
MayWantMemory setting s (event.Install kind root) = install_refusal setting s root ≡ None
MayWantMemory setting s (event.Renumber kind root) = install_refusal setting s root ≡ None
MayWantMemory setting s (event.Retire f) = AsksForMemory (retires s f)
MayWantMemory setting s (event.Down l) = AsksForMemory (marks setting s l false)
MayWantMemory setting s (event.Up l) = AsksForMemory (marks setting s l true)
MayWantMemory setting s (event.Avoid l) = AsksForMemory (heeds setting s l false)
MayWantMemory setting s (event.Heed l) = AsksForMemory (heeds setting s l true)
MayWantMemory setting s (event.Learn e) = ⊥
MayWantMemory setting s (event.Take u way) = ⊥
MayWantMemory setting s (event.Read u k) = ⊥
MayWantMemory setting s (event.Act u) = ⊥

-- The reply to an event after a history, and the later history: that with the event, if it is accepted, and the same
-- where it is refused. For want of memory it may be refused where it may want memory.
abbrev pub IsAnswered : Setting → List Entry → Event → Result Reply Refused → List Entry → Type 0
IsAnswered setting log e reply later =
    ((wanted : Result Entry Refused) × ComesTo setting (sight_after setting log) e wanted × (reply ≡ reply_to wanted) × (later ≡ with_entry log wanted))
    ⊎ (MayWantMemory setting (sight_after setting log) e × (reply ≡ Err NoMemory) × (later ≡ log))

-- The later world is that of the history after the event and its reply.
abbrev pub AnswersAfter : List Entry → Event → Result Reply Refused → Setting → World → Type 0
AnswersAfter log e reply setting new = (later : List Entry) × IsAnswered setting log e reply later × Shows later new

-- What an event comes to, or its first refusal.
use Rattle.std.specs.Prelude.{◌≡◌, ℕ, ◌+◌, ◌-◌, Bool, true, false, not, ◌||◌, nat_lt, nat_le, Option, Some, None, Result, Ok, Err, unwrap_or, is_some, List, ◌∷◌, length, slice_get, slice_index_or, if◌then◌else◌, ◌==◌}
use Rattle.ir_model.specs.declared.Hop.{Hop}
use Rattle.ir_model.specs.declared.Kind.{Kind}
use Rattle.ir_model.specs.Topology.{Topology, restrict}
use Rattle.ir_model.specs.Walk.{IsDisconnected}
use Rattle.ir_model.specs.Plan.{Plan}
use Rattle.ir_plan.specs.Building.{Labelling, FromRoot, IsPlanBy}
use Rattle.ir_core.specs.declared.event.Way.{Way}
use Rattle.ir_core.specs.declared.event.Way.TheVariants.{Inbox, Link}
use Rattle.ir_core.specs.declared.event.Event.{Event}
use Rattle.ir_core.specs.declared.event.Event.TheVariants as event
use Rattle.ir_core.specs.declared.event.Refused.{Refused}
use Rattle.ir_core.specs.declared.event.Refused.TheVariants.{NoNode, NoChannel, NoEpoch, HandFull, HandEmpty, Empty, BadView, Disconnected, InboxFull}
use Rattle.ir_core.specs.declared.board.Board.{Board}
use Rattle.ir_core.specs.declared.packet.Held.{Held}
use Rattle.ir_core.specs.declared.event.Verdict.{Verdict}
use Rattle.ir_core.specs.declared.event.Ruling.{Ruling}
use Rattle.ir_core.specs.Record.{Record, hop_room, stamp_of}
use Rattle.ir_core.specs.Board.{opening_board, links_used, marked, heeding, retired_below, installed}
use Rattle.ir_core.specs.Refusals.{inject_refused, retire_refused, mark_refused, heed_refused, install_refused}
use Rattle.ir_core.specs.Setting.{Setting, nodes_of, links_of, channel_of, into}
use Rattle.ir_core.specs.Drafts.{kept_order, labelling_by}
use Rattle.ir_core.specs.Entry.{Entry, DidInject, DidLearn, DidTake, DidRead, DidAct, DidChange, DidInstall, judged, restamp_by, fresh}
use Rattle.ir_core.specs.History as history

-- What an event is judged by.
pub record Sight : Type 0 where
  pub injected : ℕ
  pub learnt : ℕ
  pub boards : List Board
  pub plans : List Plan
  pub view : ℕ → ℕ
  pub hand : ℕ → Option Held
  pub waiting : ℕ → List ℕ
  pub packet : ℕ → Option Record

-- what holds after a history
abbrev pub sight_after : Setting → List Entry → Sight
sight_after setting log = record {
  injected = history.injected log;
  learnt = history.learnt log;
  boards = history.boards log;
  plans = history.plans setting log;
  view = λ u. history.view u log;
  hand = λ u. history.hand u log;
  waiting = λ c. history.waiting setting c log;
  packet = λ id. history.packet id log;
}

abbrev pub newest_of : List Board → Board
newest_of boards = slice_index_or boards (length boards - 1) opening_board

abbrev pub newest : Sight → Board
newest s = newest_of s.boards

abbrev pub board_at : Sight → ℕ → Board
board_at s k = slice_index_or s.boards k opening_board

-- the plan of an epoch
abbrev pub plan_of : Setting → List Plan → ℕ → Plan
plan_of setting plans e = slice_index_or plans (e - 1) setting.first

abbrev pub record_at : Sight → ℕ → Record
record_at s id = unwrap_or (s.packet id) (fresh id 0 0 0 0)

abbrev pub is_full : Setting → Sight → ℕ → Bool
is_full setting s c = nat_le setting.capacity (length (s.waiting c))

-- the channel into which this hop leads is full
abbrev pub is_full_towards : Setting → Sight → Hop → Bool
is_full_towards setting s h = is_full setting s (into setting h.node (Link h.link))

-- the verdict of u on a packet of this epoch and destination
abbrev pub verdict_on : Setting → Sight → ℕ → Way → ℕ → ℕ → Verdict
verdict_on setting s u way stamp dest =
    judged (plan_of setting s.plans stamp) (board_at s (s.view u)) (is_full_towards setting s) way u stamp dest

-- a restamped packet is judged once more, by its new epoch over the same board, as one from the inbox
abbrev pub ruling_by : Setting → Sight → ℕ → ℕ → Verdict → Option ℕ → Ruling
ruling_by setting s u dest v None = record { restamp = None; verdict = v }
ruling_by setting s u dest v (Some e) = record { restamp = Some e; verdict = verdict_on setting s u Inbox e dest }

-- What u makes of a packet: it judges it by its present epoch. It restamps it with the current epoch of its board where
-- that one is retired and the packet has had fewer restamps than the network allows.
abbrev pub ruling_on : Setting → Sight → ℕ → Way → Record → Ruling
ruling_on setting s u way r =
    let v = verdict_on setting s u way (stamp_of r) r.dest in
    ruling_by setting s u r.dest v (restamp_by (setting.restamps - length r.restamps) (board_at s (s.view u)).current v)

-- the refusal, or else this
abbrev pub unless : Option Refused → Result Entry Refused → Result Entry Refused
unless (Some e) r = Err e
unless None r = r

-- what an event comes to, or its first refusal
abbrev pub injects : Setting → Sight → ℕ → ℕ → Result Entry Refused
injects setting s source dest =
    unless (inject_refused (nodes_of setting) setting.max_packets s.injected source dest)
    (if is_full setting s (into setting source Inbox) then Err InboxFull else Ok (DidInject s.injected s.learnt source dest (hop_room setting.restamps (nodes_of setting))))

abbrev pub learns : Sight → ℕ → Result Entry Refused
learns s e = if (e == 0) || nat_lt (newest s).current e then Err NoEpoch else Ok (DidLearn e)

abbrev pub takes_first : ℕ → Way → Option ℕ → Result Entry Refused
takes_first u way None = Err Empty
takes_first u way (Some id) = Ok (DidTake u way id)

abbrev pub takes_from : Sight → ℕ → Way → Option ℕ → Result Entry Refused
takes_from s u way None = Err NoChannel
takes_from s u way (Some c) =
    if is_some (s.hand u) then Err HandFull else takes_first u way (slice_get (s.waiting c) 0)

abbrev pub takes : Setting → Sight → ℕ → Way → Result Entry Refused
takes setting s u way = if not (nat_lt u (nodes_of setting)) then Err NoNode else takes_from s u way (channel_of setting u way)

abbrev pub reads : Setting → Sight → ℕ → ℕ → Result Entry Refused
reads setting s u k =
    if not (nat_lt u (nodes_of setting)) then Err NoNode
    else if nat_lt k (s.view u) || nat_le (length s.boards) k then Err BadView
    else Ok (DidRead u k)

abbrev pub acts_on : Setting → Sight → ℕ → Option Held → Result Entry Refused
acts_on setting s u None = Err HandEmpty
acts_on setting s u (Some held) =
    let ruling = ruling_on setting s u held.way (record_at s held.id) in
    Ok (DidAct u held.id held.way ruling.restamp ruling.verdict)

abbrev pub acts : Setting → Sight → ℕ → Result Entry Refused
acts setting s u = if not (nat_lt u (nodes_of setting)) then Err NoNode else acts_on setting s u (s.hand u)

abbrev pub retires : Sight → ℕ → Result Entry Refused
retires s f = unless (retire_refused (newest s) f) (Ok (DidChange (retired_below (newest s) f)))

abbrev pub marks : Setting → Sight → ℕ → Bool → Result Entry Refused
marks setting s l up = unless (mark_refused (links_of setting) (newest s) l up) (Ok (DidChange (marked (newest s) l up)))

abbrev pub heeds : Setting → Sight → ℕ → Bool → Result Entry Refused
heeds setting s l heed = unless (heed_refused (links_of setting) (newest s) l heed) (Ok (DidChange (heeding (newest s) l heed)))

-- the network over the links that are up and heeded in the newest version
abbrev pub topology_up : Setting → Sight → Topology
topology_up setting s = restrict (links_used (newest s) (links_of setting)) setting.topology

-- a plan of this kind over the network, labelled by these, or none where the network is disconnected
abbrev pub IsMade : Labelling → Kind → Topology → Option Plan → Type 0
IsMade labels kind topology None = IsDisconnected topology
IsMade labels kind topology (Some plan) = IsPlanBy topology kind labels plan

-- two plans of one network and kind that are labelled by the same
abbrev pub AreBothMade : Labelling → Kind → Topology → Plan → Plan → Type 0
AreBothMade labels kind topology p q = IsMade labels kind topology (Some p) × IsMade labels kind topology (Some q)

abbrev pub newest_plan : Setting → Sight → Plan
newest_plan setting s = plan_of setting s.plans (length s.plans)

-- By what the plan of an install is labelled: by the order of the newest plan, where the setting keeps it.
abbrev pub labelling_next : Setting → Sight → Kind → ℕ → Labelling
labelling_next setting s kind root = labelling_by setting.labels root (kept_order setting.keeps kind (newest_plan setting s).order)

-- the entry of an install, once the plan is made
abbrev pub installs_made : Sight → Option Plan → Result Entry Refused
installs_made s None = Err Disconnected
installs_made s (Some plan) = Ok (DidInstall (length s.plans + 1) plan (installed (newest s) (length s.plans + 1)))

-- why an install is refused before any plan is made
abbrev pub install_refusal : Setting → Sight → ℕ → Option Refused
install_refusal setting s root = install_refused (nodes_of setting) (length s.plans) (newest s) root

abbrev pub InstallsUnless : Setting → Sight → Labelling → Kind → Result Entry Refused → Option Refused → Type 0
InstallsUnless setting s labels kind wanted (Some e) = wanted ≡ Err e
InstallsUnless setting s labels kind wanted None = (made : Option Plan) × IsMade labels kind (topology_up setting s) made × (wanted ≡ installs_made s made)

abbrev pub Installs : Setting → Sight → Labelling → Kind → ℕ → Result Entry Refused → Type 0
Installs setting s labels kind root wanted = InstallsUnless setting s labels kind wanted (install_refusal setting s root)

-- What an event comes to: its entry, or its first refusal. Of an install it says which plan is made, and the plan
-- is any of that kind over the links that are up and heeded, labelled as it says. To renumber is to label in the order of the
-- setting from the root.
abbrev pub ComesTo : Setting → Sight → Event → Result Entry Refused → Type 0
ComesTo setting s (event.Inject source dest) wanted = wanted ≡ injects setting s source dest
ComesTo setting s (event.Learn e) wanted = wanted ≡ learns s e
ComesTo setting s (event.Take u way) wanted = wanted ≡ takes setting s u way
ComesTo setting s (event.Read u k) wanted = wanted ≡ reads setting s u k
ComesTo setting s (event.Act u) wanted = wanted ≡ acts setting s u
ComesTo setting s (event.Install kind root) wanted = Installs setting s (labelling_next setting s kind root) kind root wanted
ComesTo setting s (event.Renumber kind root) wanted = Installs setting s (FromRoot setting.labels root) kind root wanted
ComesTo setting s (event.Retire f) wanted = wanted ≡ retires s f
ComesTo setting s (event.Down l) wanted = wanted ≡ marks setting s l false
ComesTo setting s (event.Up l) wanted = wanted ≡ marks setting s l true
ComesTo setting s (event.Avoid l) wanted = wanted ≡ heeds setting s l false
ComesTo setting s (event.Heed l) wanted = wanted ≡ heeds setting s l true

-- the history with one more event, if it is accepted
abbrev pub with_entry : List Entry → Result Entry Refused → List Entry
with_entry log (Ok entry) = entry ∷ log
with_entry log (Err _) = log

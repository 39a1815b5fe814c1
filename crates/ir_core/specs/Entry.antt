-- Verdicts, and the entries of a history.
use Rattle.std.specs.Prelude.{ℕ, ◌-◌, length, Bool, true, false, not, nat_lt, Option, Some, None, unwrap_or, List, [], ◌∷◌, ◌++◌, if◌then◌else◌, ◌==◌}
use Rattle.ir_model.specs.declared.Hop.{Hop}
use Rattle.ir_model.specs.Plan.{Plan, next_hop, table_port}
use Rattle.ir_core.specs.declared.event.Way.{Way}
use Rattle.ir_core.specs.declared.event.Way.TheVariants.{Inbox, Link}
use Rattle.ir_core.specs.declared.event.Action.{Action}
use Rattle.ir_core.specs.declared.event.Action.TheVariants.{Deliver, Send, Restamp, DropRetired, DropDown}
use Rattle.ir_core.specs.declared.event.Reply.{Reply}
use Rattle.ir_core.specs.declared.event.Reply.TheVariants.{Injected, Learnt, Taken, Viewed, Sent, Settled, Changed, Installed}
use Rattle.ir_core.specs.declared.board.Board.{Board}
use Rattle.ir_core.specs.Record.{Record}
use Rattle.ir_core.specs.declared.packet.Fate.{Fate}
use Rattle.ir_core.specs.declared.packet.Fate.TheVariants.{Delivered, Retired, Down, Full, Left}
use Rattle.ir_core.specs.declared.event.Verdict.{Verdict}
use Rattle.ir_core.specs.declared.event.Verdict.TheVariants.{CameByDown, BelowFloor, Arrives, LeavesByDown, NoRoom, GoesOn}
use Rattle.ir_core.specs.Board.{is_link_up}

-- The first line that holds. The full table is looked up by the destination.
abbrev pub onward : Board → (Hop → Bool) → Option Hop → Verdict
onward b is_full None = Arrives
onward b is_full (Some h) =
    if not (is_link_up b h.link) then LeavesByDown h.link else if is_full h then NoRoom h else GoesOn h

abbrev pub judged_here : Plan → Board → (Hop → Bool) → ℕ → ℕ → ℕ → Verdict
judged_here plan b is_full at stamp dest =
    if nat_lt stamp b.floor then BelowFloor
    else if at == dest then Arrives
    else onward b is_full (next_hop plan at dest)

abbrev pub judged : Plan → Board → (Hop → Bool) → Way → ℕ → ℕ → ℕ → Verdict
judged plan b is_full Inbox at stamp dest = judged_here plan b is_full at stamp dest
judged plan b is_full (Link l) at stamp dest =
    if not (is_link_up b l) then CameByDown l else judged_here plan b is_full at stamp dest

-- the fate of a packet after this verdict
abbrev pub fate_of : Verdict → Fate
fate_of (CameByDown l) = Down l
fate_of BelowFloor = Retired
fate_of Arrives = Delivered
fate_of (LeavesByDown l) = Down l
fate_of (NoRoom h) = Full h.link h.node
fate_of (GoesOn h) = Left

-- the node is a hop, unless the packet came from the inbox or the first two lines ended its way
abbrev pub is_hop : Way → Verdict → Bool
is_hop Inbox v = false
is_hop (Link l) (CameByDown k) = false
is_hop (Link l) BelowFloor = false
is_hop (Link l) Arrives = true
is_hop (Link l) (LeavesByDown k) = true
is_hop (Link l) (NoRoom h) = true
is_hop (Link l) (GoesOn h) = true

abbrev pub hops_after : Way → Verdict → ℕ → List ℕ → List ℕ
hops_after way v u hops = if is_hop way v then hops ++ u ∷ [] else hops

-- a packet's record after a node acted on it
abbrev pub acted : ℕ → Way → Verdict → Record → Record
acted u way v r = record r { hops = hops_after way v u r.hops; fate = fate_of v }

-- the hops with this node, unless the packet came from the inbox, where it is its last hop
abbrev pub hops_here : Way → ℕ → List ℕ → List ℕ
hops_here Inbox u hops = hops
hops_here (Link l) u hops = hops ++ u ∷ []

-- A packet's record after a node restamped it with an epoch: a new segment begins at this node.
abbrev pub restamped : ℕ → Way → ℕ → Record → Record
restamped u way e r =
    record r {
      hops = hops_here way u r.hops;
      restamps = r.restamps ++ record { epoch = e; from = length (hops_here way u r.hops) - 1 } ∷ [];
    }

-- the epoch that a packet is restamped with: the current one, where its own is below the floor and restamps are left
abbrev pub restamp_by : ℕ → ℕ → Verdict → Option ℕ
restamp_by left current BelowFloor = if nat_lt 0 left then Some current else None
restamp_by left current (CameByDown l) = None
restamp_by left current Arrives = None
restamp_by left current (LeavesByDown l) = None
restamp_by left current (NoRoom h) = None
restamp_by left current (GoesOn h) = None

-- A packet's record after an Act that restamped it with this epoch, if it did. A restamped packet goes on as one from
-- the inbox.
abbrev pub ruled : ℕ → Way → Option ℕ → Verdict → Record → Record
ruled u way None v r = acted u way v r
ruled u way (Some e) v r = acted u Inbox v (restamped u way e r)

-- a packet's record after its injection
abbrev pub fresh : ℕ → ℕ → ℕ → ℕ → ℕ → Record
fresh id epoch source dest room =
    record { id = id; epoch = epoch; source = source; dest = dest; hops = source ∷ []; restamps = []; fate = Left; room = room }

-- An accepted event, with what came of it. An injection says the most hops of its packet.
pub data Entry : Type 0 where
  DidInject : (id epoch source dest room : ℕ) → Entry
  DidLearn : (epoch : ℕ) → Entry
  DidTake : (node : ℕ) → (way : Way) → (id : ℕ) → Entry
  DidRead : (node version : ℕ) → Entry
  DidAct : (node id : ℕ) → (way : Way) → (restamp : Option ℕ) → (verdict : Verdict) → Entry
  DidChange : (board : Board) → Entry
  DidInstall : (epoch : ℕ) → (plan : Plan) → (board : Board) → Entry

abbrev pub reply_after : ℕ → Verdict → Reply
reply_after id (GoesOn h) = Sent id h.node
reply_after id (CameByDown l) = Settled id
reply_after id BelowFloor = Settled id
reply_after id Arrives = Settled id
reply_after id (LeavesByDown l) = Settled id
reply_after id (NoRoom h) = Settled id

abbrev pub reply_of : Entry → Reply
reply_of (DidInject id epoch source dest room) = Injected id
reply_of (DidLearn epoch) = Learnt
reply_of (DidTake node way id) = Taken id
reply_of (DidRead node version) = Viewed
reply_of (DidAct node id way restamp verdict) = reply_after id verdict
reply_of (DidChange board) = Changed
reply_of (DidInstall epoch plan board) = Installed epoch

-- What a node does by this verdict, before it is known whether there is room: it sends the packet over this port. A
-- packet of a retired epoch is restamped, where it has restamps left.
abbrev pub action_of : ℕ → ℕ → Verdict → Action
action_of left port (CameByDown l) = DropDown l
action_of left port BelowFloor = if nat_lt 0 left then Restamp else DropRetired
action_of left port Arrives = Deliver
action_of left port (LeavesByDown l) = DropDown l
action_of left port (NoRoom h) = Send port
action_of left port (GoesOn h) = Send port

-- what a node does with a packet, where each channel has room
abbrev pub decided : Plan → Board → Way → ℕ → ℕ → ℕ → ℕ → Action
decided plan b way at stamp dest left =
    action_of left (unwrap_or (table_port plan at dest) 0) (judged plan b (λ _. false) way at stamp dest)

abbrev pub way_of : Option ℕ → Way
way_of None = Inbox
way_of (Some l) = Link l

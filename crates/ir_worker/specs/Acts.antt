-- What a node does with a parcel that it took.
use Rattle.std.specs.Prelude.{◌≡◌, ℕ, ◌-◌, ◌<◌, Bool, false, [], ◌∷◌, ◌++◌, Option, Some, None, length}
use Rattle.ir_model.specs.declared.Hop.{Hop}
use Rattle.ir_core.specs.declared.board.Board.{Board}
use Rattle.ir_core.specs.declared.event.Way.{Way}
use Rattle.ir_core.specs.declared.event.Way.TheVariants.{Inbox}
use Rattle.ir_core.specs.declared.event.Verdict.{Verdict}
use Rattle.ir_core.specs.declared.event.Verdict.TheVariants.{CameByDown, BelowFloor, Arrives, LeavesByDown, NoRoom, GoesOn}
use Rattle.ir_core.specs.declared.packet.Fate.{Fate}
use Rattle.ir_core.specs.declared.packet.Fate.TheVariants.{Delivered, Retired, Down, Full, Left}
use Rattle.ir_core.specs.Board.{is_link_up}
use Rattle.ir_core.specs.Record.{Record, stamp_of}
use Rattle.ir_core.specs.Entry.{judged, acted, restamped, restamp_by}
use Rattle.ir_epochs.specs.declared.registry.Stamp.{Stamp}
use Rattle.ir_epochs.specs.Stamps.{knows}
use Rattle.ir_worker.specs.declared.parcel.Outcome.{Outcome}
use Rattle.ir_worker.specs.Seen.{Parcel, stamp_now}

-- The core's verdict on a parcel that the node u took by this way, by a board and the plan that the stamp of its present
-- segment knows. `full` says whether the channel that it is to leave by is full.
abbrev pub parcel_verdict : Parcel → Board → Bool → Way → ℕ → Verdict
parcel_verdict p b full way u = judged (knows (stamp_now p)) b (λ _. full) way u (stamp_of p.packet) p.packet.dest

-- The epoch that it is restamped with: the current one, where its own is retired and it has had fewer restamps than are
-- allowed.
abbrev pub restamp_on : ℕ → Parcel → Board → Way → ℕ → Option ℕ
restamp_on allowed p b way u = restamp_by (allowed - length p.packet.restamps) b.current (parcel_verdict p b false way u)

-- The parcel after that: a new segment begins at u, of the current stamp. It is then judged as one from the inbox of u.
abbrev pub with_restamp : Option ℕ → Stamp → Way → ℕ → Parcel → Parcel
with_restamp None current way u p = p
with_restamp (Some e) current way u p =
    record { packet = restamped u way e p.packet; first = p.first; later = p.later ++ current ∷ []; next = u }

abbrev pub way_then : Option ℕ → Way → Way
way_then None way = way
way_then (Some e) way = Inbox

-- The node u sends p on over the hop, as q.
pub record GoesOnAs (b : Board) (way : Way) (u : ℕ) (p : Parcel) (h : Hop) (q : Parcel) : Type 0 where
  pub verdict : parcel_verdict p b false way u ≡ GoesOn h
  pub packet : q.packet ≡ acted u way (GoesOn h) p.packet
  pub first : q.first ≡ p.first
  pub later : q.later ≡ p.later
  pub next : q.next ≡ h.node

-- the verdict ends the packet's way
abbrev pub IsEnd : Verdict → Type 0
IsEnd (CameByDown l) = Unit {0}
IsEnd BelowFloor = Unit {0}
IsEnd Arrives = Unit {0}
IsEnd (LeavesByDown l) = Unit {0}
IsEnd (NoRoom h) = Unit {0}
IsEnd (GoesOn h) = ⊥

-- The node u settles p with this verdict, in which a push was refused or not. The outcome holds the board's version.
pub record SettlesAs (b : Board) (refused : Bool) (way : Way) (u : ℕ) (p : Parcel) (v : Verdict) (o : Outcome) : Type 0 where
  pub verdict : parcel_verdict p b refused way u ≡ v
  pub ends : IsEnd v
  pub packet : o.packet ≡ acted u way v p.packet
  pub first : o.stamp ≡ p.first
  pub later : o.later.items ≡ p.later
  pub version : o.version ≡ b.version

-- The cause that a fate names held on a board: the present segment's epoch was below the floor, or the link was down.
abbrev pub CauseHolds : Board → Record → Fate → Type 0
CauseHolds b r Retired = stamp_of r < b.floor
CauseHolds b r (Down l) = is_link_up b l ≡ false
CauseHolds b r Delivered = Unit {0}
CauseHolds b r (Full l node) = Unit {0}
CauseHolds b r Left = Unit {0}

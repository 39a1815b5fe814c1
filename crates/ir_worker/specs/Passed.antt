-- A parcel in a node's hand, and how the node passes it on.
use Rattle.std.specs.Prelude.{◌≡◌, ℕ, ◌≤◌, Bool, List, All, Result, MatchResult, length}
use Rattle.ir_model.specs.declared.Hop.{Hop}
use Rattle.ir_core.specs.declared.board.Board.{Board}
use Rattle.ir_core.specs.declared.event.Verdict.{Verdict}
use Rattle.ir_core.specs.declared.event.Way.{Way}
use Rattle.ir_core.specs.Record.{present}
use Rattle.ir_core.specs.Sound.{last_of}
use Rattle.ir_links.specs.Ends.{Word}
use Rattle.ir_epochs.specs.declared.registry.Stamp.{Stamp}
use Rattle.ir_epochs.specs.Stamps.{knows}
use Rattle.ir_worker.specs.declared.parcel.Outcome.{Outcome}
use Rattle.ir_worker.specs.Seen.{Parcel, HasRoomOf, IsOfNet, IsSegmentUnderWay, stamp_now, stamps_of}
use Rattle.ir_worker.specs.Acts.{GoesOnAs, SettlesAs}
use Rattle.ir_worker.specs.Ends.{CameBy}
use Rattle.ir_worker.specs.Wires.{Out, SentOver, WasFullFor}

-- The node u of the net of the opening's stamp, which allows so many restamps, holds a parcel that it took by this way.
-- The parcel is of the net, with its room and its limit, and came by that way to a node with these ports.
pub record IsInHandAt (opening : Stamp) (restamps : ℕ) (ports : List Hop) (u : ℕ) (way : Way) (p : Parcel) : Type 0 where
  pub of_net : All (λ s. IsOfNet opening s) (stamps_of p.first p.later)
  pub few : length p.packet.restamps ≤ restamps
  pub room : HasRoomOf opening restamps p
  pub came : CameBy ports u way (last_of p.packet.hops) p.next

-- The parcel's present segment is under way, and ends where the parcel is.
abbrev pub IsOnItsWay : Parcel → Type 0
IsOnItsWay p = IsSegmentUnderWay (knows (stamp_now p)) (present p.packet) p.next × (last_of (present p.packet).hops ≡ last_of p.packet.hops)

-- The node u sends the parcel on over one of its ports, to the node that it answers; or it settles it, and sends nothing. Where
-- the outcome says that there was no room, the push was refused, in the word of such calls.
abbrev pub PassesOn : Word Parcel → Board → List Hop → ℕ → Way → Parcel → List Out → Result ℕ Outcome → List Out → Type 0
PassesOn was_full b ports u way p outs answer outs' = MatchResult answer
    (λ to. (h : Hop) × (q : Parcel) × GoesOnAs b way u p h q × (h.node ≡ to) × SentOver ports outs outs' h q)
    (λ o. (refused : Bool) × (v : Verdict) × SettlesAs b refused way u p v o × (outs' ≡ outs) × WasFullFor was_full ports outs v)

-- What a verdict on a parcel says, for which no channel is full.
use Rattle.std.specs.Prelude.{◌≡◌, ℕ, ◌<◌, ◌==◌, List, Bool, true, false, not, cond, nat_lt, Option, Some, None}
use Rattle.std.proofs.Common.{subst, sym}
use Rattle.std.proofs.lemmas.Option.{none-some}
use Rattle.ir_model.specs.declared.Hop.{Hop}
use Rattle.ir_model.specs.Plan.{Plan, next_hop}
use Rattle.ir_core.specs.declared.board.Board.{Board}
use Rattle.ir_core.specs.declared.event.Way.{Way}
use Rattle.ir_core.specs.declared.event.Way.TheVariants.{Inbox, Link}
use Rattle.ir_core.specs.declared.event.Verdict.{Verdict}
use Rattle.ir_core.specs.declared.event.Verdict.TheVariants.{CameByDown, BelowFloor, Arrives, LeavesByDown, NoRoom, GoesOn}
use Rattle.ir_core.specs.Board.{is_link_up}
use Rattle.ir_core.specs.Record.{stamp_of}
use Rattle.ir_core.specs.Entry.{judged, judged_here, onward, restamp_by}
use Rattle.ir_core.proofs.Verdicts.{IsLive, judged_live}
use Rattle.ir_links.specs.Ends.{Word}
use Rattle.ir_epochs.specs.Stamps.{knows}
use Rattle.ir_worker.specs.Seen.{Parcel, stamp_now}
use Rattle.ir_worker.specs.Acts.{parcel_verdict}
use Rattle.ir_worker.specs.Wires.{Out, WasFullFor}

abbrev SaysRoom : Verdict → Type 0
SaysRoom (CameByDown l) = Unit {0}
SaysRoom BelowFloor = Unit {0}
SaysRoom Arrives = Unit {0}
SaysRoom (LeavesByDown l) = Unit {0}
SaysRoom (NoRoom h) = ⊥
SaysRoom (GoesOn h) = Unit {0}

either_says : (b : Bool) (v w : Verdict) → SaysRoom v → SaysRoom w → SaysRoom (cond b v w)
either_says true v w x y = x
either_says false v w x y = y

onward_says : (b : Board) (x : Option Hop) → SaysRoom (onward b (λ _. false) x)
onward_says b None = tt
onward_says b (Some h) = either_says (not (is_link_up b h.link)) (LeavesByDown h.link) (GoesOn h) tt tt

here_says : (t : Plan) (b : Board) (u stamp d : ℕ) → SaysRoom (judged_here t b (λ _. false) u stamp d)
here_says t b u stamp d = either_says (nat_lt stamp b.floor) _ _ tt (either_says (u == d) _ _ tt (onward_says b (next_hop t u d)))

judged_says : (t : Plan) (b : Board) (way : Way) (u stamp d : ℕ) → SaysRoom (judged t b (λ _. false) way u stamp d)
judged_says t b Inbox u stamp d = here_says t b u stamp d
judged_says t b (Link l) u stamp d = either_says (not (is_link_up b l)) _ _ tt (here_says t b u stamp d)

says_for : (was_full : Word Parcel) (ports : List Hop) (outs : List Out) (v : Verdict) → SaysRoom v → WasFullFor was_full ports outs v
says_for was_full ports outs (CameByDown l) room = tt
says_for was_full ports outs BelowFloor room = tt
says_for was_full ports outs Arrives room = tt
says_for was_full ports outs (LeavesByDown l) room = tt
says_for was_full ports outs (NoRoom h) room = absurd room
says_for was_full ports outs (GoesOn h) room = tt

-- nothing is to be shown of a channel that was full
pub none_was_full : (was_full : Word Parcel) (ports : List Hop) (outs : List Out) (p : Parcel) (b : Board) (way : Way) (u : ℕ) (v : Verdict) → parcel_verdict p b false way u ≡ v → WasFullFor was_full ports outs v
none_was_full was_full ports outs p b way u v is = says_for was_full ports outs v (subst SaysRoom is (judged_says (knows (stamp_now p)) b way u (stamp_of p.packet) p.packet.dest))

-- where there is a restamp, the parcel's epoch is retired
pub was_retired : (left current e : ℕ) (v : Verdict) (p : Parcel) (b : Board) (way : Way) (u : ℕ) → v ≡ parcel_verdict p b false way u → restamp_by left current v ≡ Some e → stamp_of p.packet < b.floor
was_retired left current e BelowFloor p b way u is made =
    subst (λ (v : Verdict). IsLive b (stamp_of p.packet) v) (sym is) (judged_live (knows (stamp_now p)) b (λ _. false) way u (stamp_of p.packet) p.packet.dest)
was_retired left current e (CameByDown l) p b way u is made = absurd (none-some e made)
was_retired left current e Arrives p b way u is made = absurd (none-some e made)
was_retired left current e (LeavesByDown l) p b way u is made = absurd (none-some e made)
was_retired left current e (NoRoom h) p b way u is made = absurd (none-some e made)
was_retired left current e (GoesOn h) p b way u is made = absurd (none-some e made)

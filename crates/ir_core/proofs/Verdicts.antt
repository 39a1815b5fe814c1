use Rattle.std.proofs.Common.{◌≡◌, ℕ, ◌<◌, ◌≤◌, Option, Some, None, refl, sym, ◌∙◌, arith, true, false, Bool, ◌==◌, nat_lt, not, cond}
use Rattle.std.proofs.lemmas.Grind.{common_steps}
use Rattle.ir_model.specs.declared.Hop.{Hop}
use Rattle.ir_model.specs.Plan.{Plan, next_hop}
use Rattle.ir_core.specs.declared.event.Way.{Way}
use Rattle.ir_core.specs.declared.event.Way.TheVariants.{Inbox, Link}
use Rattle.ir_core.specs.declared.event.Verdict.{Verdict}
use Rattle.ir_core.specs.declared.event.Verdict.TheVariants.{CameByDown, BelowFloor, Arrives, LeavesByDown, NoRoom, GoesOn}
use Rattle.ir_core.specs.declared.board.Board.{Board}
use Rattle.ir_core.specs.Board.{is_link_up}
use Rattle.ir_core.specs.Entry.{judged, judged_here, onward}

-- what a verdict says of the table, and of the room in the channel
abbrev pub Means : Plan → (Hop → Bool) → ℕ → Way → ℕ → Verdict → Type 0
Means t full u way d (CameByDown l) = way ≡ Link l
Means t full u way d BelowFloor = Unit {0}
Means t full u way d Arrives = u ≡ d
Means t full u way d (LeavesByDown l) = (h : Hop) × (next_hop t u d ≡ Some h) × (h.link ≡ l)
Means t full u way d (NoRoom h) = next_hop t u d ≡ Some h
Means t full u way d (GoesOn h) = (next_hop t u d ≡ Some h) × (full h ≡ false)

onward_means : (t : Plan) (b : Board) (full : Hop → Bool) (u : ℕ) (way : Way) (d : ℕ) (x : Option Hop) → next_hop t u d ≡ x → ((x ≡ None) → u ≡ d) → Means t full u way d (onward b full x)
onward_means t b full u way d None e n = n refl
onward_means t b full u way d (Some h) e n = up_means (is_link_up b h.link) refl
  where
    room_means : (r : Bool) → full h ≡ r → Means t full u way d (cond r (NoRoom h) (GoesOn h))
    room_means true p = e
    room_means false p = (e, p)

    up_means : (r : Bool) → is_link_up b h.link ≡ r → Means t full u way d (onward b full (Some h))
    up_means true p = rw p (room_means (full h) refl)
    up_means false p = rw p (h, e, refl)

here_means : (t : Plan) (b : Board) (full : Hop → Bool) (u : ℕ) (way : Way) (stamp d : ℕ) → ((next_hop t u d ≡ None) → u ≡ d) → Means t full u way d (judged_here t b full u stamp d)
here_means t b full u way stamp d n = floor_means (nat_lt stamp b.floor) refl
  where
    at_means : (r : Bool) → (u == d) ≡ r → Means t full u way d (cond r Arrives (onward b full (next_hop t u d)))
    at_means true p = grind (arith, common_steps)
    at_means false p = onward_means t b full u way d (next_hop t u d) refl n

    floor_means : (r : Bool) → nat_lt stamp b.floor ≡ r → Means t full u way d (judged_here t b full u stamp d)
    floor_means true p = rw p tt
    floor_means false p = rw p (at_means (u == d) refl)

pub judged_means : (t : Plan) (b : Board) (full : Hop → Bool) (way : Way) (u stamp d : ℕ) → ((next_hop t u d ≡ None) → u ≡ d) → Means t full u way d (judged t b full way u stamp d)
judged_means t b full Inbox u stamp d n = here_means t b full u Inbox stamp d n
judged_means t b full (Link l) u stamp d n = up_means (is_link_up b l) refl
  where
    up_means : (r : Bool) → is_link_up b l ≡ r → Means t full u (Link l) d (judged t b full (Link l) u stamp d)
    up_means true p = rw p (here_means t b full u (Link l) stamp d n)
    up_means false p = rw p refl

-- the verdict where channels may be full, from the one where none is
abbrev pub if_full : (Hop → Bool) → Verdict → Verdict
if_full full (GoesOn h) = cond (full h) (NoRoom h) (GoesOn h)
if_full full (CameByDown l) = CameByDown l
if_full full BelowFloor = BelowFloor
if_full full Arrives = Arrives
if_full full (LeavesByDown l) = LeavesByDown l
if_full full (NoRoom h) = NoRoom h

if_full-cond : (full : Hop → Bool) (b : Bool) (v w : Verdict) → if_full full (cond b v w) ≡ cond b (if_full full v) (if_full full w)
if_full-cond full true v w = refl
if_full-cond full false v w = refl

same_cond : (b : Bool) (v w x y : Verdict) → v ≡ x → w ≡ y → cond b v w ≡ cond b x y
same_cond true v w x y e f = e
same_cond false v w x y e f = f

onward-if_full : (b : Board) (full : Hop → Bool) (x : Option Hop) → onward b full x ≡ if_full full (onward b (λ _. false) x)
onward-if_full b full None = refl
onward-if_full b full (Some h) = up (is_link_up b h.link)
  where
    up : (r : Bool) → cond (not r) (LeavesByDown h.link) (cond (full h) (NoRoom h) (GoesOn h)) ≡ if_full full (cond (not r) (LeavesByDown h.link) (GoesOn h))
    up true = refl
    up false = refl

here-if_full : (t : Plan) (b : Board) (full : Hop → Bool) (u stamp d : ℕ) → judged_here t b full u stamp d ≡ if_full full (judged_here t b (λ _. false) u stamp d)
here-if_full t b full u stamp d =
    same_cond (nat_lt stamp b.floor) _ _ _ _ refl (same_cond (u == d) _ _ _ _ refl (onward-if_full b full (next_hop t u d)) ∙ sym (if_full-cond full (u == d) Arrives (onward b (λ _. false) (next_hop t u d))))
    ∙ sym (if_full-cond full (nat_lt stamp b.floor) BelowFloor (cond (u == d) Arrives (onward b (λ _. false) (next_hop t u d))))

pub judged-if_full : (t : Plan) (b : Board) (full : Hop → Bool) (way : Way) (u stamp d : ℕ) → judged t b full way u stamp d ≡ if_full full (judged t b (λ _. false) way u stamp d)
judged-if_full t b full Inbox u stamp d = here-if_full t b full u stamp d
judged-if_full t b full (Link l) u stamp d =
    same_cond (not (is_link_up b l)) _ _ _ _ refl (here-if_full t b full u stamp d) ∙ sym (if_full-cond full (not (is_link_up b l)) (CameByDown l) (judged_here t b (λ _. false) u stamp d))

-- what a verdict says of the packet's epoch and the floor of the board
abbrev pub IsLive : Board → ℕ → Verdict → Type 0
IsLive b stamp BelowFloor = stamp < b.floor
IsLive b stamp (GoesOn h) = b.floor ≤ stamp
IsLive b stamp (CameByDown l) = Unit {0}
IsLive b stamp Arrives = Unit {0}
IsLive b stamp (LeavesByDown l) = Unit {0}
IsLive b stamp (NoRoom h) = Unit {0}

onward_live : (b : Board) (full : Hop → Bool) (stamp : ℕ) (x : Option Hop) → b.floor ≤ stamp → IsLive b stamp (onward b full x)
onward_live b full stamp None le = tt
onward_live b full stamp (Some h) le = up_live (is_link_up b h.link) (full h)
  where
    up_live : (r f : Bool) → IsLive b stamp (cond (not r) (LeavesByDown h.link) (cond f (NoRoom h) (GoesOn h)))
    up_live true true = tt
    up_live true false = le
    up_live false f = tt

here_live : (t : Plan) (b : Board) (full : Hop → Bool) (u stamp d : ℕ) → IsLive b stamp (judged_here t b full u stamp d)
here_live t b full u stamp d = floor_live (nat_lt stamp b.floor) refl
  where
    at_live : (r : Bool) → b.floor ≤ stamp → IsLive b stamp (cond r Arrives (onward b full (next_hop t u d)))
    at_live true le = tt
    at_live false le = onward_live b full stamp (next_hop t u d) le

    floor_live : (r : Bool) → nat_lt stamp b.floor ≡ r → IsLive b stamp (judged_here t b full u stamp d)
    floor_live true p = let lt : stamp < b.floor = grind (arith, common_steps) in rw p lt
    floor_live false p = let le : b.floor ≤ stamp = grind (arith, common_steps) in rw p (at_live (u == d) le)

pub judged_live : (t : Plan) (b : Board) (full : Hop → Bool) (way : Way) (u stamp d : ℕ) → IsLive b stamp (judged t b full way u stamp d)
judged_live t b full Inbox u stamp d = here_live t b full u stamp d
judged_live t b full (Link l) u stamp d = up_live (is_link_up b l)
  where
    up_live : (r : Bool) → IsLive b stamp (cond (not r) (CameByDown l) (judged_here t b full u stamp d))
    up_live true = here_live t b full u stamp d
    up_live false = tt

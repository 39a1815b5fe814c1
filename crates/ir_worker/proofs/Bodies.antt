-- What the box of a parcel holds.
use Rattle.std.proofs.Common.{subst, sym, ap, ◌∙◌, ◌≡◌, ◌<◌, ◌≤◌, ℕ, false, length}
use Rattle.std.specs.Prelude.{vec_capacity}
use Rattle.ir_model.specs.Topology.{node_count}
use Rattle.ir_model.specs.Plan.{Plan, IsPlan, label_in, node_in}
use Rattle.ir_core.specs.declared.TheConstants.{MAX_RESTAMPS}
use Rattle.ir_core.specs.declared.board.Board.{Board}
use Rattle.ir_core.specs.declared.event.Verdict.{Verdict}
use Rattle.ir_core.specs.declared.event.Way.{Way}
use Rattle.ir_core.specs.Record.{present, stamp_of}
use Rattle.ir_core.specs.Recorded.{HasRoomHere}
use Rattle.ir_core.specs.Entry.{judged}
use Rattle.ir_core.specs.World.{IsDue}
use Rattle.ir_epochs.specs.Stamps.{knows}
use Rattle.ir_worker.specs.declared.parcel.Body.{Body}
use Rattle.ir_worker.specs.Seen.{Parcel, IsParcelKept, present_stamp, stamp_now}
use Rattle.ir_worker.specs.Acts.{parcel_verdict}
use Rattle.ir_worker.proofs.Routes.{room, split_routed}

-- it is what is seen, and what is true of every parcel holds of it
abbrev pub IsBodyOf : Parcel → Body → Type 0
IsBodyOf p b =
    ((let seen : Parcel = record { packet = b.packet; first = b.first; later = b.later.items; next = b.next } in seen) ≡ p)
    × (IsParcelKept b.first b.later.items b.packet b.next b.address × (MAX_RESTAMPS ≤ vec_capacity b.later) × (length b.later.items ≡ length b.packet.restamps))

-- another body that is the same
pub body_again : (p : Parcel) (b b' : Body) → b' ≡ b → IsBodyOf p b → IsBodyOf p b'
body_again p b b' same is = subst (λ (x : Body). IsBodyOf p x) (sym same) is

-- there is room for a hop, where it came by a link
pub body_room : (p : Parcel) (b : Body) (u : ℕ) (way : Way) → IsBodyOf p b → IsDue (knows (stamp_now p)) (present p.packet) u way → HasRoomHere way b.packet
body_room p b u way is due =
    room b.first b.later.items b.packet b.next b.address u way is.1.0 (subst (λ (x : Parcel). IsDue (knows (stamp_now x)) (present x.packet) u way) (sym is.0) due)

-- what comes of it by the plan of its present stamp, from what the code read
pub body_judged : (p : Parcel) (b : Body) (board : Board) (way : Way) (u : ℕ) (t : Plan) (stamp : ℕ) (v : Verdict) → IsBodyOf p b → IsPlan t → t ≡ knows (stamp_now p) → stamp ≡ stamp_of b.packet →
    v ≡ judged t board (λ _. false) way u stamp (node_in t b.address) → v ≡ parcel_verdict p board false way u
body_judged p b board way u t stamp v is is_plan known stamped made =
    let s = present_stamp b.first b.later.items in
    let st = (split_routed b.first b.later.items b.packet is.1.0.routed).0 in
    let here : t ≡ knows s = known ∙ ap (λ (x : Parcel). knows (stamp_now x)) (sym is.0) in
    let d_in : b.packet.dest < node_count t.topology = subst (λ (x : Plan). b.packet.dest < node_count x.topology) (sym here) st.dest_in in
    let labelled : b.address ≡ label_in t b.packet.dest = is.1.0.labelled ∙ ap (λ (x : Plan). label_in x b.packet.dest) (sym here) in
    let home : node_in t b.address ≡ b.packet.dest = ap (node_in t) labelled ∙ is_plan.labels.there b.packet.dest d_in in
    made ∙ ap (judged t board (λ _. false) way u stamp) home ∙ ap (λ (e : ℕ). judged t board (λ _. false) way u e b.packet.dest) stamped
    ∙ ap (λ (x : Plan). judged x board (λ _. false) way u (stamp_of b.packet) b.packet.dest) here
    ∙ ap (λ (x : Parcel). parcel_verdict x board false way u) is.0

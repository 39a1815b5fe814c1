use Rattle.std.proofs.Common.{◌≡◌, ℕ, ◌+◌, ◌<◌, [], length, slice_get, slice_index_or, Option, Some, None, refl, sym, ap, ◌∙◌, subst, arith, true, false, not, Bool, nat_lt, cond}
use Rattle.std.specs.Prelude.{Result, Ok, Err, is_some}
use Rattle.std.proofs.lemmas.Grind.{common_steps}
use Rattle.std.proofs.lemmas.List.{get_or_default}
use Rattle.ir_model.specs.declared.Kind.{Kind}
use Rattle.ir_model.specs.Plan.{Plan}
use Rattle.ir_plan.specs.Building.{Labelling, FromRoot}
use Rattle.ir_core.specs.declared.event.Way.{Way}
use Rattle.ir_core.specs.declared.event.Way.TheVariants.{Link}
use Rattle.ir_core.specs.declared.event.Event.{Event}
use Rattle.ir_core.specs.declared.event.Event.TheVariants as event
use Rattle.ir_core.specs.declared.event.Refused.{Refused}
use Rattle.ir_core.specs.declared.event.Refused.TheVariants.{NoNode, NoChannel, NoEpoch, HandFull, HandEmpty, Empty, BadView, Disconnected, InboxFull}
use Rattle.ir_core.specs.declared.event.Verdict.{Verdict}
use Rattle.ir_core.specs.declared.event.Verdict.TheVariants.{CameByDown, BelowFloor, Arrives, LeavesByDown, NoRoom, GoesOn}
use Rattle.ir_core.specs.declared.event.Ruling.{Ruling}
use Rattle.ir_core.specs.Record.{Record, hop_room}
use Rattle.ir_core.specs.declared.packet.Held.{Held}
use Rattle.ir_core.specs.Setting.{nodes_of, links_of, channel_of, into}
use Rattle.ir_core.specs.declared.board.Board.{Board}
use Rattle.ir_core.specs.Board.{marked, heeding, retired_below, installed}
use Rattle.ir_core.specs.Refusals.{retire_refused, mark_refused, heed_refused}
use Rattle.ir_core.specs.Entry.{Entry, DidInject, DidLearn, DidTake, DidRead, DidAct, DidChange, DidInstall, fresh}
use Rattle.ir_core.specs.Meaning.{newest, takes_from, takes_first, acts_on, installs_made, unless, install_refusal, labelling_next, InstallsUnless, ComesTo, record_at, ruling_on, is_full_towards}
use Rattle.ir_core.specs.World.{World, IsWorld, sight_in, LeadsIn}
use Rattle.ir_core.proofs.Refusals.{source_in}
use Rattle.ir_core.proofs.Channels.{channel_within, into_is}
use Rattle.ir_core.proofs.Keeps.{acting_now, leads_in}
use Rattle.ir_core.proofs.Shown.{Fits, FitsVerdict}

-- a test before an acceptance failed
passed : (b : Bool) (x : Refused) (rest : Result Entry Refused) (y : Entry) → cond b (Err x) rest ≡ Ok y → (b ≡ false) × (rest ≡ Ok y)
passed true x rest y e = absurd (refused e)
  where
    refused : Err x ≡ Ok y → ⊥
    refused q = cc
passed false x rest y e = (refl, e)

pub same_entry : (x y : Entry) → ◌≡◌ {A = Result Entry Refused} (Ok x) (Ok y) → x ≡ y
same_entry x y e = cc

pub not_accepted : (x : Refused) (y : Entry) → ◌≡◌ {A = Result Entry Refused} (Err x) (Ok y) → ⊥
not_accepted x y e = cc

within : (u n : ℕ) → not (nat_lt u n) ≡ false → u < n
within u n e = grind (arith, common_steps)

-- nor was it refused
let_through : (x : Option Refused) (w : Result Entry Refused) (y : Entry) → unless x w ≡ Ok y → (x ≡ None) × (w ≡ Ok y)
let_through (Some e) w y is = absurd (not_accepted e y is)
let_through None w y is = (refl, is)

fits_verdict : (s : World) (v : Verdict) → LeadsIn s v → FitsVerdict s v
fits_verdict s (GoesOn h) k = let e = into_is s.opening h.node (Link h.link) k.0 k.1 in let w = k.2 in omega arith
fits_verdict s (CameByDown l) k = tt
fits_verdict s BelowFloor k = tt
fits_verdict s Arrives k = tt
fits_verdict s (LeavesByDown l) k = tt
fits_verdict s (NoRoom h) k = tt

take_fits : (s : World) → IsWorld s → (u : ℕ) (way : Way) (entry : Entry) (x : Option ℕ) (y : Option ℕ) → u < (nodes_of s.opening) → channel_of s.opening u way ≡ x →
    ((c : ℕ) → x ≡ Some c → slice_get (slice_index_or s.channels c []) 0 ≡ y) → takes_from (sight_in s) u way x ≡ Ok entry → Fits s entry
take_fits s ok u way entry None y u_in there seen e = absurd (not_accepted NoChannel entry e)
take_fits s ok u way entry (Some c) y u_in there seen e =
    let p = passed (is_some (slice_index_or s.hands u None)) HandFull (takes_first u way (slice_get (slice_index_or s.channels c []) 0)) entry e in
    first_fits y (seen c refl) (ap (λ (z : Option ℕ). takes_first u way z) (sym (seen c refl)) ∙ p.1)
  where
    first_fits : (z : Option ℕ) → slice_get (slice_index_or s.channels c []) 0 ≡ z → takes_first u way z ≡ Ok entry → Fits s entry
    first_fits None is q = absurd (not_accepted Empty entry q)
    first_fits (Some id) is q =
        let number = into_is s.opening u way c there in
        let c_in = channel_within s.opening u way c u_in there in
        let made : Fits s (DidTake u way id) = (omega (arith, ok.hands), omega (arith, number, ok.channels), ap (λ (k : ℕ). slice_get (slice_index_or s.channels k []) 0) number ∙ is) in
        subst (λ (k : Entry). Fits s k) (same_entry (DidTake u way id) entry q) made

act_fits : (s : World) → IsWorld s → (u : ℕ) (entry : Entry) (x : Option Held) → u < (nodes_of s.opening) → slice_index_or s.hands u None ≡ x → acts_on s.opening (sight_in s) u x ≡ Ok entry → Fits s entry
act_fits s ok u entry None u_in holds e = absurd (not_accepted HandEmpty entry e)
act_fits s ok u entry (Some held) u_in holds e =
    let id_in = (ok.placed.held u held holds).0 in
    let r : Record = slice_index_or s.records held.id (fresh held.id 0 0 0 0) in
    let read : r ≡ slice_index_or s.records held.id r = get_or_default s.records held.id (fresh held.id 0 0 0 0) r id_in in
    let x : Ruling = ruling_on s.opening (sight_in s) u held.way (record_at (sight_in s) held.id) in
    let a = acting_now s s refl ok u held r x holds read u_in refl in
    let made : Fits s (DidAct u held.id held.way x.restamp x.verdict) = (omega (arith, ok.hands), id_in, fits_verdict s x.verdict (leads_in s ok u held r (is_full_towards s.opening (sight_in s)) _ x.restamp x.verdict a), holds) in
    subst (λ (k : Entry). Fits s k) (same_entry (DidAct u held.id held.way x.restamp x.verdict) entry e) made

made_fits : (s : World) (entry : Entry) (x : Option Plan) → Ok entry ≡ installs_made (sight_in s) x → Fits s entry
made_fits s entry None e = absurd (not_accepted Disconnected entry (sym e))
made_fits s entry (Some t) e =
    subst (λ (k : Entry). Fits s k) (same_entry (DidInstall (length s.plans + 1) t (installed (newest (sight_in s)) (length s.plans + 1))) entry (sym e)) tt

install_fits : (s : World) (labels : Labelling) (kind : Kind) (entry : Entry) (x : Option Refused) → InstallsUnless s.opening (sight_in s) labels kind (Ok entry) x → Fits s entry
install_fits s labels kind entry (Some refused) e = absurd (not_accepted refused entry (sym e))
install_fits s labels kind entry None e = made_fits s entry e.0 e.2

change_fits : (s : World) (x : Option Refused) (b : Board) (entry : Entry) → Ok entry ≡ unless x (Ok (DidChange b)) → Fits s entry
change_fits s x b entry e = subst (λ (k : Entry). Fits s k) (same_entry (DidChange b) entry (let_through x (Ok (DidChange b)) entry (sym e)).1) tt

-- what is accepted fits the world
pub accepted_fits : (s : World) → IsWorld s → (e : Event) (entry : Entry) → ComesTo s.opening (sight_in s) e (Ok entry) → Fits s entry
accepted_fits s ok (event.Inject source dest) entry e =
    let p = let_through _ _ entry (sym e) in
    let r = passed _ InboxFull _ entry p.1 in
    let s_in = source_in (nodes_of s.opening) s.opening.max_packets (length s.records) source dest p.0 in
    let made : Fits s (DidInject (length s.records) s.learnt source dest (hop_room s.opening.restamps (nodes_of s.opening))) = (refl, omega (arith, ok.channels)) in
    subst (λ (k : Entry). Fits s k) (same_entry (DidInject (length s.records) s.learnt source dest (hop_room s.opening.restamps (nodes_of s.opening))) entry r.1) made
accepted_fits s ok (event.Learn n) entry e =
    let p = passed _ NoEpoch _ entry (sym e) in
    subst (λ (k : Entry). Fits s k) (same_entry (DidLearn n) entry p.1) tt
accepted_fits s ok (event.Take u way) entry e =
    let p = passed _ NoNode _ entry (sym e) in
    take_fits s ok u way entry (channel_of s.opening u way) (slice_get (slice_index_or s.channels (into s.opening u way) []) 0) (within u (nodes_of s.opening) p.0) refl
    (λ c is. ap (λ (k : ℕ). slice_get (slice_index_or s.channels k []) 0) (sym (into_is s.opening u way c is))) p.1
accepted_fits s ok (event.Read u n) entry e =
    let p = passed _ NoNode _ entry (sym e) in
    let q = passed _ BadView _ entry p.1 in
    let u_in = within u (nodes_of s.opening) p.0 in
    let made : Fits s (DidRead u n) = omega (arith, ok.views) in
    subst (λ (k : Entry). Fits s k) (same_entry (DidRead u n) entry q.1) made
accepted_fits s ok (event.Act u) entry e =
    let p = passed _ NoNode _ entry (sym e) in
    act_fits s ok u entry (slice_index_or s.hands u None) (within u (nodes_of s.opening) p.0) refl p.1
accepted_fits s ok (event.Retire f) entry e = change_fits s (retire_refused (newest (sight_in s)) f) (retired_below (newest (sight_in s)) f) entry e
accepted_fits s ok (event.Down l) entry e = change_fits s (mark_refused (links_of s.opening) (newest (sight_in s)) l false) (marked (newest (sight_in s)) l false) entry e
accepted_fits s ok (event.Up l) entry e = change_fits s (mark_refused (links_of s.opening) (newest (sight_in s)) l true) (marked (newest (sight_in s)) l true) entry e
accepted_fits s ok (event.Avoid l) entry e = change_fits s (heed_refused (links_of s.opening) (newest (sight_in s)) l false) (heeding (newest (sight_in s)) l false) entry e
accepted_fits s ok (event.Heed l) entry e = change_fits s (heed_refused (links_of s.opening) (newest (sight_in s)) l true) (heeding (newest (sight_in s)) l true) entry e
accepted_fits s ok (event.Install kind root) entry e = install_fits s (labelling_next s.opening (sight_in s) kind root) kind entry (install_refusal s.opening (sight_in s) root) e
accepted_fits s ok (event.Renumber kind root) entry e = install_fits s (FromRoot s.opening.labels root) kind entry (install_refusal s.opening (sight_in s) root) e

-- What a node keeps from turn to turn.
use Rattle.std.specs.Prelude.{◌≡◌, ℕ, zero, suc, ◌≤◌, Bool, ◌++◌, ◌∷◌, [], List, Option, Some, None, All, length, map}
use Rattle.std.proofs.Common.{ap, ◌∙◌, sym, refl, subst, arith}
use mathlib.Core.List.{IsPrefix}
use Rattle.std.specs.Prelude.{take, ◌+◌}
use Rattle.std.proofs.lemmas.List.{take-append-le, take_all, length-append}
use Rattle.std.proofs.lemmas.List.Elements.{All-push, All-nil}
use Rattle.std.proofs.Math.Logic.{∥∥₁_elim, ∥∥₁_prop}
use Rattle.ir_model.specs.declared.Hop.{Hop}
use Rattle.ir_core.specs.declared.board.Board.{Board}
use Rattle.ir_core.specs.declared.event.Way.{Way}
use Rattle.ir_core.specs.Sound.{last_of}
use Rattle.ir_links.specs.Ends.{Channel}
use Rattle.ir_epochs.specs.declared.registry.Stamp.{Stamp}
use Rattle.ir_worker.specs.declared.parcel.Place.{Place}
use Rattle.ir_worker.specs.declared.parcel.Outcome.{Outcome}
use Rattle.ir_worker.specs.Seen.{Parcel, GoesTo, HasRoomOf, IsOfNet, net_place, stamps_of}
use Rattle.ir_core.specs.World.{IsNew, InHand}
use Rattle.ir_model.specs.Topology.{Topology}
use Rattle.ir_core.specs.declared.event.Verdict.{Verdict}
use Rattle.ir_epochs.specs.declared.entry.Entry.{Entry}
use Rattle.ir_epochs.specs.Entries.{registry_of, topology_of, IsCurrent, board_of}
use Rattle.ir_epochs.specs.Over.{IsOver}
use Rattle.ir_epochs.specs.Stamps.{knows, registry_name}
use Rattle.ir_worker.specs.Acts.{restamp_on, with_restamp, way_then, GoesOnAs, SettlesAs, CauseHolds}
use Rattle.ir_worker.specs.Outcomes.{IsOutcomeOf, IsCauseKnown}
use Rattle.ir_worker.specs.Account.{lines_in, lines_out, head_of}
use Rattle.ir_worker.specs.Ends.{CameBy}
use Rattle.ir_worker.specs.Wires.{In, Out, TookAt, IsWayAt, AreEndsOf}
use Rattle.ir_worker.proofs.Ways.{place_at}

places_in : (ins : List In) → map (λ (t : In). t.channel.place) ins ≡ map (λ (l : Channel Place). l.place) (lines_in ins)
places_in [] = refl
places_in (t ∷ ins) = ap (λ (xs : List Place). t.channel.place ∷ xs) (places_in ins)

places_out : (outs : List Out) → map (λ (s : Out). s.channel.place) outs ≡ map (λ (l : Channel Place). l.place) (lines_out outs)
places_out [] = refl
places_out (s ∷ outs) = ap (λ (xs : List Place). s.channel.place ∷ xs) (places_out outs)

-- ends of the same channels are the ends of the same node
pub ends_kept : (opening : Stamp) (restamps u : ℕ) (ports : List Hop) (inbox : In) (ins : List In) (outs : List Out) (inbox' : In) (ins' : List In) (outs' : List Out) →
    AreEndsOf opening restamps u ports inbox ins outs → inbox'.channel ≡ inbox.channel → lines_in ins' ≡ lines_in ins → lines_out outs' ≡ lines_out outs → AreEndsOf opening restamps u ports inbox' ins' outs'
ends_kept opening restamps u ports inbox ins outs inbox' ins' outs' k a b c = record {
  node_in = k.node_in;
  few = k.few;
  few_restamps = k.few_restamps;
  all_ports = k.all_ports;
  inbox_place = ap (λ (l : Channel Place). l.place) a ∙ k.inbox_place;
  in_places = places_in ins' ∙ ap (map (λ (l : Channel Place). l.place)) b ∙ sym (places_in ins) ∙ k.in_places;
  out_places = places_out outs' ∙ ap (map (λ (l : Channel Place). l.place)) c ∙ sym (places_out outs) ∙ k.out_places;
}

-- a parcel that was taken goes to the node
pub record IsTakenBy (opening : Stamp) (restamps u : ℕ) (ports : List Hop) (way : Way) (p : Parcel) : Type 0 where
  pub came : CameBy ports u way (last_of p.packet.hops) p.next
  pub of_net : All (λ s. IsOfNet opening s) (stamps_of p.first p.later)
  pub few : length p.packet.restamps ≤ restamps
  pub room : HasRoomOf opening restamps p
  pub is_new : IsNew p.packet (InHand u way)

pub taken_place : (opening : Stamp) (restamps u : ℕ) (ports : List Hop) (inbox : In) (ins : List In) (outs : List Out) → AreEndsOf opening restamps u ports inbox ins outs →
    (inbox' : In) (ins' : List In) (p : Parcel) (k : ℕ) → TookAt inbox ins inbox' ins' p k → (way : Way) → IsWayAt ports way k → IsTakenBy opening restamps u ports way p
taken_place opening restamps u ports inbox ins outs is inbox' ins' p zero took way by =
    let goes : GoesTo p (net_place opening restamps u u) = subst (λ (x : Place). GoesTo p x) is.inbox_place took.2 in
    subst (λ (w : Way). IsTakenBy opening restamps u ports w p) (sym by) (record { came = (goes.last, goes.next); of_net = goes.of_net; few = goes.few; room = goes.room; is_new = goes.fresh refl })
taken_place opening restamps u ports inbox ins outs is inbox' ins' p (suc j) took way by =
    let mine = by.0 in
    let here = place_at (λ (t : In). t.channel.place) ins (λ (h : Hop). net_place opening restamps h.node u) ports is.in_places j mine by.1 took.1.0 took.1.1 in
    let goes : GoesTo p (net_place opening restamps mine.node u) = subst (λ (x : Place). GoesTo p x) here took.1.3 in
    subst (λ (w : Way). IsTakenBy opening restamps u ports w p) (sym by.2) (record { came = (goes.next, (j, mine, by.1, refl, goes.last)); of_net = goes.of_net; few = goes.few; room = goes.room; is_new = tt })

-- outcomes of one net
abbrev AreOfNet : Stamp → ℕ → List Outcome → Type 0
AreOfNet opening restamps outcomes = All (IsOutcomeOf opening restamps) outcomes

pub none_of_net : (opening : Stamp) (restamps : ℕ) (outcomes : List Outcome) → outcomes ≡ [] → ∥ AreOfNet opening restamps outcomes ∥₁
none_of_net opening restamps outcomes e = ∣ subst (λ (xs : List Outcome). AreOfNet opening restamps xs) (sym e) (All-nil (IsOutcomeOf opening restamps)) ∣₁

pub same_of_net : (opening : Stamp) (restamps : ℕ) (outcomes outcomes' : List Outcome) → ∥ AreOfNet opening restamps outcomes ∥₁ → outcomes' ≡ outcomes → ∥ AreOfNet opening restamps outcomes' ∥₁
same_of_net opening restamps outcomes outcomes' is e = subst (λ (xs : List Outcome). ∥ AreOfNet opening restamps xs ∥₁) (sym e) is

pub more_of_net : (opening : Stamp) (restamps : ℕ) (outcomes outcomes' : List Outcome) (o : Outcome) → ∥ AreOfNet opening restamps outcomes ∥₁ → outcomes' ≡ outcomes ++ o ∷ [] →
    (p : Parcel) → All (λ s. IsOfNet opening s) (stamps_of p.first p.later) → length p.packet.restamps ≤ restamps → o.stamp ≡ p.first → o.later.items ≡ p.later → o.packet.restamps ≡ p.packet.restamps → ∥ AreOfNet opening restamps outcomes' ∥₁
more_of_net opening restamps outcomes outcomes' o is e p of few first later same =
    let here : IsOutcomeOf opening restamps o = record {
      of_net = subst (λ (x : List Stamp). All (λ (s : Stamp). IsOfNet opening s) x) (sym (ap (λ (x : Stamp). stamps_of x o.later.items) first ∙ ap (λ (x : List Stamp). stamps_of p.first x) later)) of;
      few = let n : length o.packet.restamps ≡ length p.packet.restamps = ap length same in omega arith;
    } in
    ∥∥₁_elim is ∥∥₁_prop (λ all. ∣ subst (λ (xs : List Outcome). AreOfNet opening restamps xs) (sym e) (All-push (IsOutcomeOf opening restamps) outcomes o all here) ∣₁)

-- the current stamp is of the net
pub current_of_net : (opening : Stamp) (entries : List Entry) (s : Stamp) → IsCurrent entries s → registry_of entries ≡ registry_name opening → topology_of entries ≡ (knows opening).topology → IsOfNet opening s
current_of_net opening entries s is a b =
    (is.registry ∙ a, subst (λ (x : Topology). IsOver x (knows s).topology) b is.over)

-- a restamp changes no head
pub head_with : (x : Option ℕ) (current : Stamp) (way : Way) (u : ℕ) (p : Parcel) → head_of (with_restamp x current way u p).packet ≡ head_of p.packet
head_with None current way u p = refl
head_with (Some e) current way u p = refl

-- what was done by the board that was read
pub goes_by_board : (b b' : Board) (allowed : ℕ) (p : Parcel) (current : Stamp) (way way' : Way) (u : ℕ) (p' : Parcel) (h : Hop) (q : Parcel) → b ≡ b' →
    p' ≡ with_restamp (restamp_on allowed p b way u) current way u p → way' ≡ way_then (restamp_on allowed p b way u) way → GoesOnAs b way' u p' h q →
    GoesOnAs b' (way_then (restamp_on allowed p b' way u) way) u (with_restamp (restamp_on allowed p b' way u) current way u p) h q
goes_by_board b b' allowed p current way way' u p' h q e f g on =
    let here : GoesOnAs b (way_then (restamp_on allowed p b way u) way) u (with_restamp (restamp_on allowed p b way u) current way u p) h q =
    subst (λ (w : Way). GoesOnAs b w u (with_restamp (restamp_on allowed p b way u) current way u p) h q) g (subst (λ (x : Parcel). GoesOnAs b way' u x h q) f on) in
    subst (λ (x : Board). GoesOnAs x (way_then (restamp_on allowed p x way u) way) u (with_restamp (restamp_on allowed p x way u) current way u p) h q) e here

pub settles_by_board : (b b' : Board) (allowed : ℕ) (p : Parcel) (current : Stamp) (way way' : Way) (u : ℕ) (p' : Parcel) (refused : Bool) (v : Verdict) (o : Outcome) → b ≡ b' →
    p' ≡ with_restamp (restamp_on allowed p b way u) current way u p → way' ≡ way_then (restamp_on allowed p b way u) way → SettlesAs b refused way' u p' v o →
    SettlesAs b' refused (way_then (restamp_on allowed p b' way u) way) u (with_restamp (restamp_on allowed p b' way u) current way u p) v o
settles_by_board b b' allowed p current way way' u p' refused v o e f g on =
    let here : SettlesAs b refused (way_then (restamp_on allowed p b way u) way) u (with_restamp (restamp_on allowed p b way u) current way u p) v o =
    subst (λ (w : Way). SettlesAs b refused w u (with_restamp (restamp_on allowed p b way u) current way u p) v o) g (subst (λ (x : Parcel). SettlesAs b refused way' u x v o) f on) in
    subst (λ (x : Board). SettlesAs x refused (way_then (restamp_on allowed p x way u) way) u (with_restamp (restamp_on allowed p x way u) current way u p) v o) e here

-- what is known of a cause stays known
known_later : (old new : List Entry) → IsPrefix old new → (o : Outcome) → IsCauseKnown old o → IsCauseKnown new o
known_later old new p o k =
    let le = k.within in
    let same : take (o.version + 1) new ≡ take (o.version + 1) old = ap (take (o.version + 1)) (sym p.1) ∙ take-append-le (o.version + 1) old p.0 le in
    let longer : length (old ++ p.0) ≡ length new = ap length p.1 in
    record {
      within = omega (arith, length-append old p.0);
      holds = subst (λ (xs : List Entry). CauseHolds (board_of xs) o.packet o.packet.fate) (sym same) k.holds;
    }

abbrev AreCausesKnown : List Entry → List Outcome → Type 0
AreCausesKnown entries outcomes = All (IsCauseKnown entries) outcomes

pub no_causes : (entries : List Entry) (outcomes : List Outcome) → outcomes ≡ [] → ∥ AreCausesKnown entries outcomes ∥₁
no_causes entries outcomes e = ∣ subst (λ (xs : List Outcome). AreCausesKnown entries xs) (sym e) (All-nil (IsCauseKnown entries)) ∣₁

pub causes_later : (old new : List Entry) (outcomes outcomes' : List Outcome) → ∥ AreCausesKnown old outcomes ∥₁ → IsPrefix old new → outcomes' ≡ outcomes → ∥ AreCausesKnown new outcomes' ∥₁
causes_later old new outcomes outcomes' is p e =
    ∥∥₁_elim is ∥∥₁_prop (λ all. ∣ subst (λ (xs : List Outcome). AreCausesKnown new xs) (sym e) (λ k d lt. known_later old new p _ (all k d lt)) ∣₁)

pub causes_same : (entries : List Entry) (outcomes outcomes' : List Outcome) → ∥ AreCausesKnown entries outcomes ∥₁ → outcomes' ≡ outcomes → ∥ AreCausesKnown entries outcomes' ∥₁
causes_same entries outcomes outcomes' is e = subst (λ (xs : List Outcome). ∥ AreCausesKnown entries xs ∥₁) (sym e) is

pub causes_more : (old new : List Entry) (outcomes outcomes' : List Outcome) (o : Outcome) → ∥ AreCausesKnown old outcomes ∥₁ → IsPrefix old new → outcomes' ≡ outcomes ++ o ∷ [] → o.version + 1 ≡ length new →
    CauseHolds (board_of new) o.packet o.packet.fate → ∥ AreCausesKnown new outcomes' ∥₁
causes_more old new outcomes outcomes' o is p e version holds =
    let all_of : take (o.version + 1) new ≡ new = take_all (o.version + 1) new (omega arith) in
    let here : IsCauseKnown new o = record {
      within = omega arith;
      holds = subst (λ (xs : List Entry). CauseHolds (board_of xs) o.packet o.packet.fate) (sym all_of) holds;
    } in
    ∥∥₁_elim is ∥∥₁_prop (λ all. ∣ subst (λ (xs : List Outcome). AreCausesKnown new xs) (sym e)
    (All-push (IsCauseKnown new) outcomes o (λ k d lt. known_later old new p _ (all k d lt)) here) ∣₁)

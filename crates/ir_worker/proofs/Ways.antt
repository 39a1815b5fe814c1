-- Steps on a node's ends: their channels, their counts, and the way of what was taken.
use Rattle.std.specs.Prelude.{◌≡◌, ◌≢◌, ℕ, zero, suc, ◌-◌, ◌<◌, ◌≤◌, ◌++◌, ◌∷◌, [], List, Option, Some, None, MatchOption, IfNone, All, length, map, slice_get, slice_set, option_map}
use Rattle.std.proofs.Common.{ap, ◌∙◌, sym, refl, subst, get_or, arith}
use Rattle.std.proofs.Math.Seq.{map-set_same}
use Rattle.std.proofs.lemmas.List.{set-get_or, length-map}
use Rattle.std.proofs.lemmas.Option.{slice_get_read, slice_get-map, same_Some}
use Rattle.ir_model.specs.declared.Hop.{Hop}
use Rattle.ir_core.specs.Sound.{last_of}
use Rattle.ir_links.specs.Ends.{WasEmpty, FoundNone, Word}
use Rattle.ir_epochs.specs.declared.registry.Stamp.{Stamp}
use Rattle.ir_worker.specs.declared.parcel.Place.{Place}
use Rattle.ir_worker.specs.Seen.{Parcel, GoesTo, HasRoomOf, IsOfNet, net_place, stamps_of}
use Rattle.ir_worker.specs.Account.{lines_in, lines_out}
use Rattle.ir_worker.specs.Wires.{In, Out, WasEmptyAt, after_taking, after_sending, TookAt, SentOver}

-- an end that was used is of the channel that it was of
pub lines_out_kept : (outs : List Out) (i : ℕ) (new old : Out) → old ≡ get_or outs i old → new.channel ≡ old.channel → lines_out (slice_set outs i new) ≡ lines_out outs
lines_out_kept outs i new old read same = map-set_same (λ s. s.channel) outs i new old (same ∙ ap (λ s. s.channel) read)

pub lines_in_kept : (ins : List In) (i : ℕ) (new old : In) → old ≡ get_or ins i old → new.channel ≡ old.channel → lines_in (slice_set ins i new) ≡ lines_in ins
lines_in_kept ins i new old read same = map-set_same (λ s. s.channel) ins i new old (same ∙ ap (λ s. s.channel) read)

pub set_kept : {A : Type 0} (ins : List A) (i : ℕ) (new old : A) → old ≡ get_or ins i old → new ≡ old → slice_set ins i new ≡ ins
set_kept {A = A} ins i new old read same = ap (λ t. slice_set ins i t) (same ∙ read) ∙ set-get_or ins i old

-- what a port gave
took_from : (inbox : In) (ins : List In) (w : ℕ) (new old : In) (p : Parcel) → w ≢ 0 → slice_get ins (w - 1) ≡ Some old → new ≡ after_taking old p → GoesTo p old.channel.place →
    TookAt inbox ins inbox (slice_set ins (w - 1) new) p w
took_from inbox ins zero new old p some at took goes = absurd (some refl)
took_from inbox ins (suc j) new old p some at took goes =
    let same : suc j - 1 ≡ j = omega arith in
    (refl, (old, ap (λ k. slice_get ins k) (sym same) ∙ at, ap (λ k. slice_set ins k new) same ∙ ap (λ t. slice_set ins j t) took, goes))

pub took_port : (inbox : In) (ins : List In) (w : ℕ) (new old : In) (answer : Option Parcel) → w ≢ 0 → w - 1 < length ins → old ≡ get_or ins (w - 1) old →
    MatchOption answer ((new ≡ old) × WasEmpty GoesTo old) (λ p. (new ≡ record old { taken = old.taken ++ p ∷ [] }) × GoesTo p old.channel.place) →
    MatchOption answer ((inbox ≡ inbox) × (slice_set ins (w - 1) new ≡ ins)) (λ p. TookAt inbox ins inbox (slice_set ins (w - 1) new) p w)
took_port inbox ins w new old None some lt read h = (refl, set_kept ins (w - 1) new old read h.0)
took_port inbox ins w new old (Some p) some lt read h = took_from inbox ins w new old p some (slice_get_read ins (length ins) (w - 1) old refl lt read) h.0 h.1

-- a port gave nothing since its pop was refused
pub empty_port : (was_empty : Word Parcel) (inbox : In) (ins : List In) (w : ℕ) (old : In) (answer : Option Parcel) → w ≢ 0 → w - 1 < length ins → old ≡ get_or ins (w - 1) old → IfNone answer (FoundNone was_empty GoesTo old) →
    IfNone answer (WasEmptyAt was_empty inbox ins w)
empty_port was_empty inbox ins w old (Some p) some lt read found = tt
empty_port was_empty inbox ins zero old None some lt read found = absurd (some refl)
empty_port was_empty inbox ins (suc j) old None some lt read found =
    let same : suc j - 1 ≡ j = omega arith in
    (old, ap (λ k. slice_get ins k) (sym same) ∙ slice_get_read ins (length ins) (suc j - 1) old refl lt read, found)

-- the place of an end at a port
pub place_at : {A : Type 0} (place : A → Place) (ends : List A) (f : Hop → Place) (ports : List Hop) → map place ends ≡ map f ports → (j : ℕ) (h : Hop) → slice_get ports j ≡ Some h → (s : A) → slice_get ends j ≡ Some s → place s ≡ f h
place_at {A = A} place ends f ports same j h at s there =
    same_Some (place s) (f h) (ap (λ (o : Option A). option_map place o) (sym there) ∙ sym (slice_get-map place ends j) ∙ ap (λ (xs : List Place). slice_get xs j) same ∙ slice_get-map f ports j ∙ ap (λ (o : Option Hop). option_map f o) at)

pub as_many : {A : Type 0} (place : A → Place) (ends : List A) (f : Hop → Place) (ports : List Hop) → map place ends ≡ map f ports → length ends ≡ length ports
as_many place ends f ports same = sym (length-map ends place) ∙ ap length same ∙ length-map ports f

-- one parcel more was sent
pub sent_over : (ports : List Hop) (outs : List Out) (j : ℕ) (h : Hop) (old new : Out) (q : Parcel) → slice_get ports j ≡ Some h → j < length outs → old ≡ get_or outs j old → new ≡ after_sending old q →
    SentOver ports outs (slice_set outs j new) h q
sent_over ports outs j h old new q at lt read sent = (j, old, at, slice_get_read outs (length outs) j old refl lt read, ap (λ (s : Out). slice_set outs j s) sent)

-- what a node sends over a port goes to the port's place
pub goes_out : (opening : Stamp) (restamps u : ℕ) (ports : List Hop) (outs : List Out) → map (λ (x : Out). x.channel.place) outs ≡ map (λ (h : Hop). net_place opening restamps u h.node) ports →
    (p q : Parcel) → All (λ s. IsOfNet opening s) (stamps_of p.first p.later) → length p.packet.restamps ≤ restamps → HasRoomOf opening restamps p → (h : Hop) (j : ℕ) (out : Out) → (u ≡ h.node → ⊥) →
    q.first ≡ p.first → q.later ≡ p.later → q.packet.restamps ≡ p.packet.restamps → q.packet.room ≡ p.packet.room → last_of q.packet.hops ≡ u → q.next ≡ h.node → slice_get ports j ≡ Some h → j < length outs → out ≡ get_or outs j out → GoesTo q out.channel.place
goes_out opening restamps u ports outs places p q of few roomy h j out apart first later same kept last next at lt read =
    let there : slice_get outs j ≡ Some out = slice_get_read outs (length outs) j out refl lt read in
    let here : out.channel.place ≡ net_place opening restamps u h.node = place_at (λ (x : Out). x.channel.place) outs (λ (h : Hop). net_place opening restamps u h.node) ports places j h at out there in
    let goes : GoesTo q (net_place opening restamps u h.node) = record {
      last = last;
      next = next;
      of_net = subst (λ (x : List Stamp). All (λ (s : Stamp). IsOfNet opening s) x) (sym (ap (λ (x : Stamp). stamps_of x q.later) first ∙ ap (λ (x : List Stamp). stamps_of p.first x) later)) of;
      few = let e : length q.packet.restamps ≡ length p.packet.restamps = ap length same in omega arith;
      room = kept ∙ roomy;
      fresh = λ e. absurd (apart e);
    } in
    subst (λ (place : Place). GoesTo q place) (sym here) goes

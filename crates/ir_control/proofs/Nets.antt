-- Stamps and boards of one net.
use Rattle.std.specs.Prelude.{◌≡◌, ℕ, ◌+◌, ◌<◌, ◌≤◌, Bool, true, List, [], ◌∷◌, ◌++◌, fold, length, slice_set, option_map, take}
use Rattle.std.proofs.Common.{refl, arith, sym, ap, ◌∙◌, subst, length-set, get_or, length-take-le}
use Rattle.std.proofs.lemmas.List.{length-replicate}
use Rattle.std.proofs.lemmas.Option.{slice_get-map, slice_get_read}
use Rattle.ir_model.specs.Topology.{Topology, restrict}
use Rattle.ir_core.specs.declared.TheConstants.{MAX_LINKS}
use Rattle.ir_core.specs.declared.board.Board.{Board}
use Rattle.ir_core.specs.Board.{opening_board, links_used}
use Rattle.ir_core.proofs.Used.{length_both}
use Rattle.ir_epochs.specs.declared.registry.Stamp.{Stamp}
use Rattle.ir_epochs.specs.declared.entry.Change.{Change}
use Rattle.ir_epochs.specs.declared.entry.Change.TheVariants.{Install, Retire, Down, Up, Avoid, Heed}
use Rattle.ir_epochs.specs.declared.entry.Entry.{Entry}
use Rattle.ir_epochs.specs.declared.entry.Entry.TheVariants.{Opened, Changed}
use Rattle.ir_epochs.specs.Entries.{registry_of, topology_of, board_of, entered, changed, MayComeNext}
use Rattle.ir_epochs.specs.Over.{IsOver}
use Rattle.ir_epochs.specs.Stamps.{knows, registry_name}
use Rattle.ir_links.specs.Ends.{Sender, Word, WasRefused}
use Rattle.std.specs.Prelude.{false, All, zero, suc, Some, slice_get}
use Rattle.std.proofs.lemmas.List.{set-get_or}
use Rattle.ir_worker.specs.declared.parcel.Place.{Place}
use Rattle.ir_worker.specs.Seen.{Parcel, HasRoomOf, IsOfNet, GoesTo, net_place, stamps_of}
use Rattle.ir_control.specs.Whole.{IsParcelOf}
use Rattle.ir_worker.specs.Account.{lines_out}
use Rattle.ir_core.specs.Sound.{last_of}
use Rattle.ir_control.specs.Outs.{AreEntryEnds, SentTo, IsSent}
use Rattle.std.proofs.Math.Seq.{map-set_same}

-- a board has a mark of both sorts for each number that a link may have
abbrev IsMarked : Board → Type 0
IsMarked b = (length b.up ≡ MAX_LINKS) × (length b.heeded ≡ MAX_LINKS)

changed_marks : (b : Board) (c : Change) → IsMarked b → IsMarked (changed b c)
changed_marks b (Install s) h = h
changed_marks b (Retire f) h = h
changed_marks b (Down l) h = (length-set b.up l _ ∙ h.0, h.1)
changed_marks b (Up l) h = (length-set b.up l _ ∙ h.0, h.1)
changed_marks b (Avoid l) h = (h.0, length-set b.heeded l _ ∙ h.1)
changed_marks b (Heed l) h = (h.0, length-set b.heeded l _ ∙ h.1)

opening_marks : IsMarked opening_board
opening_marks = (length-replicate {A = Bool} MAX_LINKS true, length-replicate {A = Bool} MAX_LINKS true)

marks_from : (b : Board) (entries : List Entry) → IsMarked b → IsMarked (fold entered b entries)
marks_from b [] h = h
marks_from b (Opened links s ∷ entries) h = marks_from opening_board entries opening_marks
marks_from b (Changed c ∷ entries) h = marks_from (changed b c) entries (changed_marks b c h)

marks_len : (entries : List Entry) → IsMarked (board_of entries)
marks_len entries = marks_from opening_board entries opening_marks

-- an end that is at a place is of that place's line
pub place_of_end : (o : Stamp) (restamps : ℕ) (outs : List (Sender Place Parcel)) (u : ℕ) (s : Sender Place Parcel) → AreEntryEnds o restamps (lines_out outs) → slice_get outs u ≡ Some s
    → s.channel.place ≡ net_place o restamps u u
place_of_end o restamps outs u s ends got =
    ends.each u s.channel (slice_get-map (λ (s : Sender Place Parcel). s.channel) outs u ∙ ap (option_map (λ (s : Sender Place Parcel). s.channel)) got)

pub goes_in : (o : Stamp) (restamps u : ℕ) (p : Parcel) (place : Place) → place ≡ net_place o restamps u u → p.next ≡ u → p.packet.hops ≡ u ∷ [] → IsParcelOf o p → p.packet.restamps ≡ [] → HasRoomOf o restamps p → GoesTo p place
goes_in o restamps u p place at next hops of fresh room = subst (λ (place : Place). GoesTo p place) (sym at) (record {
  last = ap last_of hops;
  next = next;
  of_net = of;
  few = (let n = ap length fresh in omega (arith, n));
  room = room;
  fresh = λ _. fresh;
})

pub parcel_of_net : (o : Stamp) (p : Parcel) (s : Stamp) → p.first ≡ s → p.later ≡ [] → IsOfNet o s → IsParcelOf o p
parcel_of_net o p s first later of =
    subst (λ (t : Stamp). All (λ s. IsOfNet o s) (stamps_of t p.later)) (sym first)
    (subst (λ (l : List Stamp). All (λ s. IsOfNet o s) (stamps_of s l)) (sym later) (single of)) where
      single : IsOfNet o s → All (λ s. IsOfNet o s) (s ∷ [])
      single of = λ k d lt. go k d lt
        where
          go : (k : ℕ) (d : Stamp) → k < 1 → IsOfNet o (get_or (s ∷ []) k d)
          go zero d lt = of
          go (suc k) d lt = absurd (omega (arith, lt))

pub lines_kept : (outs : List (Sender Place Parcel)) (i : ℕ) (new old : Sender Place Parcel) → old ≡ get_or outs i old → new.channel ≡ old.channel
    → lines_out (slice_set outs i new) ≡ lines_out outs
lines_kept outs i new old read same = map-set_same (λ (s : Sender Place Parcel). s.channel) outs i new old (same ∙ ap (λ (s : Sender Place Parcel). s.channel) read)

pub sent_by : (outs : List (Sender Place Parcel)) (u : ℕ) (s new : Sender Place Parcel) (x : Parcel) → u < length outs → s ≡ get_or outs u s
    → new ≡ record s { sent = s.sent ++ x ∷ [] } → SentTo outs (slice_set outs u new) u x
sent_by outs u s new x lt read e = (s, slice_get_read outs (length outs) u s refl lt read, ap (slice_set outs u) e)

-- the links that installs use are some of the links
over_used : (net : Topology) (b : Board) → IsMarked b → length net.links ≤ MAX_LINKS → IsOver net (restrict (links_used b (length net.links)) net)
over_used net b h few =
    let a = length-take-le (length net.links) b.up (omega (arith, h.0, few)) in
    let k = length-take-le (length net.links) b.heeded (omega (arith, h.1, few)) in
    ∣ (links_used b (length net.links), length_both (take (length net.links) b.up) (take (length net.links) b.heeded) (a ∙ sym k) ∙ a, refl) ∣₁

-- an install fits
pub fits_install : (o s : Stamp) (entries : List Entry) (used : ℕ) → (board_of entries).current ≤ used → s.epoch ≡ used + 1 → registry_name s ≡ registry_name o → registry_of entries ≡ registry_name o
    → topology_of entries ≡ (knows o).topology → length (knows o).topology.links ≤ MAX_LINKS
    → (knows s).topology ≡ restrict (links_used (board_of entries) (length (knows o).topology.links)) (knows o).topology
    → MayComeNext entries (Install s)
fits_install o s entries used below epoch registry same topology few made = (
  (let e = epoch in omega (arith, below, e)),
  registry ∙ sym same,
  subst (λ (net : Topology). IsOver net (knows s).topology) (sym topology)
      (subst (λ (net : Topology). IsOver (knows o).topology net) (sym made)
      (over_used (knows o).topology (board_of entries) (marks_len entries) few)),
)

-- an end whose push was refused is as it was
pub not_sent_by : (was_full : Word Parcel) (outs : List (Sender Place Parcel)) (u : ℕ) (s new : Sender Place Parcel) (x : Parcel) → u < length outs → s ≡ get_or outs u s
    → new ≡ s → WasRefused was_full GoesTo s → IsSent was_full outs (slice_set outs u new) u x false
not_sent_by was_full outs u s new x lt read e full =
    (ap (slice_set outs u) (e ∙ read) ∙ set-get_or outs u s, (s, slice_get_read outs (length outs) u s refl lt read, full))

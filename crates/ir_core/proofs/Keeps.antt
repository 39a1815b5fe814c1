use Rattle.std.proofs.Common.{◌≡◌, ◌≢◌, ℕ, zero, suc, ◌+◌, ◌-◌, ◌<◌, ◌≤◌, List, [], ◌∷◌, ◌++◌, length, drop, slice_get, slice_index, slice_index_or, slice_set, Option, Some, None, refl, sym, ap, ◌∙◌, subst, arith, true, false, Bool, cond, nat_lt, ◌⊎◌, inl, inr}
use Rattle.std.proofs.lemmas.Grind.{common_steps}
use Rattle.std.proofs.lemmas.List.{length-set, length-append, get_or_push, length_push, get_or_read, get_or_append_left}
use Rattle.std.proofs.lemmas.Option.{none-some, slice_get_read, get_or_from_slice_get}
use Rattle.ir_model.specs.declared.Hop.{Hop}
use Rattle.ir_model.specs.Plan.{Plan, next_hop, label_in, node_in}
use Rattle.ir_model.proofs.Graphs.{none_from_is_some}
use Rattle.std.specs.List.{AllByRecursion}
use Rattle.ir_core.specs.declared.TheConstants.{MAX_CHANGES, MAX_EPOCHS, MAX_RESTAMPS}
use Rattle.ir_core.specs.declared.packet.Fate.TheVariants.{Retired}
use Rattle.ir_core.specs.declared.event.Ruling.{Ruling}
use Rattle.ir_core.specs.declared.event.Way.{Way}
use Rattle.ir_core.specs.declared.event.Way.TheVariants.{Inbox, Link}
use Rattle.ir_core.specs.declared.event.Verdict.{Verdict}
use Rattle.ir_core.specs.declared.event.Verdict.TheVariants.{CameByDown, BelowFloor, Arrives, LeavesByDown, NoRoom, GoesOn}
use Rattle.ir_core.specs.declared.board.Board.{Board}
use Rattle.ir_core.specs.Record.{Record, hop_room, segments, present, stamp_of}
use Rattle.ir_core.specs.declared.packet.Held.{Held}
use Rattle.ir_core.specs.Board.{opening_board, installed}
use Rattle.ir_model.specs.Topology.{node_count}
use Rattle.ir_core.specs.Recorded.{HasRoomHere}
use Rattle.ir_core.specs.Setting.{Setting, IsPlanFor, channel_of, into, no_plan, nodes_of}
use Rattle.ir_core.specs.Entry.{Entry, DidInject, DidAct, DidTake, ruled, restamp_by, fresh, judged, reply_after}
use Rattle.ir_core.specs.declared.event.Reply.{Reply}
use Rattle.ir_core.specs.declared.event.Reply.TheVariants.{Injected, Settled, Taken}
use Rattle.ir_core.specs.declared.event.Refused.{Refused}
use Rattle.ir_core.specs.declared.event.Refused.TheVariants.{HandFull, Empty, InboxFull}
use Rattle.std.specs.Prelude.{Result, Ok, Err, nat_le, is_some}
use Rattle.ir_core.specs.Meaning.{plan_of, newest_of, record_at, board_at, verdict_on, ruling_by, ruling_on, is_full_towards, acts, takes, injects}
use Rattle.ir_core.specs.World.{World, IsWorld, IsBoard, ArePlaced, IsPacket, IsRoutedRecord, IsStretch, IsNew, Place, Waits, InHand, put_into, taken_from, sent_on, sight_in, open_verdict_on, LeadsIn, IsBeginning, IsDue, FitsPlace, IsAnswer, after}
use Rattle.ir_core.proofs.Channels.{channel_within, into_is, hop_leads}
use Rattle.ir_core.proofs.Lists.{or_set}
use Rattle.ir_core.specs.Sound.{last_of}
use Rattle.ir_core.proofs.Walks.{next_hop-away, next_hop-none, walk_of, IsBeginning-push, first-push, prefix}
use Rattle.ir_core.proofs.Verdicts.{Means, judged_means, IsLive, judged_live, if_full, judged-if_full}
use Rattle.ir_core.proofs.Routed.{RuledBy, present_stretch, ruled_packet, retired_here, hops_fit}
use Rattle.ir_core.proofs.Placed.{moved, place_after, placed_inject, placed_take, ended, sent}

-- what is true of a world, with these places
abbrev pub KeptWith : World → (ℕ → Place) → Type 0
KeptWith s place = (kept : IsWorld s) × ((id : ℕ) → kept.place id ≡ place id)

pub keep_read_place : (s : World) (ok : IsWorld s) → (u k : ℕ) → u < (nodes_of s.opening) → k < length s.boards → KeptWith (record s { views = slice_set s.views u k }) ok.place
keep_read_place s ok u k u_in k_in = (
  record {
    opening = ok.opening;
    views = length-set s.views u k ∙ ok.views;
    hands = ok.hands;
    channels = ok.channels;
    boards = ok.boards;
    plans = ok.plans;
    views_in = λ v. view_of v (or_set s.views u v k 0 (omega (arith, ok.views)));
    learnt_above = ok.learnt_above;
    learnt_in = ok.learnt_in;
    few_packets = ok.few_packets;
    place = ok.place;
    placed = ok.placed;
  },
  λ id. refl,
)
  where
    view_of : (v : ℕ) → ((v ≡ u) × (slice_index_or (slice_set s.views u k) v 0 ≡ k)) ⊎ ((v ≢ u) × (slice_index_or (slice_set s.views u k) v 0 ≡ slice_index_or s.views v 0)) → slice_index (slice_set s.views u k) v < length s.boards
    view_of v (inl p) = rw p.1 k_in
    view_of v (inr p) = rw p.1 (ok.views_in v)

newest-push : (boards : List Board) (b : Board) → newest_of (boards ++ b ∷ []) ≡ b
newest-push boards b = rw length_push (get_or_push boards b opening_board (length boards + 1 - 1) (omega arith))

-- a board more among those that are right
pub board_each : (epochs : ℕ) (boards : List Board) (b : Board) → ((k : ℕ) → IsBoard epochs (slice_index_or boards k opening_board)) → IsBoard epochs b → (k : ℕ) → IsBoard epochs (slice_index_or (boards ++ b ∷ []) k opening_board)
board_each epochs [] b each is zero = is
board_each epochs [] b each is (suc k) = each k
board_each epochs (x ∷ boards) b each is zero = each zero
board_each epochs (x ∷ boards) b each is (suc k) = board_each epochs boards b (λ j. each (suc j)) is k

pub keep_change : (s : World) → IsWorld s → (b : Board) → b.version ≡ (newest_of s.boards).version + 1 → (newest_of s.boards).version < MAX_CHANGES →
    b.current ≡ (newest_of s.boards).current → b.floor ≤ b.current → IsWorld (record s { boards = s.boards ++ b ∷ [] })
keep_change s ok b version room current floor = record {
  opening = ok.opening;
  views = ok.views;
  hands = ok.hands;
  channels = ok.channels;
  boards = record {
    some = rw length_push (omega arith);
    version = rw (newest-push s.boards b) (rw length_push (let v = ok.boards.version in omega arith));
    few = rw (newest-push s.boards b) (omega arith);
    current = rw (newest-push s.boards b) (current ∙ ok.boards.current);
    floor = rw (newest-push s.boards b) (let c = ok.boards.current in omega arith);
    each = board_each (length s.plans) s.boards b ok.boards.each (record { live = floor; current = let c = ok.boards.current in omega arith });
  };
  plans = ok.plans;
  views_in = λ u. let v = ok.views_in u in rw length_push (omega arith);
  learnt_above = ok.learnt_above;
  learnt_in = ok.learnt_in;
  few_packets = ok.few_packets;
  place = ok.place;
  placed = ok.placed;
}

pub keep_take_place : (s : World) (ok : IsWorld s) (u : ℕ) (way : Way) (c id : ℕ) → u < (nodes_of s.opening) → channel_of s.opening u way ≡ Some c → slice_get (slice_index_or s.channels c []) 0 ≡ Some id → slice_index_or s.hands u None ≡ None →
    KeptWith (record s { hands = slice_set s.hands u (Some (record { id = id; way = way })); channels = taken_from s.channels c }) (moved ok.place id (InHand u way))
keep_take_place s ok u way c id u_in there first empty =
    let c_in = channel_within s.opening u way c u_in there in (
      record {
        opening = ok.opening;
        views = ok.views;
        hands = length-set s.hands u (Some (record { id = id; way = way })) ∙ ok.hands;
        channels = length-set s.channels c (drop 1 (slice_index_or s.channels c [])) ∙ ok.channels;
        boards = ok.boards;
        plans = ok.plans;
        views_in = ok.views_in;
        learnt_above = ok.learnt_above;
        learnt_in = ok.learnt_in;
        few_packets = ok.few_packets;
        place = moved ok.place id (InHand u way);
        placed = placed_take s.opening s.plans s.hands s.channels s.records ok.place u way c id ok.placed u_in (omega (arith, ok.hands)) (omega (arith, ok.channels)) there first empty;
      },
      λ j. refl,
    )

pub keep_take : (s : World) → IsWorld s → (u : ℕ) (way : Way) (c id : ℕ) → u < (nodes_of s.opening) → channel_of s.opening u way ≡ Some c → slice_get (slice_index_or s.channels c []) 0 ≡ Some id → slice_index_or s.hands u None ≡ None →
    IsWorld (record s { hands = slice_set s.hands u (Some (record { id = id; way = way })); channels = taken_from s.channels c })
keep_take s ok u way c id u_in there first empty = (keep_take_place s ok u way c id u_in there first empty).0

pub keep_inject : (s : World) → IsWorld s → (source dest : ℕ) → source < (nodes_of s.opening) → dest < (nodes_of s.opening) → length s.records < s.opening.max_packets →
    IsWorld (record s { channels = put_into s.channels source (length s.records); records = s.records ++ fresh (length s.records) s.learnt source dest (hop_room s.opening.restamps (nodes_of s.opening)) ∷ [] })
keep_inject s ok source dest s_in d_in room = record {
  opening = ok.opening;
  views = ok.views;
  hands = ok.hands;
  channels = length-set s.channels source (slice_index_or s.channels source [] ++ length s.records ∷ []) ∙ ok.channels;
  boards = ok.boards;
  plans = ok.plans;
  views_in = ok.views_in;
  learnt_above = ok.learnt_above;
  learnt_in = ok.learnt_in;
  few_packets = rw length_push (omega arith);
  place = moved ok.place (length s.records) (Waits source Inbox);
  placed = placed_inject s.opening s.plans s.hands s.channels s.records ok.place s.learnt source dest ok.placed s_in d_in ok.learnt_above ok.learnt_in (omega (arith, ok.channels));
}

pub newest_known : (s now : World) → s ≡ now → (b : Board) → b ≡ newest_of now.boards → b ≡ newest_of s.boards
newest_known s now e b n = n ∙ ap (λ (x : World). newest_of x.boards) (sym e)

-- the same as keep_take, from what the code read
pub keep_take_at : (s : World) → IsWorld s → (u : ℕ) (way : Way) (c id : ℕ) (seen was now : List ℕ) → u < (nodes_of s.opening) → Some c ≡ channel_of s.opening u way →
    seen ≡ slice_index_or s.channels c seen → Some id ≡ slice_get seen 0 → was ≡ slice_index_or s.channels c was → now ≡ drop 1 was → (hand : Option Held) → hand ≡ slice_index_or s.hands u hand → is_some hand ≡ false →
    IsWorld (record s { hands = slice_set s.hands u (Some (record { id = id; way = way })); channels = slice_set s.channels c now })
keep_take_at s ok u way c id seen was now u_in there read first read_again left hand hand_is none =
    let c_in = channel_within s.opening u way c u_in (sym there) in
    let lt : c < length s.channels = omega (arith, ok.channels) in
    let held : seen ≡ slice_index_or s.channels c [] = get_or_read s.channels c seen lt read [] in
    let again : was ≡ slice_index_or s.channels c [] = get_or_read s.channels c was lt read_again [] in
    let empty : slice_index_or s.hands u None ≡ None = sym (get_or_read s.hands u hand (omega (arith, ok.hands)) hand_is None) ∙ none_from_is_some hand none in
    rw (left, again) (keep_take s ok u way c id u_in (sym there) (ap (λ (l : List ℕ). slice_get l 0) (sym held) ∙ sym first) empty)

-- what a Take comes to, from what the code read
pub take_done : (s now : World) → s ≡ now → IsWorld s → (u : ℕ) (way : Way) (c id : ℕ) (seen was left : List ℕ) → u < nodes_of s.opening → Some c ≡ channel_of s.opening u way →
    seen ≡ slice_index_or s.channels c seen → Some id ≡ slice_get seen 0 → was ≡ slice_index_or s.channels c was → left ≡ drop 1 was → (hand : Option Held) → hand ≡ slice_index_or s.hands u hand → is_some hand ≡ false →
    IsAnswer now (record s { hands = slice_set s.hands u (Some (record { id = id; way = way })); channels = slice_set s.channels c left }) (takes now.opening (sight_in now) u way) (Ok (Taken id))
take_done s now e ok u way c id seen was left u_in there read first read_again is_left hand hand_is none =
    let c_in = channel_within s.opening u way c u_in (sym there) in
    let lt : c < length s.channels = omega (arith, ok.channels) in
    let held : seen ≡ slice_index_or s.channels c [] = get_or_read s.channels c seen lt read [] in
    let again : was ≡ slice_index_or s.channels c [] = get_or_read s.channels c was lt read_again [] in
    let empty : slice_index_or s.hands u None ≡ None = sym (get_or_read s.hands u hand (omega (arith, ok.hands)) hand_is None) ∙ none_from_is_some hand none in
    let within : nat_lt u (nodes_of s.opening) ≡ true = grind (arith, common_steps) in
    let top : slice_get (slice_index_or s.channels c []) 0 ≡ Some id = ap (λ (l : List ℕ). slice_get l 0) (sym held) ∙ sym first in
    let number : into s.opening u way ≡ c = into_is s.opening u way c (sym there) in
    let new = record s { hands = slice_set s.hands u (Some (record { id = id; way = way })); channels = slice_set s.channels c left } in
    let comes : takes s.opening (sight_in s) u way ≡ Ok (DidTake u way id) = rw (within, ← there, empty, top) refl in
    let to : new ≡ after s (DidTake u way id) = rw (number, is_left, again) refl in
    subst (λ (x : World). IsAnswer x new (takes x.opening (sight_in x) u way) (Ok (Taken id))) e
    (subst (λ (w : Result Entry Refused). IsAnswer s new w (Ok (Taken id))) (sym comes) (refl, to))

-- a Take by a node that holds a packet, from what the code read
pub take_held : (s now : World) → s ≡ now → IsWorld s → (u : ℕ) (way : Way) (c : ℕ) → u < nodes_of s.opening → Some c ≡ channel_of s.opening u way → (hand : Option Held) → hand ≡ slice_index_or s.hands u hand → is_some hand ≡ true →
    IsAnswer now now (takes now.opening (sight_in now) u way) (Err HandFull)
take_held s now e ok u way c u_in there hand hand_is some =
    let held : is_some (slice_index_or s.hands u None) ≡ true = ap (λ (h : Option Held). is_some h) (sym (get_or_read s.hands u hand (omega (arith, ok.hands)) hand_is None)) ∙ some in
    let within : nat_lt u (nodes_of s.opening) ≡ true = grind (arith, common_steps) in
    let comes : takes s.opening (sight_in s) u way ≡ Err HandFull = rw (within, ← there, held) refl in
    subst (λ (x : World). IsAnswer x x (takes x.opening (sight_in x) u way) (Err HandFull)) e
    (subst (λ (w : Result Entry Refused). IsAnswer s s w (Err HandFull)) (sym comes) (refl, refl))

-- a Take of an empty channel, from what the code read
pub take_empty : (s now : World) → s ≡ now → IsWorld s → (u : ℕ) (way : Way) (c : ℕ) (seen : List ℕ) → u < nodes_of s.opening → Some c ≡ channel_of s.opening u way →
    seen ≡ slice_index_or s.channels c seen → None ≡ slice_get seen 0 → (hand : Option Held) → hand ≡ slice_index_or s.hands u hand → is_some hand ≡ false →
    IsAnswer now now (takes now.opening (sight_in now) u way) (Err Empty)
take_empty s now e ok u way c seen u_in there read first hand hand_is none =
    let c_in = channel_within s.opening u way c u_in (sym there) in
    let lt : c < length s.channels = omega (arith, ok.channels) in
    let waits : slice_get (slice_index_or s.channels c []) 0 ≡ None = ap (λ (l : List ℕ). slice_get l 0) (sym (get_or_read s.channels c seen lt read [])) ∙ sym first in
    let empty : slice_index_or s.hands u None ≡ None = sym (get_or_read s.hands u hand (omega (arith, ok.hands)) hand_is None) ∙ none_from_is_some hand none in
    let within : nat_lt u (nodes_of s.opening) ≡ true = grind (arith, common_steps) in
    let comes : takes s.opening (sight_in s) u way ≡ Err Empty = rw (within, ← there, empty, waits) refl in
    subst (λ (x : World). IsAnswer x x (takes x.opening (sight_in x) u way) (Err Empty)) e
    (subst (λ (w : Result Entry Refused). IsAnswer s s w (Err Empty)) (sym comes) (refl, refl))

-- a new record of this world, from what the code read
pub fresh_in : (s : World) (id source dest : ℕ) (new : Record) (room nodes : ℕ) → new ≡ fresh id s.learnt source dest room → room ≡ hop_room s.opening.restamps nodes → nodes ≡ nodes_of s.opening →
    new ≡ fresh id s.learnt source dest (hop_room s.opening.restamps (nodes_of s.opening))
fresh_in s id source dest new room nodes made much count = made ∙ ap (fresh id s.learnt source dest) (much ∙ ap (hop_room s.opening.restamps) count)

-- the same as keep_inject, from what the code read
pub keep_inject_at : (s : World) → IsWorld s → (source dest id : ℕ) (new : Record) (was now : List ℕ) (mid records : List Record) → source < nodes_of s.opening → dest < nodes_of s.opening →
    length s.records < s.opening.max_packets → id ≡ length s.records → new ≡ fresh id s.learnt source dest (hop_room s.opening.restamps (nodes_of s.opening)) → was ≡ slice_index_or s.channels source was → now ≡ was ++ id ∷ [] →
    mid ≡ s.records → records ≡ mid ++ new ∷ [] → IsWorld (record s { channels = slice_set s.channels source now; records = records })
keep_inject_at s ok source dest id new was now mid records s_in d_in room is_id one read put same pushed =
    let lt : source < length s.channels = omega (arith, ok.channels) in
    let again : was ≡ slice_index_or s.channels source [] = get_or_read s.channels source was lt read [] in
    rw (pushed, put, again, same, one, is_id) (keep_inject s ok source dest s_in d_in room)

-- what an Inject comes to, from what the code read
pub inject_done : (s now : World) → s ≡ now → IsWorld s → (source dest id : ℕ) (new : Record) (was left : List ℕ) (mid records : List Record) → source < nodes_of s.opening → dest < nodes_of s.opening →
    length s.records < s.opening.max_packets → length was < s.opening.capacity → id ≡ length s.records → new ≡ fresh id s.learnt source dest (hop_room s.opening.restamps (nodes_of s.opening)) → was ≡ slice_index_or s.channels source was → left ≡ was ++ id ∷ [] →
    mid ≡ s.records → records ≡ mid ++ new ∷ [] →
    IsAnswer now (record s { channels = slice_set s.channels source left; records = records }) (injects now.opening (sight_in now) source dest) (Ok (Injected id))
inject_done s now e ok source dest id new was left mid records s_in d_in room spare is_id one read put same pushed =
    let lt : source < length s.channels = omega (arith, ok.channels) in
    let again : was ≡ slice_index_or s.channels source [] = get_or_read s.channels source was lt read [] in
    let known : nat_lt source (nodes_of s.opening) ≡ true = grind (arith, common_steps) in
    let known_too : nat_lt dest (nodes_of s.opening) ≡ true = grind (arith, common_steps) in
    let few : nat_le s.opening.max_packets (length s.records) ≡ false = grind (arith, common_steps) in
    let count = ap (λ (l : List ℕ). length l) again in
    let free : nat_le s.opening.capacity (length (slice_index_or s.channels source [])) ≡ false = grind (arith, common_steps) in
    let comes : injects s.opening (sight_in s) source dest ≡ Ok (DidInject (length s.records) s.learnt source dest (hop_room s.opening.restamps (nodes_of s.opening))) = rw (known, known_too, few, free) refl in
    let after_it = record s { channels = slice_set s.channels source left; records = records } in
    let to : after_it ≡ after s (DidInject (length s.records) s.learnt source dest (hop_room s.opening.restamps (nodes_of s.opening))) = rw (pushed, put, again, same, one, is_id) refl in
    subst (λ (x : World). IsAnswer x after_it (injects x.opening (sight_in x) source dest) (Ok (Injected id))) e
    (subst (λ (w : Result Entry Refused). IsAnswer s after_it w (Ok (Injected id))) (sym comes) (ap (λ (n : ℕ). Ok (Injected n)) is_id, to))

-- an Inject where the inbox is full, from what the code read
pub inject_full : (s now : World) → s ≡ now → IsWorld s → (source dest : ℕ) (was : List ℕ) (mid : List Record) → source < nodes_of s.opening → dest < nodes_of s.opening →
    length s.records < s.opening.max_packets → s.opening.capacity ≤ length was → was ≡ slice_index_or s.channels source was → mid ≡ s.records →
    IsAnswer now (record s { records = mid }) (injects now.opening (sight_in now) source dest) (Err InboxFull)
inject_full s now e ok source dest was mid s_in d_in room full read same =
    let lt : source < length s.channels = omega (arith, ok.channels) in
    let count = ap (λ (l : List ℕ). length l) (get_or_read s.channels source was lt read []) in
    let known : nat_lt source (nodes_of s.opening) ≡ true = grind (arith, common_steps) in
    let known_too : nat_lt dest (nodes_of s.opening) ≡ true = grind (arith, common_steps) in
    let few : nat_le s.opening.max_packets (length s.records) ≡ false = grind (arith, common_steps) in
    let filled : nat_le s.opening.capacity (length (slice_index_or s.channels source [])) ≡ true = grind (arith, common_steps) in
    let comes : injects s.opening (sight_in s) source dest ≡ Err InboxFull = rw (known, known_too, few, filled) refl in
    subst (λ (x : World). IsAnswer x (record s { records = mid }) (injects x.opening (sight_in x) source dest) (Err InboxFull)) e
    (subst (λ (w : Result Entry Refused). IsAnswer s (record s { records = mid }) w (Err InboxFull)) (sym comes) (refl, rw same refl))

-- what is known of the packet in a node's hand
pub record InHandOf (s : World) (u : ℕ) (held : Held) (r : Record) : Type 0 where
  pub id_in : held.id < length s.records
  pub is_record : slice_get s.records held.id ≡ Some r
  pub packet : IsPacket s.opening s.plans r (InHand u held.way)

pub in_hand_of : (s now : World) → s ≡ now → IsWorld s → (u : ℕ) (held : Held) → slice_index_or now.hands u None ≡ Some held → (r : Record) → r ≡ slice_index_or s.records held.id r → InHandOf s u held r
in_hand_of s now e ok u held h r read =
    let holds : slice_index_or s.hands u None ≡ Some held = ap (λ (x : World). slice_index_or x.hands u None) e ∙ h in
    let q = ok.placed.held u held holds in
    let is_record = slice_get_read s.records (length s.records) held.id r refl q.0 read in
    record {
      id_in = q.0;
      is_record = is_record;
      packet = subst (λ (x : Place). IsPacket s.opening s.plans r x) q.1 (ok.placed.each held.id r is_record);
    }

pub held_read : (s now : World) → s ≡ now → IsWorld s → (u : ℕ) (held : Held) → slice_index_or now.hands u None ≡ Some held → (r : Record) → r ≡ slice_index_or s.records held.id r → record_at (sight_in now) held.id ≡ r
held_read s now e ok u held h r read =
    let there = (in_hand_of s now e ok u held h r read).is_record in
    ap (λ (x : World). record_at (sight_in x) held.id) (sym e) ∙ (rw there refl)

pub held_in : (s now : World) → s ≡ now → IsWorld s → (u : ℕ) (held : Held) → slice_index_or now.hands u None ≡ Some held → held.id < length s.records
held_in s now e ok u held h = (ok.placed.held u held (ap (λ (x : World). slice_index_or x.hands u None) e ∙ h)).0

-- the plan of an epoch, from what the code read
pub plan_known : (s now : World) → s ≡ now → IsWorld s → (e : ℕ) (t : Plan) → t ≡ plan_of now.opening now.plans e → (t ≡ plan_of s.opening s.plans e) × IsPlanFor s.opening t
plan_known s now known ok e t is =
    let same : t ≡ plan_of s.opening s.plans e = is ∙ ap (λ (x : World). plan_of x.opening x.plans e) (sym known) in
    (same, subst (λ (x : Plan). IsPlanFor s.opening x) (sym same) (ok.plans.each (e - 1)))

-- the destination's label leads back to it
pub label_back : (o : Setting) (t : Plan) → IsPlanFor o t → (d address : ℕ) → d < nodes_of o → address ≡ label_in t d → (address < node_count t.topology) × (node_in t address ≡ d)
label_back o t k d address d_in is =
    let here : d < node_count t.topology = omega (arith, k.nodes) in
    let there = k.plan.labels.label d here in
    (omega arith, ap (λ (x : ℕ). node_in t x) is ∙ k.plan.labels.there d here)

record_read : (s : World) (id : ℕ) (r : Record) → slice_get s.records id ≡ Some r → record_at (sight_in s) id ≡ r
record_read s id r e = rw e refl

-- the open verdict, from what the code read
pub open_read : (s now : World) → s ≡ now → IsWorld s → (u : ℕ) (way : Way) (stamp dest : ℕ) (t : Plan) (b : Board) (v : Verdict) (address : ℕ) → dest < nodes_of now.opening →
    t ≡ plan_of now.opening now.plans stamp → b ≡ board_at (sight_in now) (slice_index now.views u) → address ≡ label_in t dest →
    v ≡ judged t b (λ _. false) way u stamp (node_in t address) → v ≡ open_verdict_on now u way stamp dest
open_read s now e ok u way stamp dest t b v address d_in t_read b_read labelled is =
    let plan = plan_known s now e ok stamp t t_read in
    let n = ap (λ (x : World). nodes_of x.opening) e in
    let home = (label_back s.opening t plan.1 dest address (omega arith) labelled).1 in
    is ∙ ap (λ (x : ℕ). judged t b (λ _. false) way u stamp x) home ∙ ap (λ (x : Plan). judged x b (λ _. false) way u stamp dest) t_read
    ∙ ap (λ (x : Board). judged (plan_of now.opening now.plans stamp) x (λ _. false) way u stamp dest) b_read

-- no hop means the destination
none_means : (o : Setting) (t : Plan) (u d : ℕ) → IsPlanFor o t → u < nodes_of o → d < nodes_of o → next_hop t u d ≡ None → u ≡ d
none_means o t u d k u_in d_in e = next_hop-none t k.plan u d (omega (arith, k.nodes)) (omega (arith, k.nodes)) e

away_from : (o : Setting) (t : Plan) → IsPlanFor o t → (d : ℕ) → d < nodes_of o → (x : ℕ) (h : Hop) → next_hop t x d ≡ Some h → x ≢ d
away_from o t k d d_in x h e = next_hop-away t k.plan x d (omega (arith, k.nodes)) h e

-- where a packet that goes on leads to
abbrev pub LeadsFar : World → Verdict → Type 0
LeadsFar s (GoesOn h) = (h.node < nodes_of s.opening) × ((c : ℕ) × (channel_of s.opening h.node (Link h.link) ≡ Some c) × (c < length s.channels))
LeadsFar s (CameByDown l) = Unit {0}
LeadsFar s BelowFloor = Unit {0}
LeadsFar s Arrives = Unit {0}
LeadsFar s (LeavesByDown l) = Unit {0}
LeadsFar s (NoRoom h) = Unit {0}

leads_by : (s : World) → IsWorld s → (t : Plan) → IsPlanFor s.opening t → (full : Hop → Bool) (u : ℕ) (way : Way) (d : ℕ) (v : Verdict) → Means t full u way d v → LeadsFar s v
leads_by s ok t plan full u way d (GoesOn h) m =
    let k = hop_leads s.opening t plan u d h m.0 in
    let within = channel_within s.opening h.node (Link h.link) k.1.0 k.0 k.1.1 in
    (k.0, (k.1.0, k.1.1, omega (arith, ok.channels, within)))
leads_by s ok t plan full u way d (CameByDown l) m = tt
leads_by s ok t plan full u way d BelowFloor m = tt
leads_by s ok t plan full u way d Arrives m = tt
leads_by s ok t plan full u way d (LeavesByDown l) m = tt
leads_by s ok t plan full u way d (NoRoom h) m = tt

leads_near : (s : World) (v : Verdict) → LeadsFar s v → LeadsIn s v
leads_near s (GoesOn h) k = k.1
leads_near s (CameByDown l) k = tt
leads_near s BelowFloor k = tt
leads_near s Arrives k = tt
leads_near s (LeavesByDown l) k = tt
leads_near s (NoRoom h) k = tt

-- what a board says of the packet's epoch, or of the one that it is restamped with
abbrev pub IsLiveBy : Board → Record → Option ℕ → Verdict → Type 0
IsLiveBy b r None v = IsLive b (stamp_of r) v
IsLiveBy b r (Some e) v = (stamp_of r < b.floor) × (b.floor ≤ e)

-- what the ruling on the packet in hand says
pub record Acting (s : World) (u : ℕ) (held : Held) (r : Record) (full : Hop → Bool) (b : Board) (restamp : Option ℕ) (v : Verdict) : Type 0 where
  pub hand : InHandOf s u held r
  pub by : RuledBy s.opening s.plans full r u held.way restamp v
  pub live : IsLiveBy b r restamp v
  pub node_in : u < (nodes_of s.opening)

-- a verdict of a node means what it says
verdict_means : (s : World) → IsWorld s → (u : ℕ) (way : Way) (stamp dest : ℕ) (full : Hop → Bool) (b : Board) → u < nodes_of s.opening → dest < nodes_of s.opening →
    Means (plan_of s.opening s.plans stamp) full u way dest (judged (plan_of s.opening s.plans stamp) b full way u stamp dest)
verdict_means s ok u way stamp dest full b u_in d_in =
    judged_means (plan_of s.opening s.plans stamp) b full way u stamp dest (none_means s.opening (plan_of s.opening s.plans stamp) u dest (ok.plans.each (stamp - 1)) u_in d_in)

-- and so does a ruling
ruling_means : (s : World) → IsWorld s → (u : ℕ) (way : Way) (r : Record) → u < nodes_of s.opening → r.dest < nodes_of s.opening → (v : Verdict) →
    Means (plan_of s.opening s.plans (stamp_of r)) (is_full_towards s.opening (sight_in s)) u way r.dest v → IsLive (board_at (sight_in s) (slice_index s.views u)) (stamp_of r) v →
    (x : Ruling) → x ≡ ruling_by s.opening (sight_in s) u r.dest v (restamp_by (s.opening.restamps - length r.restamps) (board_at (sight_in s) (slice_index s.views u)).current v) →
    RuledBy s.opening s.plans (is_full_towards s.opening (sight_in s)) r u way x.restamp x.verdict × IsLiveBy (board_at (sight_in s) (slice_index s.views u)) r x.restamp x.verdict
ruling_means s ok u way r u_in d_in v m l x is = subst IsRight (sym is) (by_verdict v m l)
  where
    full : Hop → Bool
    full = is_full_towards s.opening (sight_in s)

    b : Board
    b = board_at (sight_in s) (slice_index s.views u)

    IsRight : Ruling → Type 0
    IsRight y = RuledBy s.opening s.plans (is_full_towards s.opening (sight_in s)) r u way y.restamp y.verdict × IsLiveBy (board_at (sight_in s) (slice_index s.views u)) r y.restamp y.verdict

    by_left : (t : Bool) → nat_lt 0 (s.opening.restamps - length r.restamps) ≡ t → stamp_of r < (board_at (sight_in s) (slice_index s.views u)).floor →
        IsRight (ruling_by s.opening (sight_in s) u r.dest BelowFloor (cond t (Some (board_at (sight_in s) (slice_index s.views u)).current) None))
    by_left true left below =
        let board = ok.boards.each (slice_index s.views u) in
        let live = board.live in
        let within = board.current in
        let some : 0 < s.opening.restamps - length r.restamps = grind (arith, common_steps) in
        ((omega arith, within, omega arith, verdict_means s ok u Inbox (board_at (sight_in s) (slice_index s.views u)).current r.dest (is_full_towards s.opening (sight_in s)) (board_at (sight_in s) (slice_index s.views u)) u_in d_in), (below, live))
    by_left false left below = (tt, below)

    by_verdict : (w : Verdict) → Means (plan_of s.opening s.plans (stamp_of r)) (is_full_towards s.opening (sight_in s)) u way r.dest w → IsLive (board_at (sight_in s) (slice_index s.views u)) (stamp_of r) w →
        IsRight (ruling_by s.opening (sight_in s) u r.dest w (restamp_by (s.opening.restamps - length r.restamps) (board_at (sight_in s) (slice_index s.views u)).current w))
    by_verdict BelowFloor m l = by_left (nat_lt 0 (s.opening.restamps - length r.restamps)) refl l
    by_verdict (CameByDown k) m l = (m, l)
    by_verdict Arrives m l = (m, l)
    by_verdict (LeavesByDown k) m l = (m, l)
    by_verdict (NoRoom h) m l = (m, l)
    by_verdict (GoesOn h) m l = (m, l)

pub dest_in : (s : World) → IsWorld s → (r : Record) → IsRoutedRecord s.opening s.plans r → r.dest < nodes_of s.opening
dest_in s ok r k = (present_stretch s.opening s.plans ok.plans.each r k).dest_in

pub acting_of : (s : World) → IsWorld s → (u : ℕ) (held : Held) (r : Record) (x : Ruling) → InHandOf s u held r → u < (nodes_of s.opening) →
    x ≡ ruling_on s.opening (sight_in s) u held.way r → Acting s u held r (is_full_towards s.opening (sight_in s)) (board_at (sight_in s) (slice_index s.views u)) x.restamp x.verdict
acting_of s ok u held r x p u_in e =
    let d_in = dest_in s ok r p.packet.routed in
    let full = is_full_towards s.opening (sight_in s) in
    let b = board_at (sight_in s) (slice_index s.views u) in
    let k = ruling_means s ok u held.way r u_in d_in (verdict_on s.opening (sight_in s) u held.way (stamp_of r) r.dest)
    (verdict_means s ok u held.way (stamp_of r) r.dest full b u_in d_in) (judged_live (plan_of s.opening s.plans (stamp_of r)) b full held.way u (stamp_of r) r.dest) x e in
    record { hand = p; by = k.0; live = k.1; node_in = u_in }

-- a packet that goes on is led by the table of some epoch
goes_by : (o : Setting) (plans : List Plan) (full : Hop → Bool) (r : Record) (u : ℕ) (way : Way) (restamp : Option ℕ) (h : Hop) → RuledBy o plans full r u way restamp (GoesOn h) →
    (e : ℕ) × (next_hop (plan_of o plans e) u r.dest ≡ Some h) × (full h ≡ false)
goes_by o plans full r u way None h by = (stamp_of r, by.0, by.1)
goes_by o plans full r u way (Some e) h by = (e, by.3.0, by.3.1)

pub leads_to : (s : World) → IsWorld s → (u : ℕ) (held : Held) (r : Record) (full : Hop → Bool) (b : Board) (restamp : Option ℕ) (v : Verdict) → Acting s u held r full b restamp v → LeadsFar s v
leads_to s ok u held r full b None v a = leads_by s ok (plan_of s.opening s.plans (stamp_of r)) (ok.plans.each (stamp_of r - 1)) full u held.way r.dest v a.by
leads_to s ok u held r full b (Some e) v a = leads_by s ok (plan_of s.opening s.plans e) (ok.plans.each (e - 1)) full u Inbox r.dest v a.by.3

pub leads_in : (s : World) → IsWorld s → (u : ℕ) (held : Held) (r : Record) (full : Hop → Bool) (b : Board) (restamp : Option ℕ) (v : Verdict) → Acting s u held r full b restamp v → LeadsIn s v
leads_in s ok u held r full b restamp v a = leads_near s v (leads_to s ok u held r full b restamp v a)

pub open_leads : (s now : World) → s ≡ now → IsWorld s → (u : ℕ) (way : Way) (stamp dest : ℕ) (v : Verdict) → u < nodes_of now.opening → dest < nodes_of now.opening → v ≡ open_verdict_on now u way stamp dest → LeadsIn now v
open_leads s now e ok u way stamp dest v u_in d_in is =
    let n = ap (λ (x : World). nodes_of x.opening) e in
    let here : v ≡ open_verdict_on s u way stamp dest = is ∙ ap (λ (x : World). open_verdict_on x u way stamp dest) (sym e) in
    let t = plan_of s.opening s.plans stamp in
    let m = verdict_means s ok u way stamp dest (λ _. false) (board_at (sight_in s) (slice_index s.views u)) (omega arith) (omega arith) in
    let leads : LeadsIn s (open_verdict_on s u way stamp dest) = leads_near s _ (leads_by s ok t (ok.plans.each (stamp - 1)) (λ _. false) u way dest _ m) in
    subst (λ (x : World). LeadsIn x v) e (subst (λ (x : Verdict). LeadsIn s x) (sym here) leads)

pub verdict_from_open : (s : World) (u : ℕ) (way : Way) (stamp dest : ℕ) (v : Verdict) → v ≡ open_verdict_on s u way stamp dest →
    if_full (is_full_towards s.opening (sight_in s)) v ≡ verdict_on s.opening (sight_in s) u way stamp dest
verdict_from_open s u way stamp dest v e =
    ap (if_full (is_full_towards s.opening (sight_in s))) e ∙ sym (judged-if_full (plan_of s.opening s.plans stamp) (board_at (sight_in s) (slice_index s.views u)) (is_full_towards s.opening (sight_in s)) way u stamp dest)

-- where the table led a packet on, its hops are fewer than the nodes
pub hops_below : (o : Setting) (t : Plan) (r : Record) (u l : ℕ) → IsPlanFor o t → r.source < nodes_of o → r.dest < nodes_of o → slice_get r.hops 0 ≡ Some r.source → IsBeginning t r.dest r.hops → IsDue t r u (Link l) → length r.hops < nodes_of o
hops_below o t r u l k s_in d_in first from due =
    let more = IsBeginning-push t r.dest r.hops u from (away_from o t k r.dest d_in (last_of r.hops) due.0 due.1) (due.0, due.1, due.3) in
    let w = k.plan.walks r.source r.dest (omega (arith, k.nodes)) (omega (arith, k.nodes)) in
    let walk = walk_of t r.source r.dest w.0 w.1 in
    let p = prefix t r.dest (r.hops ++ u ∷ []) w.0 r.source (first-push r.hops r.source u first) walk.begins more walk.steps in
    let lengths = ap length p.1 in
    omega (arith, w.2, k.nodes, length-append (r.hops ++ u ∷ []) p.0, length-append r.hops (u ∷ []), lengths)

-- a record has room for one more hop, where the packet came by a link
short_by : (o : Setting) (plans : List Plan) → ((k : ℕ) → IsPlanFor o (slice_index_or plans k o.first)) → 0 < nodes_of o → (u : ℕ) (way : Way) (r : Record) → IsRoutedRecord o plans r →
    IsDue (plan_of o plans (stamp_of r)) (present r) u way → IsNew r (InHand u way) → HasRoomHere way r
short_by o plans each some u Inbox r k due new = tt
short_by o plans each some u (Link l) r k due new =
    let more = retired_here o plans each u (Link l) r k due new in
    let fit = hops_fit o plans each (record r { hops = r.hops ++ u ∷ []; fate = Retired }) some more in
    let longer = length-append r.hops (u ∷ []) in
    omega (arith, k.room, fit, longer)

pub short : (s : World) → IsWorld s → (u : ℕ) (held : Held) (r : Record) → InHandOf s u held r → HasRoomHere held.way r
short s ok u held r p =
    short_by s.opening s.plans ok.plans.each ok.opening.some_nodes u held.way r p.packet.routed p.packet.fits.1 p.packet.is_new

-- and so do its restamps, where there is another
pub restamps_short : (s : World) → IsWorld s → (u : ℕ) (held : Held) (r : Record) (full : Hop → Bool) (b : Board) (restamp : Option ℕ) (v : Verdict) → Acting s u held r full b restamp v →
    (e : ℕ) → restamp ≡ Some e → length r.restamps < MAX_RESTAMPS
restamps_short s ok u held r full b None v a e is = absurd (none-some e is)
restamps_short s ok u held r full b (Some x) v a e is = let lt = a.by.2 in let most = ok.opening.restamps in omega arith

-- the world after an Act
pub keep_act_place : (s : World) (ok : IsWorld s) (u : ℕ) (held : Held) (r : Record) (full : Hop → Bool) (b : Board) (restamp : Option ℕ) (v : Verdict) → slice_index_or s.hands u None ≡ Some held → Acting s u held r full b restamp v →
    KeptWith (record s { hands = slice_set s.hands u None; channels = sent_on s.opening s.channels v held.id; records = slice_set s.records held.id (ruled u held.way restamp v r) }) (moved ok.place held.id (place_after v))
keep_act_place s ok u held r full b restamp v holds a = (
  record {
    opening = ok.opening;
    views = ok.views;
    hands = length-set s.hands u None ∙ ok.hands;
    channels = same_channels v ∙ ok.channels;
    boards = ok.boards;
    plans = ok.plans;
    views_in = ok.views_in;
    learnt_above = ok.learnt_above;
    learnt_in = ok.learnt_in;
    few_packets = rw length-set ok.few_packets;
    place = moved ok.place held.id (place_after v);
    placed = placed_after v (ruled u held.way restamp v r) (ruled_packet s.opening s.plans ok.plans.each full u held.way restamp v r a.node_in a.hand.packet a.by) (leads_to s ok u held r full b restamp v a);
  },
  λ j. refl,
)
  where
    u_in : u < length s.hands
    u_in = let n = a.node_in in omega (arith, ok.hands)

    same_channels : (w : Verdict) → length (sent_on s.opening s.channels w held.id) ≡ length s.channels
    same_channels (GoesOn h) = length-set s.channels (into s.opening h.node (Link h.link)) _
    same_channels (CameByDown l) = refl
    same_channels BelowFloor = refl
    same_channels Arrives = refl
    same_channels (LeavesByDown l) = refl
    same_channels (NoRoom h) = refl

    placed_after : (w : Verdict) (made : Record) → IsPacket s.opening s.plans made (place_after w) → LeadsFar s w →
        ArePlaced s.opening s.plans (slice_set s.hands u None) (sent_on s.opening s.channels w held.id) (slice_set s.records held.id made) (moved ok.place held.id (place_after w))
    placed_after (GoesOn h) made now to =
        subst (λ (c : ℕ). ArePlaced s.opening s.plans (slice_set s.hands u None) (put_into s.channels c held.id) (slice_set s.records held.id made) (moved ok.place held.id (place_after (GoesOn h))))
        (sym (into_is s.opening h.node (Link h.link) to.1.0 to.1.1))
        (sent s.opening s.plans s.hands s.channels s.records ok.place u held (GoesOn h) made ok.placed u_in holds now h to.1.0 refl to.0 to.1.1 to.1.2)
    placed_after (CameByDown l) made now to = ended s.opening s.plans s.hands s.channels s.records ok.place u held (CameByDown l) made ok.placed u_in holds now refl
    placed_after BelowFloor made now to = ended s.opening s.plans s.hands s.channels s.records ok.place u held BelowFloor made ok.placed u_in holds now refl
    placed_after Arrives made now to = ended s.opening s.plans s.hands s.channels s.records ok.place u held Arrives made ok.placed u_in holds now refl
    placed_after (LeavesByDown l) made now to = ended s.opening s.plans s.hands s.channels s.records ok.place u held (LeavesByDown l) made ok.placed u_in holds now refl
    placed_after (NoRoom h) made now to = ended s.opening s.plans s.hands s.channels s.records ok.place u held (NoRoom h) made ok.placed u_in holds now refl

pub keep_act : (s : World) → IsWorld s → (u : ℕ) (held : Held) (r : Record) (full : Hop → Bool) (b : Board) (restamp : Option ℕ) (v : Verdict) → slice_index_or s.hands u None ≡ Some held → Acting s u held r full b restamp v →
    IsWorld (record s { hands = slice_set s.hands u None; channels = sent_on s.opening s.channels v held.id; records = slice_set s.records held.id (ruled u held.way restamp v r) })
keep_act s ok u held r full b restamp v holds a = (keep_act_place s ok u held r full b restamp v holds a).0

pub acting_now : (s now : World) → s ≡ now → IsWorld s → (u : ℕ) (held : Held) (r : Record) (x : Ruling) → slice_index_or now.hands u None ≡ Some held → r ≡ slice_index_or s.records held.id r → u < (nodes_of s.opening) →
    x ≡ ruling_on now.opening (sight_in now) u held.way (record_at (sight_in now) held.id) →
    Acting s u held r (is_full_towards s.opening (sight_in s)) (board_at (sight_in s) (slice_index s.views u)) x.restamp x.verdict
acting_now s now e ok u held r x holds read u_in is =
    let p = in_hand_of s now e ok u held holds r read in
    let here : x ≡ ruling_on s.opening (sight_in s) u held.way (record_at (sight_in s) held.id) =
    is ∙ ap (λ (y : World). ruling_on y.opening (sight_in y) u held.way (record_at (sight_in y) held.id)) (sym e) in
    let known : x ≡ ruling_on s.opening (sight_in s) u held.way r = here ∙ ap (λ (y : Record). ruling_on s.opening (sight_in s) u held.way y) (record_read s held.id r p.is_record) in
    acting_of s ok u held r x p u_in known

-- the channel that a packet is sent into
pub sent_within : (s : World) → IsWorld s → (u : ℕ) (held : Held) (r : Record) (b : Board) (restamp : Option ℕ) (v : Verdict) (h : Hop) (c : ℕ) → Acting s u held r (is_full_towards s.opening (sight_in s)) b restamp v → v ≡ GoesOn h →
    c ≡ into s.opening h.node (Link h.link) → c < length s.channels
sent_within s ok u held r b restamp v h c acting goes is =
    let to = leads_to s ok u held r (is_full_towards s.opening (sight_in s)) b restamp (GoesOn h) (subst (λ (w : Verdict). Acting s u held r (is_full_towards s.opening (sight_in s)) b restamp w) goes acting) in
    let number : c ≡ to.1.0 = is ∙ into_is s.opening h.node (Link h.link) to.1.0 to.1.1 in
    let within = to.1.2 in
    omega arith

pub room_for : (s : World) → IsWorld s → (u : ℕ) (held : Held) (r : Record) (b : Board) (restamp : Option ℕ) (v : Verdict) (h : Hop) (c : ℕ) (q : List ℕ) → Acting s u held r (is_full_towards s.opening (sight_in s)) b restamp v → v ≡ GoesOn h →
    c ≡ into s.opening h.node (Link h.link) → q ≡ slice_index_or s.channels c q → (c < length s.channels) × (length q < s.opening.capacity) × (q ≡ slice_index_or s.channels c [])
room_for s ok u held r b restamp v h c q acting goes is read =
    let a : Acting s u held r (is_full_towards s.opening (sight_in s)) b restamp (GoesOn h) = subst (λ (w : Verdict). Acting s u held r (is_full_towards s.opening (sight_in s)) b restamp w) goes acting in
    let to = leads_to s ok u held r (is_full_towards s.opening (sight_in s)) b restamp (GoesOn h) a in
    let number : c ≡ to.1.0 = is ∙ into_is s.opening h.node (Link h.link) to.1.0 to.1.1 in
    let within = to.1.2 in
    let c_in : c < length s.channels = omega arith in
    let old : q ≡ slice_index_or s.channels c [] = get_or_read s.channels c q c_in read [] in
    let unfilled : nat_le s.opening.capacity (length (slice_index_or s.channels c [])) ≡ false = rw is (goes_by s.opening s.plans (is_full_towards s.opening (sight_in s)) r u held.way restamp h a.by).2 in
    let few : length (slice_index_or s.channels c []) < s.opening.capacity = grind (arith, common_steps) in
    (c_in, rw old (omega arith), old)

unsent : (o : Setting) (channels : List (List ℕ)) (v : Verdict) (id : ℕ) → ((h : Hop) → v ≡ GoesOn h → ⊥) → (sent_on o channels v id ≡ channels) × (reply_after id v ≡ Settled id)
unsent o channels (GoesOn h) id n = absurd (n h refl)
unsent o channels (CameByDown l) id n = (refl, refl)
unsent o channels BelowFloor id n = (refl, refl)
unsent o channels Arrives id n = (refl, refl)
unsent o channels (LeavesByDown l) id n = (refl, refl)
unsent o channels (NoRoom h) id n = (refl, refl)

-- what an Act comes to
pub acts_is : (now : World) (u : ℕ) (held : Held) (x : Ruling) → u < (nodes_of now.opening) → slice_index_or now.hands u None ≡ Some held →
    x ≡ ruling_on now.opening (sight_in now) u held.way (record_at (sight_in now) held.id) → acts now.opening (sight_in now) u ≡ Ok (DidAct u held.id held.way x.restamp x.verdict)
acts_is now u held x u_in holds is =
    let t : nat_lt u (nodes_of now.opening) ≡ true = grind (arith, common_steps) in
    rw (t, holds) (ap (λ (y : Ruling). Ok (DidAct u held.id held.way y.restamp y.verdict)) (sym is))

answer_of : (now new : World) (x y : Result Entry Refused) (result : Result Reply Refused) → x ≡ y → IsAnswer now new y result → IsAnswer now new x result
answer_of now new x y result e a = subst (λ (z : Result Entry Refused). IsAnswer now new z result) (sym e) a

-- the world after an Act, from what the code read and wrote
abbrev pub acted_world : World → ℕ → ℕ → Record → List (List ℕ) → World
acted_world s u id r channels = record s { hands = slice_set s.hands u None; channels = channels; records = slice_set s.records id r }

acted_is : (s : World) → IsWorld s → (u : ℕ) (held : Held) (r : Record) (restamp : Option ℕ) (v : Verdict) (r' : Record) (channels : List (List ℕ)) → InHandOf s u held r →
    r' ≡ ruled u held.way restamp v r → channels ≡ sent_on s.opening s.channels v held.id → acted_world s u held.id r' channels ≡ after s (DidAct u held.id held.way restamp v)
acted_is s ok u held r restamp v r' channels p e f =
    let same : r ≡ slice_index_or s.records held.id (fresh held.id 0 0 0 0) = sym (get_or_from_slice_get s.records held.id r (fresh held.id 0 0 0 0) p.is_record) in
    rw (e, f) (ap (λ (x : Record). acted_world s u held.id (ruled u held.way restamp v x) (sent_on s.opening s.channels v held.id)) same)

-- an Act is answered, and the invariant holds after it
pub act_done : (s now : World) → s ≡ now → IsWorld s → (u : ℕ) (held : Held) (r : Record) (x : Ruling) (r' : Record) (channels : List (List ℕ)) (reply : Reply) → slice_index_or now.hands u None ≡ Some held → r ≡ slice_index_or s.records held.id r → u < (nodes_of s.opening) →
    x ≡ ruling_on now.opening (sight_in now) u held.way (record_at (sight_in now) held.id) → r' ≡ ruled u held.way x.restamp x.verdict r → channels ≡ sent_on s.opening s.channels x.verdict held.id → reply ≡ reply_after held.id x.verdict →
    IsWorld (acted_world s u held.id r' channels) × IsAnswer now (acted_world s u held.id r' channels) (acts now.opening (sight_in now) u) (Ok reply)
act_done s now e ok u held r x r' channels reply holds read u_in is wrote sends says =
    let a = acting_now s now e ok u held r x holds read u_in is in
    let here : slice_index_or s.hands u None ≡ Some held = ap (λ (y : World). slice_index_or y.hands u None) e ∙ holds in
    let kept : IsWorld (acted_world s u held.id r' channels) = rw (wrote, sends) (keep_act s ok u held r (is_full_towards s.opening (sight_in s)) (board_at (sight_in s) (slice_index s.views u)) x.restamp x.verdict here a) in
    let n : u < (nodes_of now.opening) = let m = ap (λ (y : World). nodes_of y.opening) e in omega arith in
    let to : acted_world s u held.id r' channels ≡ after now (DidAct u held.id held.way x.restamp x.verdict) =
    acted_is s ok u held r x.restamp x.verdict r' channels a.hand wrote sends ∙ ap (λ (y : World). after y (DidAct u held.id held.way x.restamp x.verdict)) e in
    (kept, answer_of now _ _ (Ok (DidAct u held.id held.way x.restamp x.verdict)) (Ok reply) (acts_is now u held x n holds is) (ap (λ (y : Reply). Ok y) says, to))

pub not_sent : (s : World) (u : ℕ) (held : Held) (v : Verdict) → ((h : Hop) → v ≡ GoesOn h → ⊥) → (s.channels ≡ sent_on s.opening s.channels v held.id) × (Settled held.id ≡ reply_after held.id v)
not_sent s u held v n = let q = unsent s.opening s.channels v held.id n in (sym q.0, sym q.1)

pub hand_read : (s now : World) → s ≡ now → IsWorld s → (u : ℕ) (x : Option Held) (held : Held) → u < (nodes_of s.opening) → x ≡ slice_index_or s.hands u x → x ≡ Some held → slice_index_or now.hands u None ≡ Some held
hand_read s now e ok u x held u_in read is =
    let known : x ≡ slice_index_or s.hands u None = get_or_read s.hands u x (omega (arith, ok.hands)) read None in
    ap (λ (y : World). slice_index_or y.hands u None) (sym e) ∙ sym known ∙ is

-- what the channels are after a put, from what the code read and wrote
pub put_read : (s : World) → IsWorld s → (u : ℕ) (held : Held) (r : Record) (b : Board) (restamp : Option ℕ) (v : Verdict) (h : Hop) (c : ℕ) (q q' : List ℕ) → Acting s u held r (is_full_towards s.opening (sight_in s)) b restamp v → v ≡ GoesOn h →
    c ≡ into s.opening h.node (Link h.link) → q ≡ slice_index_or s.channels c q → q' ≡ q ++ held.id ∷ [] → slice_set s.channels c q' ≡ sent_on s.opening s.channels v held.id
put_read s ok u held r b restamp v h c q q' a goes is read put =
    let old = (room_for s ok u held r b restamp v h c q a goes is read).2 in
    rw (put, old, goes) (ap (λ (x : ℕ). put_into s.channels x held.id) is)

-- a new plan changes no table that a packet goes by
table_more : (o : Setting) (plans : List Plan) (t : Plan) (e : ℕ) → 0 < e → e ≤ length plans → plan_of o (plans ++ t ∷ []) e ≡ plan_of o plans e
table_more o plans t e above within = get_or_append_left plans (t ∷ []) o.first (e - 1) (omega arith)

stretch_more : (o : Setting) (plans : List Plan) (t : Plan) (g : Record) → IsStretch o plans g → IsStretch o (plans ++ t ∷ []) g
stretch_more o plans t g k =
    let e_in = k.epoch_in in
    record {
      source_in = k.source_in;
      dest_in = k.dest_in;
      epoch_above = k.epoch_above;
      epoch_in = rw length_push (omega arith);
      begins = k.begins;
      follows = subst (λ (x : Plan). IsBeginning x g.dest g.hops) (sym (table_more o plans t g.epoch k.epoch_above k.epoch_in)) k.follows;
    }

each_more : (o : Setting) (plans : List Plan) (t : Plan) (gs : List Record) → AllByRecursion (IsStretch o plans) gs → AllByRecursion (IsStretch o (plans ++ t ∷ [])) gs
each_more o plans t [] k = tt
each_more o plans t (g ∷ gs) k = (stretch_more o plans t g k.0, each_more o plans t gs k.1)

packet_more : (o : Setting) (plans : List Plan) (t : Plan) (r : Record) (place : Place) → ((k : ℕ) → IsPlanFor o (slice_index_or plans k o.first)) → IsPacket o plans r place → IsPacket o (plans ++ t ∷ []) r place
packet_more o plans t r place each p =
    let here = present_stretch o plans each r p.routed in
    record {
      routed = record { few = p.routed.few; places = p.routed.places; rising = p.routed.rising; each = each_more o plans t (segments r) p.routed.each; room = p.routed.room };
      fits = subst (λ (x : Plan). FitsPlace x (present r) place) (sym (table_more o plans t (stamp_of r) here.epoch_above here.epoch_in)) p.fits;
      is_new = p.is_new;
    }

plan_each : (o : Setting) (plans : List Plan) (t : Plan) → ((k : ℕ) → IsPlanFor o (slice_index_or plans k o.first)) → IsPlanFor o t → (k : ℕ) → IsPlanFor o (slice_index_or (plans ++ t ∷ []) k o.first)
plan_each o [] t each is zero = is
plan_each o [] t each is (suc k) = each k
plan_each o (p ∷ plans) t each is zero = each zero
plan_each o (p ∷ plans) t each is (suc k) = plan_each o plans t (λ j. each (suc j)) is k

pub keep_install : (s : World) → IsWorld s → (t : Plan) (b : Board) → IsPlanFor s.opening t → length s.plans < MAX_EPOCHS → b.version ≡ (newest_of s.boards).version + 1 → (newest_of s.boards).version < MAX_CHANGES →
    b.current ≡ length s.plans + 1 → b.floor ≡ (newest_of s.boards).floor → IsWorld (record s { boards = s.boards ++ b ∷ []; plans = s.plans ++ t ∷ [] })
keep_install s ok t b is few version room current floor = record {
  opening = ok.opening;
  views = ok.views;
  hands = ok.hands;
  channels = ok.channels;
  boards = record {
    some = rw length_push (omega arith);
    version = rw (newest-push s.boards b) (rw length_push (let v = ok.boards.version in omega arith));
    few = rw (newest-push s.boards b) (omega arith);
    current = rw (newest-push s.boards b) (rw length_push current);
    floor = rw (newest-push s.boards b) (rw length_push (let f = ok.boards.floor in omega arith));
    each = rw length_push (board_each (length s.plans + 1) s.boards b (λ k. (let was = ok.boards.each k in record { live = was.live; current = let c = was.current in omega arith }))
        (record { live = let f = ok.boards.floor in omega arith; current = omega arith }));
  };
  plans = record { some = rw length_push (omega arith); few = rw length_push (omega arith); each = plan_each s.opening s.plans t ok.plans.each is };
  views_in = λ u. let v = ok.views_in u in rw length_push (omega arith);
  learnt_above = ok.learnt_above;
  learnt_in = let l = ok.learnt_in in rw length_push (omega arith);
  few_packets = ok.few_packets;
  place = ok.place;
  placed = record {
    each = λ id r e. packet_more s.opening s.plans t r (ok.place id) ok.plans.each (ok.placed.each id r e);
    waiting = ok.placed.waiting;
    once = ok.placed.once;
    stands = ok.placed.stands;
    rests = ok.placed.rests;
    held = ok.placed.held;
  };
}

-- the opening stays, though its first plan is read from the list of plans
pub first_same : (plans : List Plan) (t d : Plan) → 0 < length plans → slice_index_or (plans ++ t ∷ []) 0 d ≡ slice_index_or plans 0 d
first_same plans t d some = get_or_append_left plans (t ∷ []) d 0 some

-- the same as keep_install, from what the code read
pub installed_at : (s : World) → IsWorld s → s.opening.first ≡ slice_index_or s.plans 0 no_plan → (epoch : ℕ) (newest next : Board) (t : Plan) (mid boards : List Board) (plans : List Plan) →
    newest ≡ newest_of s.boards → length s.plans < MAX_EPOCHS → newest.version < MAX_CHANGES → epoch ≡ length s.plans + 1 →
    IsPlanFor s.opening t → next ≡ installed newest epoch → mid ≡ s.boards → boards ≡ mid ++ next ∷ [] → plans ≡ s.plans ++ t ∷ [] →
    IsWorld (record s { opening = record s.opening { first = slice_index_or plans 0 no_plan }; boards = boards; plans = plans })
installed_at s ok first epoch newest next t mid boards plans n few room is_epoch is made same more pushed =
    let version = ap (λ (b : Board). b.version) n in
    let kept : IsWorld (record s { boards = s.boards ++ installed newest epoch ∷ []; plans = s.plans ++ t ∷ [] }) =
    keep_install s ok t (installed newest epoch) is few (ap (λ (k : ℕ). k + 1) version) (omega arith)
    is_epoch (ap (λ (b : Board). b.floor) n) in
    let one : slice_index_or (s.plans ++ t ∷ []) 0 no_plan ≡ s.opening.first = first_same s.plans t no_plan ok.plans.some ∙ sym first in
    rw (pushed, more, same, made) (subst (λ (f : Plan). IsWorld (record s { opening = record s.opening { first = f }; boards = s.boards ++ installed newest epoch ∷ []; plans = s.plans ++ t ∷ [] })) (sym one) kept)

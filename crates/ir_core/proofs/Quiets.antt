use Rattle.std.proofs.Common.{◌≡◌, ◌≢◌, ℕ, ◌+◌, ◌-◌, ◌<◌, ◌≤◌, List, [], ◌∷◌, length, slice_get, slice_index_or, slice_set, Option, Some, None, refl, sym, ap, ◌∙◌, subst, arith, true, false, Bool, nat_lt, cond, ◌⊎◌, inl, inr}
use Rattle.std.specs.Prelude.{Result, Ok, Err, nat_le, slice_index, is_ok, ◌||◌, if◌then◌else◌, ◌==◌}
use Rattle.std.proofs.lemmas.Grind.{common_steps}
use Rattle.std.proofs.lemmas.Bool.{cases_eq}
use Rattle.std.proofs.lemmas.Option.{same_Some, none-some}
use Rattle.std.proofs.lemmas.List.{get_or-set_same, get_or-set_other}
use Rattle.ir_model.specs.declared.Hop.{Hop}
use Rattle.ir_core.specs.declared.event.Event.{Event}
use Rattle.ir_core.specs.declared.event.Event.TheVariants as event
use Rattle.ir_core.specs.declared.event.Way.{Way}
use Rattle.ir_core.specs.declared.event.Way.TheVariants.{Inbox, Link}
use Rattle.ir_core.specs.declared.event.Reply.{Reply}
use Rattle.ir_core.specs.declared.event.Refused.{Refused}
use Rattle.ir_core.specs.declared.event.Refused.TheVariants.{NoNode, BadView, HandEmpty, Empty}
use Rattle.ir_core.specs.declared.packet.Held.{Held}
use Rattle.ir_core.specs.declared.event.Verdict.{Verdict}
use Rattle.ir_core.specs.declared.event.Verdict.TheVariants.{CameByDown, BelowFloor, Arrives, LeavesByDown, NoRoom, GoesOn}
use Rattle.ir_core.specs.Record.{Record}
use Rattle.ir_core.specs.Setting.{Setting, nodes_of, channel_of}
use Rattle.ir_core.specs.Entry.{Entry, DidTake, DidRead, DidAct, ruled, fresh}
use Rattle.ir_core.specs.Meaning.{Sight, ComesTo, sight_after, with_entry, reads, acts, acts_on, takes, takes_first, record_at, board_at, ruling_on, is_full_towards}
use Rattle.ir_core.specs.Board.{opening_board}
use Rattle.ir_core.specs.declared.board.Board.{Board}
use Rattle.ir_core.specs.declared.event.Ruling.{Ruling}
use Rattle.ir_core.specs.World.{World, IsWorld, Place, Waits, InHand, sight_in, after, taken_from, IsAnswer}
use Rattle.ir_core.specs.Shows.{Shows}
use Rattle.ir_core.specs.Drain.{acts_in, acts_of, after_read, after_act, after_take, after_way}
use Rattle.ir_core.specs.Quiet.{weight, floor_of, made_of, CountsActs, SamePackets, Moves, IsHandEmpty, IsUpToDate, IsEmptyAt, acts_ahead, hops_made, before, TakesFromBefore}
use Rattle.ir_core.proofs.Channels.{into_is, same_way}
use Rattle.ir_core.proofs.Keeps.{Acting, acting_now, keep_read_place, keep_take_place, keep_act_place}
use Rattle.ir_core.proofs.Placed.{moved, moved_same, moved_other, place_after}
use Rattle.ir_core.proofs.Shown.{same_sight}
use Rattle.ir_core.proofs.Theorem.{shows_after, same_setting}
use Rattle.ir_core.proofs.Loads.{Grows, grows_on, act_falls, take_weighs, hops_short}
use Rattle.std.proofs.lemmas.List.{get_or_default}

pub same_packets : (s : World) → SamePackets s s
same_packets s = record { hands = refl; channels = refl; records = refl; boards = refl; opening = refl }

pub packets_then : (s mid new : World) → SamePackets s mid → SamePackets mid new → SamePackets s new
packets_then s mid new a b = record { hands = b.hands ∙ a.hands; channels = b.channels ∙ a.channels; records = b.records ∙ a.records; boards = b.boards ∙ a.boards; opening = b.opening ∙ a.opening }

pub same_weight : (s new : World) → SamePackets s new → weight new ≡ weight s
same_weight s new k = rw (k.hands, k.channels, k.records, k.boards, k.opening) refl

-- Acts counted over two parts
counts_then : (a b : Bool) (log mid later : List Entry) → CountsActs a log mid → CountsActs b mid later → CountsActs (a || b) log later
counts_then true true log mid later m n = omega arith
counts_then true false log mid later m n = omega arith
counts_then false true log mid later m n = omega arith
counts_then false false log mid later m n = omega arith

falls_then : (a b : Bool) (s mid new : World) → (a ≡ true → weight mid < weight s) → (a ≡ false → SamePackets s mid) → (b ≡ true → weight new < weight mid) → (b ≡ false → SamePackets mid new) →
    ((a || b) ≡ true → weight new < weight s) × ((a || b) ≡ false → SamePackets s new)
falls_then true true s mid new f p g q = (λ _. (let x = f refl in let y = g refl in omega arith), λ e. cc)
falls_then true false s mid new f p g q = (λ _. (let x = f refl in let y = same_weight mid new (q refl) in omega arith), λ e. cc)
falls_then false true s mid new f p g q = (λ _. (let x = same_weight s mid (p refl) in let y = g refl in omega arith), λ e. cc)
falls_then false false s mid new f p g q = (λ e. cc, λ _. packets_then s mid new (p refl) (q refl))

-- one part after another
pub moves_then : (f g : List Entry → List Entry) (a b : Bool) (s mid new : World) → Moves f a s mid → Moves g b mid new → Moves (λ log. g (f log)) (a || b) s new
moves_then f g a b s mid new m n =
    let falls = falls_then a b s mid new m.falls m.stays n.falls n.stays in
    record {
      shows = λ log k. n.shows (f log) (m.shows log k);
      counts = λ log k. counts_then a b log (f log) (g (f log)) (m.counts log k) (n.counts (f log) (m.shows log k));
      falls = falls.0;
      stays = falls.1;
      opening = n.opening ∙ m.opening;
      boards = n.boards ∙ m.boards;
      few = λ ok. (let first = m.few ok in let second = n.few first.0 in
          (second.0, λ id log k. (let x = first.1 id log k in let y = second.1 id (f log) (m.shows log k) in omega arith)));
    }

-- nothing at all
pub moves_none : (s : World) → Moves (λ log. log) false s s
moves_none s = record { shows = λ log k. k; counts = λ log k. refl; falls = λ e. cc; stays = λ e. same_packets s; opening = refl; boards = refl; few = λ ok. (ok, λ id log k. omega arith) }

-- what an event takes from what each packet has before it
abbrev pub FewIn : (s : World) → IsWorld s → World → Result Entry Refused → Type 0
FewIn s ok new wanted = (later : IsWorld new) × ((id : ℕ) (log : List Entry) → acts_of id (with_entry log wanted) + before new later id ≤ acts_of id log + before s ok id)

-- a refusal takes nothing
few_refused : (s new : World) (ok : IsWorld s) (wanted : Result Entry Refused) (x : Refused) → wanted ≡ Err x → new ≡ s → FewIn s ok new wanted
few_refused s new ok wanted x is same =
    subst (λ (w : Result Entry Refused). FewIn s ok new w) (sym is) (subst (λ (y : World). FewIn s ok y (Err x)) (sym same) (ok, λ id log. omega arith))

same_ahead : (n u made : ℕ) (way : Way) → acts_ahead n (InHand u way) made ≡ acts_ahead n (Waits u way) made
same_ahead n u made Inbox = refl
same_ahead n u made (Link l) = refl

-- the world after a take from the channel with this number
abbrev taken_world : World → ℕ → Way → ℕ → ℕ → World
taken_world s u way id c = record s { hands = slice_set s.hands u (Some (record { id = id; way = way })); channels = taken_from s.channels c }

abbrev TakesNothing : (s : World) → IsWorld s → World → Type 0
TakesNothing s ok new = (later : IsWorld new) × ((j : ℕ) (log : List Entry) → acts_of j log + before new later j ≤ acts_of j log + before s ok j)

-- a take leaves what each packet has before it
take_few : (s : World) (ok : IsWorld s) (u : ℕ) (way : Way) (c id : ℕ) → u < nodes_of s.opening → channel_of s.opening u way ≡ Some c → IsHandEmpty s u → slice_get (slice_index_or s.channels c []) 0 ≡ Some id →
    TakesNothing s ok (after s (DidTake u way id))
take_few s ok u way c id u_in there empty first =
    let number = into_is s.opening u way c there in
    let k = keep_take_place s ok u way c id u_in there first empty in
    subst (λ (x : ℕ). TakesNothing s ok (taken_world s u way id x)) (sym number) (k.0, λ j log. (let e = ap (λ (q : Place). acts_ahead (nodes_of s.opening) q (hops_made (floor_of s) s.records j)) (k.1 j) in let b = by_id j log (cases_eq j id) in omega arith))
  where
    was : ok.place id ≡ Waits u way
    was =
        let w = ok.placed.waiting c 0 id first in
        let q = same_way s.opening w.1.0 u w.1.1 way c w.1.2 u_in w.1.4 there in
        w.1.3 ∙ ap (λ (x : ℕ). Waits x w.1.1) q.0 ∙ ap (λ (x : Way). Waits u x) q.1

    by_id : (j : ℕ) (log : List Entry) → ((j ≡ id) ⊎ (j ≡ id → ⊥)) → acts_of j log + acts_ahead (nodes_of s.opening) (moved ok.place id (InHand u way) j) (hops_made (floor_of s) s.records j) ≤ acts_of j log + before s ok j
    by_id j log (inl e) =
        let now = ap (λ (p : Place). acts_ahead (nodes_of s.opening) p (hops_made (floor_of s) s.records j)) (moved_same ok.place id (InHand u way) j e) in
        let old = ap (λ (p : Place). acts_ahead (nodes_of s.opening) p (hops_made (floor_of s) s.records j)) (ap ok.place e ∙ was) in
        let same = same_ahead (nodes_of s.opening) u (hops_made (floor_of s) s.records j) way in
        omega arith
    by_id j log (inr ne) =
        let now = ap (λ (p : Place). acts_ahead (nodes_of s.opening) p (hops_made (floor_of s) s.records j)) (moved_other ok.place id (InHand u way) j ne) in
        omega arith

-- what is before a packet after an Act on it
act_ahead : (n u : ℕ) (way : Way) (v : Verdict) (made after : ℕ) → 0 < n → ((l : ℕ) → way ≡ Link l → made < n) → ((h : Hop) → v ≡ GoesOn h → Grows way made after) → acts_ahead n (place_after v) after < acts_ahead n (InHand u way) made
act_ahead n u Inbox (GoesOn h) made after some short grows = let g = (grows h refl).some in omega arith
act_ahead n u Inbox (CameByDown l) made after some short grows = some
act_ahead n u Inbox BelowFloor made after some short grows = some
act_ahead n u Inbox Arrives made after some short grows = some
act_ahead n u Inbox (LeavesByDown l) made after some short grows = some
act_ahead n u Inbox (NoRoom h) made after some short grows = some
act_ahead n u (Link l) (GoesOn h) made after some short grows = let lt = short l refl in let g = (grows h refl).by_link l refl in omega arith
act_ahead n u (Link l) (CameByDown k) made after some short grows = let lt = short l refl in omega arith
act_ahead n u (Link l) BelowFloor made after some short grows = let lt = short l refl in omega arith
act_ahead n u (Link l) Arrives made after some short grows = let lt = short l refl in omega arith
act_ahead n u (Link l) (LeavesByDown k) made after some short grows = let lt = short l refl in omega arith
act_ahead n u (Link l) (NoRoom h) made after some short grows = let lt = short l refl in omega arith

-- the record of what a node holds, and the records after an Act on it
abbrev held_record : World → Held → Record
held_record s held = slice_index_or s.records held.id (fresh held.id 0 0 0 0)

abbrev acted_records : World → ℕ → Held → Option ℕ → Verdict → List Record
acted_records s u held restamp v = slice_set s.records held.id (ruled u held.way restamp v (held_record s held))

-- an Act by the newest board takes one from what its packet has before it, and nothing from the others
act_few : (s : World) (ok : IsWorld s) (u : ℕ) (held : Held) (restamp : Option ℕ) (v : Verdict) (full : Hop → Bool) (b : Board) → b.floor ≡ floor_of s → slice_index_or s.hands u None ≡ Some held →
    Acting s u held (slice_index_or s.records held.id (fresh held.id 0 0 0 0)) full b restamp v →
    FewIn s ok (after s (DidAct u held.id held.way restamp v)) (Ok (DidAct u held.id held.way restamp v))
act_few s ok u held restamp v full b is_floor holds a =
    let k = keep_act_place s ok u held (slice_index_or s.records held.id (fresh held.id 0 0 0 0)) full b restamp v holds a in
    (k.0, λ j log. (let e = ap (λ (q : Place). acts_ahead (nodes_of s.opening) q (hops_made (floor_of s) (acted_records s u held restamp v) j)) (k.1 j) in let b = by_id j log (cases_eq j held.id) in omega arith))
  where
    in_hand : ok.place held.id ≡ InHand u held.way
    in_hand = (ok.placed.held u held holds).1

    by_id : (j : ℕ) (log : List Entry) → ((j ≡ held.id) ⊎ (j ≡ held.id → ⊥)) →
        (if held.id == j then acts_of j log + 1 else acts_of j log) + acts_ahead (nodes_of s.opening) (moved ok.place held.id (place_after v) j) (hops_made (floor_of s) (acted_records s u held restamp v) j) ≤ acts_of j log + before s ok j
    by_id j log (inl e) =
        let test : (held.id == j) ≡ true = grind (arith, common_steps) in
        let here : slice_index_or (acted_records s u held restamp v) j (fresh j 0 0 0 0) ≡ ruled u held.way restamp v (held_record s held) = ap (λ (k : ℕ). slice_index_or (acted_records s u held restamp v) k (fresh j 0 0 0 0)) e ∙ get_or-set_same s.records held.id (ruled u held.way restamp v (held_record s held)) (fresh j 0 0 0 0) a.hand.id_in in
        let made = ap (λ (x : Record). made_of (floor_of s) x) here in
        let was : slice_index_or s.records j (fresh j 0 0 0 0) ≡ held_record s held = ap (λ (k : ℕ). slice_index_or s.records k (fresh k 0 0 0 0)) e in
        let had = ap (λ (x : Record). made_of (floor_of s) x) was in
        let n = nodes_of s.opening in
        let now = ap (λ (q : Place). acts_ahead (nodes_of s.opening) q (hops_made (floor_of s) (acted_records s u held restamp v) j)) (moved_same ok.place held.id (place_after v) j e) in
        let now2 = ap (λ (k : ℕ). acts_ahead (nodes_of s.opening) (place_after v) k) made in
        let old = ap (λ (q : Place). acts_ahead (nodes_of s.opening) q (hops_made (floor_of s) s.records j)) (ap ok.place e ∙ in_hand) in
        let old2 = ap (λ (k : ℕ). acts_ahead (nodes_of s.opening) (InHand u held.way) k) had in
        let u_in = a.node_in in
        let less = act_ahead (nodes_of s.opening) u held.way v (made_of (floor_of s) (held_record s held)) (made_of (floor_of s) (ruled u held.way restamp v (held_record s held))) (omega arith)
        (λ l way. hops_short s ok u held (held_record s held) (floor_of s) a.hand l way) (λ h goes. grows_on s ok u held (held_record s held) full b restamp v h is_floor goes a) in
        rw test (omega arith)
    by_id j log (inr ne) =
        let differs : held.id ≢ j = λ e. ne (sym e) in
        let test : (held.id == j) ≡ false = grind (arith, common_steps) in
        let here : slice_index_or (acted_records s u held restamp v) j (fresh j 0 0 0 0) ≡ slice_index_or s.records j (fresh j 0 0 0 0) = get_or-set_other s.records held.id j (ruled u held.way restamp v (held_record s held)) (fresh j 0 0 0 0) ne in
        let made = ap (λ (x : Record). acts_ahead (nodes_of s.opening) (moved ok.place held.id (place_after v) j) (made_of (floor_of s) x)) here in
        let now = ap (λ (q : Place). acts_ahead (nodes_of s.opening) q (hops_made (floor_of s) s.records j)) (moved_other ok.place held.id (place_after v) j ne) in
        rw test (omega arith)

-- what one event makes of a history, by what it comes to
module _ (s new : World) (ok : IsWorld s) (e : Sight → Event) (comes_to : Sight → Result Entry Refused) (comes : (x : Sight) → ComesTo s.opening x (e x) (comes_to x))
    (result : Result Reply Refused) (answer : IsAnswer s new (comes_to (sight_in s)) result) where
  pub shows_by : (log : List Entry) → Shows log s → Shows (with_entry log (comes_to (sight_after s.opening log))) new
  shows_by log k =
      subst (λ (x : Sight). Shows (with_entry log (comes_to x)) new) (same_sight log s k) (shows_after log s new ok k (e (sight_in s)) result (comes_to (sight_in s)) (comes (sight_in s)) answer)

  pub counts_by : (acted : Bool) → ((log : List Entry) → CountsActs acted log (with_entry log (comes_to (sight_in s)))) → (log : List Entry) → Shows log s →
      CountsActs acted log (with_entry log (comes_to (sight_after s.opening log)))
  counts_by acted counts log k = subst (λ (x : Sight). CountsActs acted log (with_entry log (comes_to x))) (same_sight log s k) (counts log)

  pub few_by : (kept : IsWorld s) → FewIn s kept new (comes_to (sight_in s)) → TakesFromBefore (λ log. with_entry log (comes_to (sight_after s.opening log))) s kept new
  few_by kept few =
      (few.0, λ id log k. subst (λ (x : Sight). acts_of id (with_entry log (comes_to x)) + before new few.0 id ≤ acts_of id log + before s kept id) (same_sight log s k) (few.1 id log))

  pub moved_by : (acted : Bool) → ((log : List Entry) → CountsActs acted log (with_entry log (comes_to (sight_in s)))) → (acted ≡ true → weight new < weight s) → (acted ≡ false → SamePackets s new) → new.boards ≡ s.boards → ((kept : IsWorld s) → FewIn s kept new (comes_to (sight_in s))) →
      Moves (λ log. with_entry log (comes_to (sight_after s.opening log))) acted s new
  moved_by acted counts falls stays boards few = record {
    shows = shows_by;
    counts = counts_by acted counts;
    falls = falls;
    stays = stays;
    opening = same_setting s new (comes_to (sight_in s)) result answer;
    boards = boards;
    few = λ kept. few_by kept (few kept);
  }

-- reading moves no packet
read_same : (b t : Bool) (s new : World) (u k : ℕ) (result : Result Reply Refused) → IsAnswer s new (cond b (Err NoNode) (cond t (Err BadView) (Ok (DidRead u k)))) result → SamePackets s new
read_same true t s new u k result a = subst (λ (x : World). SamePackets s x) (sym a.1) (same_packets s)
read_same false true s new u k result a = subst (λ (x : World). SamePackets s x) (sym a.1) (same_packets s)
read_same false false s new u k result a =
    subst (λ (x : World). SamePackets s x) (sym a.1) (record { hands = refl; channels = refl; records = refl; boards = refl; opening = refl })

read_counts : (b t : Bool) (u k : ℕ) (log : List Entry) → acts_in (with_entry log (cond b (Err NoNode) (cond t (Err BadView) (Ok (DidRead u k))))) ≡ acts_in log
read_counts true t u k log = refl
read_counts false true u k log = refl
read_counts false false u k log = refl

read_few : (b t : Bool) (s new : World) (ok : IsWorld s) (u k : ℕ) (result : Result Reply Refused) → u < nodes_of s.opening → k < length s.boards → IsAnswer s new (cond b (Err NoNode) (cond t (Err BadView) (Ok (DidRead u k)))) result →
    FewIn s ok new (cond b (Err NoNode) (cond t (Err BadView) (Ok (DidRead u k))))
read_few true t s new ok u k result u_in k_in a = few_refused s new ok (Err NoNode) NoNode refl a.1
read_few false true s new ok u k result u_in k_in a = few_refused s new ok (Err BadView) BadView refl a.1
read_few false false s new ok u k result u_in k_in a =
    subst (λ (x : World). FewIn s ok x (Ok (DidRead u k))) (sym a.1)
    (let k = keep_read_place s ok u k u_in k_in in (k.0, λ id log. (let e = ap (λ (q : Place). acts_ahead (nodes_of s.opening) q (hops_made (floor_of s) s.records id)) (k.1 id) in omega arith)))

pub read_moves : (s new : World) → IsWorld s → (u k : ℕ) → u < nodes_of s.opening → (result : Result Reply Refused) → k ≡ length s.boards - 1 → IsAnswer s new (reads s.opening (sight_in s) u k) result → Moves (after_read s.opening u) false s new
read_moves s new ok u k u_in result is answer =
    let here : IsAnswer s new (reads s.opening (sight_in s) u (length s.boards - 1)) result = subst (λ (j : ℕ). IsAnswer s new (reads s.opening (sight_in s) u j) result) is answer in
    moved_by s new ok (λ (x : Sight). event.Read u (length x.boards - 1)) (λ (x : Sight). reads s.opening x u (length x.boards - 1)) (λ x. refl) result here false
    (λ log. read_counts _ _ u (length s.boards - 1) log) (λ e. cc) (λ e. read_same _ _ s new u (length s.boards - 1) result here) (read_same _ _ s new u (length s.boards - 1) result here).boards
    (λ kept. read_few _ _ s new kept u (length s.boards - 1) result u_in (let some = ok.boards.some in omega arith) here)

-- a node that read the newest version is up to date
pub read_view : (s new : World) → IsWorld s → (u k : ℕ) → u < nodes_of s.opening → (result : Result Reply Refused) → k ≡ length s.boards - 1 → IsAnswer s new (reads s.opening (sight_in s) u k) result → IsUpToDate new u
read_view s new ok u k u_in result is answer =
    let here : IsAnswer s new (reads s.opening (sight_in s) u (length s.boards - 1)) result = subst (λ (j : ℕ). IsAnswer s new (reads s.opening (sight_in s) u j) result) is answer in
    let some = ok.boards.some in
    let seen = ok.views_in u in
    let there : nat_lt u (nodes_of s.opening) ≡ true = grind (arith, common_steps) in
    let newer : nat_lt (length s.boards - 1) (slice_index s.views u) ≡ false = grind (arith, common_steps) in
    let within : nat_le (length s.boards) (length s.boards - 1) ≡ false = grind (arith, common_steps) in
    let accepted : reads s.opening (sight_in s) u (length s.boards - 1) ≡ Ok (DidRead u (length s.boards - 1)) = rw (there, newer, within) refl in
    let a = subst (λ (w : Result Entry Refused). IsAnswer s new w result) accepted here in
    let view = get_or-set_same s.views u (length s.boards - 1) 0 (omega (arith, ok.views)) in
    subst (λ (x : World). IsUpToDate x u) (sym a.1) view

pub up_to_date_still : (s new : World) (u : ℕ) → new.views ≡ s.views → new.boards ≡ s.boards → IsUpToDate s u → IsUpToDate new u
up_to_date_still s new u views boards k = rw (views, boards) k

-- the board that a node sees is then the newest
newest_seen : (s : World) (u : ℕ) → IsUpToDate s u → (board_at (sight_in s) (slice_index s.views u)).floor ≡ floor_of s
newest_seen s u k = ap (λ (n : ℕ). (slice_index_or s.boards n opening_board).floor) k

-- an Act on what a node holds, if it holds a packet
acts_node : (s : World) (u : ℕ) → u < nodes_of s.opening → acts s.opening (sight_in s) u ≡ acts_on s.opening (sight_in s) u (slice_index_or s.hands u None)
acts_node s u u_in = let t : nat_lt u (nodes_of s.opening) ≡ true = grind (arith, common_steps) in rw t refl

pub record ActDone (s : World) (u : ℕ) (new : World) (acted : Bool) : Type 0 where
  pub moves : Moves (after_act s.opening u) acted s new
  pub idle : acted ≡ false → (new ≡ s) × IsHandEmpty s u
  pub hand : IsHandEmpty new u
  pub views : new.views ≡ s.views

pub act_done_by : (s new : World) → IsWorld s → (u : ℕ) → u < nodes_of s.opening → IsUpToDate s u → (result : Result Reply Refused) → IsAnswer s new (acts s.opening (sight_in s) u) result → ActDone s u new (is_ok result)
act_done_by s new ok u u_in up result answer = by_hand (slice_index_or s.hands u None) refl
  where
    by_hand : (x : Option Held) → slice_index_or s.hands u None ≡ x → ActDone s u new (is_ok result)
    by_hand None holds =
        let is : acts s.opening (sight_in s) u ≡ Err HandEmpty = acts_node s u u_in ∙ ap (λ (x : Option Held). acts_on s.opening (sight_in s) u x) holds in
        let a = subst (λ (w : Result Entry Refused). IsAnswer s new w result) is answer in
        let idle : is_ok result ≡ false = ap (λ (x : Result Reply Refused). is_ok x) a.0 in
        let moves = moved_by s new ok (λ _. event.Act u) (λ (x : Sight). acts s.opening x u) (λ x. refl) result answer false
        (λ log. ap (λ (w : Result Entry Refused). acts_in (with_entry log w)) is) (λ e. cc) (λ e. subst (λ (x : World). SamePackets s x) (sym a.1) (same_packets s)) (ap (λ (x : World). x.boards) a.1) (λ kept. few_refused s new kept (acts s.opening (sight_in s) u) HandEmpty is a.1) in
        record {
          moves = subst (λ (b : Bool). Moves (after_act s.opening u) b s new) (sym idle) moves;
          idle = λ _. (a.1, holds);
          hand = ap (λ (x : World). slice_index_or x.hands u None) a.1 ∙ holds;
          views = ap (λ (x : World). x.views) a.1;
        }
    by_hand (Some held) holds =
        let x : Ruling = ruling_on s.opening (sight_in s) u held.way (record_at (sight_in s) held.id) in
        let is : acts s.opening (sight_in s) u ≡ Ok (DidAct u held.id held.way x.restamp x.verdict) = acts_node s u u_in ∙ ap (λ (x : Option Held). acts_on s.opening (sight_in s) u x) holds in
        let a = subst (λ (w : Result Entry Refused). IsAnswer s new w result) is answer in
        let acted : is_ok result ≡ true = ap (λ (x : Result Reply Refused). is_ok x) a.0 in
        let id_in = (ok.placed.held u held holds).0 in
        let r = slice_index_or s.records held.id (fresh held.id 0 0 0 0) in
        let read : r ≡ slice_index_or s.records held.id r = get_or_default s.records held.id (fresh held.id 0 0 0 0) r id_in in
        let acting = acting_now s s refl ok u held r x holds read u_in refl in
        let less : weight new < weight s = subst (λ (x : World). weight x < weight s) (sym a.1) (act_falls s ok u held x.restamp x.verdict (is_full_towards s.opening (sight_in s)) (board_at (sight_in s) (slice_index s.views u)) (newest_seen s u up) holds acting) in
        let moves = moved_by s new ok (λ _. event.Act u) (λ (x : Sight). acts s.opening x u) (λ x. refl) result answer true
        (λ log. more log is) (λ _. less) (λ e. cc) (ap (λ (x : World). x.boards) a.1) (λ kept. few_act kept is a.1) in
        record {
          moves = subst (λ (b : Bool). Moves (after_act s.opening u) b s new) (sym acted) moves;
          idle = λ e. cc (e, acted);
          hand = ap (λ (x : World). slice_index_or x.hands u None) a.1 ∙ get_or-set_same s.hands u None None (omega (arith, ok.hands));
          views = ap (λ (x : World). x.views) a.1;
        }
      where
        few_act : (kept : IsWorld s) → acts s.opening (sight_in s) u ≡ Ok (DidAct u held.id held.way (ruling_on s.opening (sight_in s) u held.way (record_at (sight_in s) held.id)).restamp (ruling_on s.opening (sight_in s) u held.way (record_at (sight_in s) held.id)).verdict) →
            new ≡ after s (DidAct u held.id held.way (ruling_on s.opening (sight_in s) u held.way (record_at (sight_in s) held.id)).restamp (ruling_on s.opening (sight_in s) u held.way (record_at (sight_in s) held.id)).verdict) → FewIn s kept new (acts s.opening (sight_in s) u)
        few_act kept is to =
            let x : Ruling = ruling_on s.opening (sight_in s) u held.way (record_at (sight_in s) held.id) in
            let id_in = (kept.placed.held u held holds).0 in
            let r = slice_index_or s.records held.id (fresh held.id 0 0 0 0) in
            let read : r ≡ slice_index_or s.records held.id r = get_or_default s.records held.id (fresh held.id 0 0 0 0) r id_in in
            let acting = acting_now s s refl kept u held r x holds read u_in refl in
            subst (λ (w : Result Entry Refused). FewIn s kept new w) (sym is)
            (subst (λ (y : World). FewIn s kept y (Ok (DidAct u held.id held.way x.restamp x.verdict))) (sym to)
            (act_few s kept u held x.restamp x.verdict (is_full_towards s.opening (sight_in s)) (board_at (sight_in s) (slice_index s.views u)) (newest_seen s u up) holds acting))

        more : (log : List Entry) → acts s.opening (sight_in s) u ≡ Ok (DidAct u held.id held.way (ruling_on s.opening (sight_in s) u held.way (record_at (sight_in s) held.id)).restamp (ruling_on s.opening (sight_in s) u held.way (record_at (sight_in s) held.id)).verdict) →
            acts_in log < acts_in (with_entry log (acts s.opening (sight_in s) u))
        more log is = rw is (omega arith)

-- a take from a channel, if there is a packet
pub record TakeDone (s : World) (u : ℕ) (way : Way) (mid : World) : Type 0 where
  pub shows : (log : List Entry) → Shows log s → Shows (after_take s.opening u way log) mid
  pub counts : (log : List Entry) → Shows log s → acts_in (after_take s.opening u way log) ≡ acts_in log
  pub weighs : weight mid ≡ weight s
  pub few : (ok : IsWorld s) → TakesFromBefore (after_take s.opening u way) s ok mid
  pub idle : IsHandEmpty mid u → (mid ≡ s) × IsEmptyAt s u way
  pub opening : mid.opening ≡ s.opening
  pub boards : mid.boards ≡ s.boards
  pub views : mid.views ≡ s.views

no_first : {X : Type 0} (xs : List X) → slice_get xs 0 ≡ None → xs ≡ []
no_first [] e = refl
no_first (x ∷ xs) e = absurd (none-some x (sym e))

takes_node : (s : World) (u : ℕ) (way : Way) (c : ℕ) → u < nodes_of s.opening → channel_of s.opening u way ≡ Some c → IsHandEmpty s u →
    takes s.opening (sight_in s) u way ≡ takes_first u way (slice_get (slice_index_or s.channels c []) 0)
takes_node s u way c u_in there empty = let t : nat_lt u (nodes_of s.opening) ≡ true = grind (arith, common_steps) in rw (t, there, empty) refl

pub take_done_by : (s mid : World) → IsWorld s → (u : ℕ) (way : Way) (c : ℕ) → u < nodes_of s.opening → channel_of s.opening u way ≡ Some c → IsHandEmpty s u →
    (result : Result Reply Refused) → IsAnswer s mid (takes s.opening (sight_in s) u way) result → TakeDone s u way mid
take_done_by s mid ok u way c u_in there empty result answer = by_first (slice_get (slice_index_or s.channels c []) 0) refl
  where
    same_channel : (d : ℕ) → channel_of s.opening u way ≡ Some d → d ≡ c
    same_channel d e = same_Some d c (sym e ∙ there)

    done : (x : Option ℕ) → takes s.opening (sight_in s) u way ≡ takes_first u way x → ((log : List Entry) → acts_in (with_entry log (takes_first u way x)) ≡ acts_in log) → weight mid ≡ weight s →
        (IsHandEmpty mid u → (mid ≡ s) × IsEmptyAt s u way) → ((kept : IsWorld s) → FewIn s kept mid (takes s.opening (sight_in s) u way)) → mid.boards ≡ s.boards → mid.views ≡ s.views → TakeDone s u way mid
    done x is same weighs idle few boards views = record {
      shows = shows_by s mid ok (λ _. event.Take u way) (λ (y : Sight). takes s.opening y u way) (λ y. refl) result answer;
      counts = counts_by s mid ok (λ _. event.Take u way) (λ (y : Sight). takes s.opening y u way) (λ y. refl) result answer false (λ log. ap (λ (w : Result Entry Refused). acts_in (with_entry log w)) is ∙ same log);
      weighs = weighs;
      few = λ kept. few_by s mid ok (λ _. event.Take u way) (λ (y : Sight). takes s.opening y u way) (λ y. refl) result answer kept (few kept);
      idle = idle;
      opening = same_setting s mid (takes s.opening (sight_in s) u way) result answer;
      boards = boards;
      views = views;
    }

    by_first : (x : Option ℕ) → slice_get (slice_index_or s.channels c []) 0 ≡ x → TakeDone s u way mid
    by_first None first =
        let is : takes s.opening (sight_in s) u way ≡ Err Empty = takes_node s u way c u_in there empty ∙ ap (λ (x : Option ℕ). takes_first u way x) first in
        let a = subst (λ (w : Result Entry Refused). IsAnswer s mid w result) is answer in
        let none : slice_index_or s.channels c [] ≡ [] = no_first (slice_index_or s.channels c []) first in
        done None is (λ log. refl) (ap (λ (x : World). weight x) a.1)
        (λ _. (a.1, λ d e. ap (λ (k : ℕ). slice_index_or s.channels k []) (same_channel d e) ∙ none)) (λ kept. few_refused s mid kept (takes s.opening (sight_in s) u way) Empty is a.1)
        (ap (λ (x : World). x.boards) a.1) (ap (λ (x : World). x.views) a.1)
    by_first (Some id) first =
        let is : takes s.opening (sight_in s) u way ≡ Ok (DidTake u way id) = takes_node s u way c u_in there empty ∙ ap (λ (x : Option ℕ). takes_first u way x) first in
        let a = subst (λ (w : Result Entry Refused). IsAnswer s mid w result) is answer in
        let weighs : weight mid ≡ weight s = ap (λ (x : World). weight x) a.1 ∙ take_weighs s ok u way c id u_in there empty first in
        let holds : slice_index_or mid.hands u None ≡ Some (record { id = id; way = way }) =
        ap (λ (x : World). slice_index_or x.hands u None) a.1 ∙ get_or-set_same s.hands u (Some (record { id = id; way = way })) None (omega (arith, ok.hands)) in
        done (Some id) is (λ log. refl) weighs (λ e. absurd (none-some (record { id = id; way = way }) (sym e ∙ holds)))
        (λ kept. subst (λ (w : Result Entry Refused). FewIn s kept mid w) (sym is) (subst (λ (x : World). FewIn s kept x (Ok (DidTake u way id))) (sym a.1) (take_few s kept u way c id u_in there empty first)))
        (ap (λ (x : World). x.boards) a.1) (ap (λ (x : World). x.views) a.1)

-- a take and an Act
pub record WayDone (s : World) (u : ℕ) (way : Way) (new : World) (acted : Bool) : Type 0 where
  pub moves : Moves (after_way s.opening u way) acted s new
  pub idle : acted ≡ false → IsEmptyAt new u way

pub way_done : (s mid new : World) (u : ℕ) (way : Way) (acted : Bool) → TakeDone s u way mid → Moves (after_act mid.opening u) acted mid new → (acted ≡ false → (new ≡ mid) × IsHandEmpty mid u) → WayDone s u way new acted
way_done s mid new u way acted t m idle = record {
  moves = record {
    shows = λ log k. subst (λ (o : Setting). Shows (after_act o u (after_take s.opening u way log)) new) t.opening (m.shows (after_take s.opening u way log) (t.shows log k));
    counts = λ log k. counts_from acted log k (subst (λ (o : Setting). CountsActs acted (after_take s.opening u way log) (after_act o u (after_take s.opening u way log))) t.opening (m.counts (after_take s.opening u way log) (t.shows log k)));
    falls = λ e. (let less = m.falls e in let same = t.weighs in omega arith);
    stays = λ e. (let i = idle e in let back : new ≡ s = i.0 ∙ (t.idle i.1).0 in subst (λ (x : World). SamePackets s x) (sym back) (same_packets s));
    opening = m.opening ∙ t.opening;
    boards = m.boards ∙ t.boards;
    few = λ ok. (let first = t.few ok in let second = m.few first.0 in (
      second.0,
      λ id log k. (let x = first.1 id log k in
          let y = subst (λ (o : Setting). acts_of id (after_act o u (after_take s.opening u way log)) + before new second.0 id ≤ acts_of id (after_take s.opening u way log) + before mid first.0 id) t.opening (second.1 id (after_take s.opening u way log) (t.shows log k)) in
          omega arith),
    ));
  };
  idle = λ e. (let i = idle e in let j = t.idle i.1 in let back : new ≡ s = i.0 ∙ j.0 in subst (λ (x : World). IsEmptyAt x u way) (sym back) j.1);
}
  where
    counts_from : (b : Bool) (log : List Entry) → Shows log s → CountsActs b (after_take s.opening u way log) (after_act s.opening u (after_take s.opening u way log)) → CountsActs b log (after_act s.opening u (after_take s.opening u way log))
    counts_from true log k more = let same = t.counts log k in omega arith
    counts_from false log k more = more ∙ t.counts log k

use Rattle.std.proofs.Common.{◌≡◌, ◌≢◌, ℕ, ◌+◌, ◌<◌, ◌≤◌, max, List, [], ◌∷◌, ◌++◌, length, drop, slice_get, slice_index_or, slice_set, Option, Some, None, sym, ap, ◌∙◌, subst, arith, true, false, Bool, ◌==◌, eqb, ◌⊎◌, inl, inr}
use Rattle.std.specs.Prelude.{option_map, if◌then◌else◌}
use Rattle.std.proofs.lemmas.List.{length-set, length_push, length-drop, drop-drop, drop-append-le}
use Rattle.std.proofs.lemmas.Option.{slice_get_within, slice_get-get_or, slice_get_past}
use Rattle.std.proofs.lemmas.Bool.{cases_lt}
use Rattle.std.proofs.lemmas.Bool.Decides.{eqb_tells}
use Rattle.ir_model.specs.Plan.{Plan}
use Rattle.ir_core.specs.declared.event.Way.{Way}
use Rattle.ir_core.specs.declared.event.Way.TheVariants.{Link}
use Rattle.ir_core.specs.declared.event.Verdict.{Verdict}
use Rattle.ir_core.specs.declared.event.Verdict.TheVariants.{CameByDown, BelowFloor, Arrives, LeavesByDown, NoRoom, GoesOn}
use Rattle.ir_core.specs.declared.board.Board.{Board}
use Rattle.ir_core.specs.declared.packet.Fate.TheVariants.{Left}
use Rattle.ir_core.specs.Record.{Record}
use Rattle.ir_core.specs.Setting.{into}
use Rattle.ir_core.specs.Entry.{Entry, DidInject, DidLearn, DidTake, DidRead, DidAct, DidChange, DidInstall, ruled, fresh}
use Rattle.ir_core.specs.History as history
use Rattle.ir_core.specs.Meaning.{sight_after}
use Rattle.ir_core.specs.World.{World, IsWorld, IsPacket, Place, Waits, InHand, sight_in, after, put_into, taken_from, sent_on}
use Rattle.ir_core.specs.Shows.{Shows}
use Rattle.ir_core.proofs.Lists.{or_set, get_set_same, get_set_other, get_push_here, get_push_before}

-- a world and its history are seen alike
pub same_sight : (log : List Entry) (s : World) → Shows log s → sight_in s ≡ sight_after s.opening log
same_sight log s k = λ i. record {
  injected = k.injected i;
  learnt = k.learnt i;
  boards = k.boards i;
  plans = k.plans i;
  view = λ u. k.view u i;
  hand = λ u. k.hand u i;
  waiting = λ c. k.waiting c i;
  packet = λ id. k.packet id i;
}

abbrev pub FitsVerdict : World → Verdict → Type 0
FitsVerdict s (GoesOn h) = into s.opening h.node (Link h.link) < length s.channels
FitsVerdict s (CameByDown l) = Unit {0}
FitsVerdict s BelowFloor = Unit {0}
FitsVerdict s Arrives = Unit {0}
FitsVerdict s (LeavesByDown l) = Unit {0}
FitsVerdict s (NoRoom h) = Unit {0}

-- what an entry needs of the world in which it is made
abbrev pub Fits : World → Entry → Type 0
Fits s (DidInject id e source dest room) = (id ≡ length s.records) × (source < length s.channels)
Fits s (DidLearn e) = Unit {0}
Fits s (DidTake u way id) = (u < length s.hands) × (into s.opening u way < length s.channels) × (slice_get (slice_index_or s.channels (into s.opening u way) []) 0 ≡ Some id)
Fits s (DidRead u k) = u < length s.views
Fits s (DidAct u id way restamp v) = (u < length s.hands) × (id < length s.records) × FitsVerdict s v × (slice_index_or s.hands u None ≡ Some (record { id = id; way = way }))
Fits s (DidChange b) = Unit {0}
Fits s (DidInstall e t b) = Unit {0}

-- the packet is under way
abbrev pub IsLeft : World → ℕ → Type 0
IsLeft s id = (r : Record) × (slice_get s.records id ≡ Some r) × (r.fate ≡ Left)

-- what an entry concerns is under way in this world
abbrev pub ConcernsLeft : World → Entry → Type 0
ConcernsLeft s (DidInject id e source dest room) = slice_get s.records id ≡ None
ConcernsLeft s (DidLearn e) = Unit {0}
ConcernsLeft s (DidTake u way id) = IsLeft s id
ConcernsLeft s (DidRead u k) = Unit {0}
ConcernsLeft s (DidAct u id way restamp v) = IsLeft s id
ConcernsLeft s (DidChange b) = Unit {0}
ConcernsLeft s (DidInstall e t b) = Unit {0}

-- what an entry that fits concerns is under way
pub concerns_left : (s : World) → IsWorld s → (entry : Entry) → Fits s entry → ConcernsLeft s entry
concerns_left s ok (DidInject id e source dest room) f = let i = f.0 in slice_get_past s.records id (omega arith)
concerns_left s ok (DidLearn e) f = tt
concerns_left s ok (DidTake u way id) f =
    let w = ok.placed.waiting (into s.opening u way) 0 id f.2 in
    let at = slice_get-get_or s.records id (fresh id 0 0 0 0) w.0 in
    (slice_index_or s.records id (fresh id 0 0 0 0), at, waits_left (slice_index_or s.records id (fresh id 0 0 0 0)) w.1.0 w.1.1 (ok.placed.each id _ at) w.1.3)
  where
    waits_left : (r : Record) (v : ℕ) (by : Way) → IsPacket s.opening s.plans r (ok.place id) → ok.place id ≡ Waits v by → r.fate ≡ Left
    waits_left r v by p e =
        let q : IsPacket s.opening s.plans r (Waits v by) = subst (λ (x : Place). IsPacket s.opening s.plans r x) e p in
        q.fits.0
concerns_left s ok (DidRead u k) f = tt
concerns_left s ok (DidAct u id way restamp v) f =
    let h = ok.placed.held u (record { id = id; way = way }) f.3 in
    let at = slice_get-get_or s.records id (fresh id 0 0 0 0) h.0 in
    (slice_index_or s.records id (fresh id 0 0 0 0), at, hand_left (slice_index_or s.records id (fresh id 0 0 0 0)) (ok.placed.each id _ at) h.1)
  where
    hand_left : (r : Record) → IsPacket s.opening s.plans r (ok.place id) → ok.place id ≡ InHand u way → r.fate ≡ Left
    hand_left r p e =
        let q : IsPacket s.opening s.plans r (InHand u way) = subst (λ (x : Place). IsPacket s.opening s.plans r x) e p in
        q.fits.0
concerns_left s ok (DidChange b) f = tt
concerns_left s ok (DidInstall e t b) f = tt

-- and so it is by the history
pub concerns_under_way : (log : List Entry) (s : World) → Shows log s → (entry : Entry) → ConcernsLeft s entry → history.ConcernsOneUnderWay entry log
concerns_under_way log s k (DidInject id e source dest room) l = sym (k.packet id) ∙ l
concerns_under_way log s k (DidLearn e) l = tt
concerns_under_way log s k (DidTake u way id) l = (l.0, sym (k.packet id) ∙ l.1, l.2)
concerns_under_way log s k (DidRead u n) l = tt
concerns_under_way log s k (DidAct u id way restamp v) l = (l.0, sym (k.packet id) ∙ l.1, l.2)
concerns_under_way log s k (DidChange b) l = tt
concerns_under_way log s k (DidInstall e t b) l = tt

-- a channel after a put, by its puts and takes
put_shows : (channels : List (List ℕ)) (c0 id c n : ℕ) (xs : List ℕ) → c0 < length channels → slice_index_or channels c [] ≡ drop n xs → n ≤ length xs →
    slice_index_or (put_into channels c0 id) c [] ≡ drop n (if c0 == c then xs ++ id ∷ [] else xs)
put_shows channels c0 id c n xs c_in here few = chosen (or_set channels c0 c (slice_index_or channels c0 [] ++ id ∷ []) [] c_in) (eqb_tells c0 c)
  where
    chosen : ((c ≡ c0) × (slice_index_or (put_into channels c0 id) c [] ≡ slice_index_or channels c0 [] ++ id ∷ [])) ⊎ ((c ≢ c0) × (slice_index_or (put_into channels c0 id) c [] ≡ slice_index_or channels c [])) →
        ((eqb c0 c ≡ true) × (c0 ≡ c)) ⊎ ((eqb c0 c ≡ false) × (c0 ≢ c)) → slice_index_or (put_into channels c0 id) c [] ≡ drop n (if c0 == c then xs ++ id ∷ [] else xs)
    chosen (inl p) (inl q) =
        rw q.0 (p.1 ∙ ap (λ (x : ℕ). slice_index_or channels x [] ++ id ∷ []) q.1 ∙ ap (λ (l : List ℕ). l ++ id ∷ []) here ∙ sym (drop-append-le n xs (id ∷ []) few))
    chosen (inl p) (inr q) = absurd (q.1 (sym p.0))
    chosen (inr p) (inl q) = absurd (p.0 (sym q.1))
    chosen (inr p) (inr q) = rw q.0 (p.1 ∙ here)

put_few : (b : Bool) (id n : ℕ) (xs : List ℕ) → n ≤ length xs → n ≤ length (if b then xs ++ id ∷ [] else xs)
put_few true id n xs few = rw length_push (omega arith)
put_few false id n xs few = few

-- a channel after a take
take_shows : (channels : List (List ℕ)) (c0 c n : ℕ) (xs : List ℕ) → c0 < length channels → slice_index_or channels c [] ≡ drop n xs →
    slice_index_or (taken_from channels c0) c [] ≡ drop (if c0 == c then n + 1 else n) xs
take_shows channels c0 c n xs c_in here = chosen (or_set channels c0 c (drop 1 (slice_index_or channels c0 [])) [] c_in) (eqb_tells c0 c)
  where
    chosen : ((c ≡ c0) × (slice_index_or (taken_from channels c0) c [] ≡ drop 1 (slice_index_or channels c0 []))) ⊎ ((c ≢ c0) × (slice_index_or (taken_from channels c0) c [] ≡ slice_index_or channels c [])) →
        ((eqb c0 c ≡ true) × (c0 ≡ c)) ⊎ ((eqb c0 c ≡ false) × (c0 ≢ c)) → slice_index_or (taken_from channels c0) c [] ≡ drop (if c0 == c then n + 1 else n) xs
    chosen (inl p) (inl q) =
        rw q.0 (p.1 ∙ ap (λ (x : ℕ). drop 1 (slice_index_or channels x [])) q.1 ∙ ap (λ (l : List ℕ). drop 1 l) here ∙ drop-drop 1 n xs)
    chosen (inl p) (inr q) = absurd (q.1 (sym p.0))
    chosen (inr p) (inl q) = absurd (p.0 (sym q.1))
    chosen (inr p) (inr q) = rw q.0 (p.1 ∙ here)

take_few : (channels : List (List ℕ)) (c0 id c n : ℕ) (xs : List ℕ) → slice_index_or channels c [] ≡ drop n xs → slice_get (slice_index_or channels c0 []) 0 ≡ Some id → n ≤ length xs →
    (if c0 == c then n + 1 else n) ≤ length xs
take_few channels c0 id c n xs here first few = chosen (eqb_tells c0 c)
  where
    chosen : ((eqb c0 c ≡ true) × (c0 ≡ c)) ⊎ ((eqb c0 c ≡ false) × (c0 ≢ c)) → (if c0 == c then n + 1 else n) ≤ length xs
    chosen (inl q) =
        let l = slice_get_within (slice_index_or channels c0 []) 0 id first in
        let m = ap length (ap (λ (x : ℕ). slice_index_or channels x []) q.1 ∙ here) in
        rw q.0 (omega (arith, length-drop n xs))
    chosen (inr q) = rw q.0 few

-- a list with one place written, as a function of the place
set_shows : {X : Type 0} (xs : List X) (i j : ℕ) (y d : X) (old : X) → i < length xs → slice_index_or xs j d ≡ old → slice_index_or (slice_set xs i y) j d ≡ (if i == j then y else old)
set_shows {X} xs i j y d old h e = chosen (or_set xs i j y d h) (eqb_tells i j)
  where
    chosen : ((j ≡ i) × (slice_index_or (slice_set xs i y) j d ≡ y)) ⊎ ((j ≢ i) × (slice_index_or (slice_set xs i y) j d ≡ slice_index_or xs j d)) →
        ((eqb i j ≡ true) × (i ≡ j)) ⊎ ((eqb i j ≡ false) × (i ≢ j)) → slice_index_or (slice_set xs i y) j d ≡ (if i == j then y else old)
    chosen (inl p) (inl q) = rw q.0 p.1
    chosen (inl p) (inr q) = absurd (q.1 (sym p.0))
    chosen (inr p) (inl q) = absurd (p.0 (sym q.1))
    chosen (inr p) (inr q) = rw q.0 (p.1 ∙ e)

-- the records after a push
push_shows : (records : List Record) (r : Record) (id j : ℕ) (old : Option Record) → id ≡ length records → slice_get records j ≡ old → slice_get (records ++ r ∷ []) j ≡ (if id == j then Some r else old)
push_shows records r id j old is e = chosen (eqb_tells id j) (cases_lt j (length records))
  where
    chosen : ((eqb id j ≡ true) × (id ≡ j)) ⊎ ((eqb id j ≡ false) × (id ≢ j)) → ((j < length records) ⊎ (length records ≤ j)) → slice_get (records ++ r ∷ []) j ≡ (if id == j then Some r else old)
    chosen (inl q) w = rw q.0 (ap (λ (x : ℕ). slice_get (records ++ r ∷ []) x) (sym q.1 ∙ is) ∙ get_push_here records r)
    chosen (inr q) (inl lt) = rw q.0 (get_push_before records j r lt ∙ e)
    chosen (inr q) (inr ge) =
        let ne = q.1 in
        let past : slice_get (records ++ r ∷ []) j ≡ None = slice_get_past (records ++ r ∷ []) j (rw length_push (omega arith)) in
        rw q.0 (past ∙ sym (slice_get_past records j ge) ∙ e)

-- the records after one was acted on
act_shows : (records : List Record) (f : Record → Record) (id j : ℕ) (d : Record) (old : Option Record) → id < length records → slice_get records j ≡ old →
    slice_get (slice_set records id (f (slice_index_or records id d))) j ≡ (if id == j then option_map f old else old)
act_shows records f id j d old h e = chosen (eqb_tells id j)
  where
    chosen : ((eqb id j ≡ true) × (id ≡ j)) ⊎ ((eqb id j ≡ false) × (id ≢ j)) → slice_get (slice_set records id (f (slice_index_or records id d))) j ≡ (if id == j then option_map f old else old)
    chosen (inl q) =
        let here : slice_get records id ≡ Some (slice_index_or records id d) = slice_get-get_or records id d h in
        let there : old ≡ Some (slice_index_or records id d) = sym e ∙ ap (λ (x : ℕ). slice_get records x) (sym q.1) ∙ here in
        rw (q.0, there) (ap (λ (x : ℕ). slice_get (slice_set records id (f (slice_index_or records id d))) x) (sym q.1) ∙ get_set_same records id (f (slice_index_or records id d)) h)
    chosen (inr q) = rw q.0 (get_set_other records id j (f (slice_index_or records id d)) (λ x. q.1 (sym x)) ∙ e)

act_waiting : (s : World) (v : Verdict) (id c n : ℕ) (xs : List ℕ) → FitsVerdict s v → slice_index_or s.channels c [] ≡ drop n xs → n ≤ length xs →
    (slice_index_or (sent_on s.opening s.channels v id) c [] ≡ drop n (if history.is_put_into s.opening c v then xs ++ id ∷ [] else xs)) × (n ≤ length (if history.is_put_into s.opening c v then xs ++ id ∷ [] else xs))
act_waiting s (GoesOn h) id c n xs f e few =
    (put_shows s.channels (into s.opening h.node (Link h.link)) id c n xs f e few, put_few (into s.opening h.node (Link h.link) == c) id n xs few)
act_waiting s (CameByDown l) id c n xs f e few = (e, few)
act_waiting s BelowFloor id c n xs f e few = (e, few)
act_waiting s Arrives id c n xs f e few = (e, few)
act_waiting s (LeavesByDown l) id c n xs f e few = (e, few)
act_waiting s (NoRoom h) id c n xs f e few = (e, few)

-- the world after an entry is that of the history with it
pub show_after : (log : List Entry) (s : World) → Shows log s → (entry : Entry) → Fits s entry → history.ConcernsOneUnderWay entry log → Shows (entry ∷ log) (after s entry)
show_after log s k (DidInject id e source dest room) f w = record {
  ends_once = (w, k.ends_once);
  injected = length_push s.records (fresh id e source dest room) ∙ ap (λ (n : ℕ). n + 1) k.injected;
  learnt = k.learnt;
  boards = k.boards;
  plans = k.plans;
  view = k.view;
  hand = k.hand;
  waiting = λ c. put_shows s.channels source id c (history.take_count s.opening c log) (history.puts s.opening c log) f.1 (k.waiting c) (k.no_more_takes c);
  no_more_takes = λ c. put_few (source == c) id (history.take_count s.opening c log) (history.puts s.opening c log) (k.no_more_takes c);
  packet = λ j. push_shows s.records (fresh id e source dest room) id j (history.packet j log) f.0 (k.packet j);
}
show_after log s k (DidLearn e) f w = record {
  ends_once = (w, k.ends_once);
  injected = k.injected;
  learnt = ap (λ (n : ℕ). max n e) k.learnt;
  boards = k.boards;
  plans = k.plans;
  view = k.view;
  hand = k.hand;
  waiting = k.waiting;
  no_more_takes = k.no_more_takes;
  packet = k.packet;
}
show_after log s k (DidTake u way id) f w = record {
  ends_once = (w, k.ends_once);
  injected = k.injected;
  learnt = k.learnt;
  boards = k.boards;
  plans = k.plans;
  view = k.view;
  hand = λ v. set_shows s.hands u v (Some (record { id = id; way = way })) None (history.hand v log) f.0 (k.hand v);
  waiting = λ c. take_shows s.channels (into s.opening u way) c (history.take_count s.opening c log) (history.puts s.opening c log) f.1 (k.waiting c);
  no_more_takes = λ c. take_few s.channels (into s.opening u way) id c (history.take_count s.opening c log) (history.puts s.opening c log) (k.waiting c) f.2 (k.no_more_takes c);
  packet = k.packet;
}
show_after log s k (DidRead u n) f w = record {
  ends_once = (w, k.ends_once);
  injected = k.injected;
  learnt = k.learnt;
  boards = k.boards;
  plans = k.plans;
  view = λ v. set_shows s.views u v n 0 (history.view v log) f (k.view v);
  hand = k.hand;
  waiting = k.waiting;
  no_more_takes = k.no_more_takes;
  packet = k.packet;
}
show_after log s k (DidAct u id way restamp v) f w = record {
  ends_once = (w, k.ends_once);
  injected = length-set s.records id (ruled u way restamp v (slice_index_or s.records id (fresh id 0 0 0 0))) ∙ k.injected;
  learnt = k.learnt;
  boards = k.boards;
  plans = k.plans;
  view = k.view;
  hand = λ w. set_shows s.hands u w None None (history.hand w log) f.0 (k.hand w);
  waiting = λ c. (act_waiting s v id c (history.take_count s.opening c log) (history.puts s.opening c log) f.2 (k.waiting c) (k.no_more_takes c)).0;
  no_more_takes = λ c. (act_waiting s v id c (history.take_count s.opening c log) (history.puts s.opening c log) f.2 (k.waiting c) (k.no_more_takes c)).1;
  packet = λ j. act_shows s.records (ruled u way restamp v) id j (fresh id 0 0 0 0) (history.packet j log) f.1 (k.packet j);
}
show_after log s k (DidChange b) f w = record {
  ends_once = (w, k.ends_once);
  injected = k.injected;
  learnt = k.learnt;
  boards = ap (λ (l : List _). l ++ b ∷ []) k.boards;
  plans = k.plans;
  view = k.view;
  hand = k.hand;
  waiting = k.waiting;
  no_more_takes = k.no_more_takes;
  packet = k.packet;
}
show_after log s k (DidInstall e t b) f w = record {
  ends_once = (w, k.ends_once);
  injected = k.injected;
  learnt = k.learnt;
  boards = ap (λ (l : List Board). l ++ b ∷ []) k.boards;
  plans = ap (λ (l : List Plan). l ++ t ∷ []) k.plans;
  view = k.view;
  hand = k.hand;
  waiting = k.waiting;
  no_more_takes = k.no_more_takes;
  packet = k.packet;
}

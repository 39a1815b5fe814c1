-- Each taker meets its sender, once.
use Rattle.std.specs.Prelude.{◌≡◌, ℕ, ◌+◌, ◌<◌, ◌≤◌, zero, suc, Bool, true, false, List, [], ◌∷◌, ◌++◌, Option, Some, None, sum_by, length, map, slice_index, slice_index_or, slice_set, eqb}
use Rattle.std.proofs.Common.{get_or, refl, arith, ap, ◌∙◌, subst, sym, append_assoc}
use Rattle.std.proofs.lemmas.List.{append-nil, length-map, map-append, same_from_push}
use Rattle.std.proofs.lemmas.Bool.{eqb-true, eqb-false}
use Rattle.std.proofs.lemmas.List.{length-set, get_or-set_same, get_or-set_other, length_push, get_or_read}
use Rattle.std.proofs.lemmas.List.Sums.{sum_by_push, sum_by-append, sum_by-set}
use Rattle.ir_links.specs.Ends.{Channel, Sender, Taker, Remains}
use Rattle.ir_control.specs.Slots.{slot_sent, times_in_slots, weight_taken, left_in}
use Rattle.ir_control.specs.Pairs.{ArePaired, slot_line, line_at}
use Rattle.ir_control.proofs.Sums.{sum_of_none}

module _ {P : Type 0} where
  abbrev IsNothing : Option (Channel P) → Type 0
  IsNothing None = Unit {0}
  IsNothing (Some l) = ⊥

module _ {P T : Type 0} where
  pub record IsSettling (slots_0 : List (Option (Sender P T))) (takers_0 : List (Taker P T)) (left_0 : List T)
      (peers : List ℕ) (slots : List (Option (Sender P T))) (takers : List (Taker P T)) (left : List T) : Type 0 where
    pub paired : ArePaired peers slots takers
    pub account : (w : T → ℕ) → (times_in_slots w slots + sum_by w left) + weight_taken w takers_0 ≡ (times_in_slots w slots_0 + sum_by w left_0) + weight_taken w takers

  line_at_push : (ts : List (Taker P T)) (t : Taker P T) → line_at (ts ++ t ∷ []) (length ts) ≡ Some t.channel
  line_at_push [] t = refl
  line_at_push (x ∷ ts) t = line_at_push ts t

  line_at_before : (ts : List (Taker P T)) (t : Taker P T) (k : ℕ) → k < length ts → line_at (ts ++ t ∷ []) k ≡ line_at ts k
  line_at_before [] t k lt = absurd (omega (arith, lt))
  line_at_before (x ∷ ts) t zero lt = refl
  line_at_before (x ∷ ts) t (suc k) lt = line_at_before ts t k (omega (arith, lt))

  holds_line : (slot : Option (Sender P T)) (channel : Channel P) → slot_line slot ≡ Some channel → (s : Sender P T) → slot ≡ Some s → s.channel ≡ channel
  holds_line slot channel h s e = some_same (sym (ap slot_line e) ∙ h) where
    some_same : Some s.channel ≡ Some channel → s.channel ≡ channel
    some_same e = ap (λ (o : Option (Channel P)). elim o [ None ↦ channel | Some l ↦ l ]) e

  holds_some : (slot : Option (Sender P T)) (channel : Channel P) → slot_line slot ≡ Some channel → slot ≡ None → ⊥
  holds_some slot channel h e = differ (sym (ap slot_line e) ∙ h) where
    differ : None ≡ Some channel → ⊥
    differ e = subst (λ (o : Option (Channel P)). IsNothing o) e tt

  module _ (peers : List ℕ) (slots : List (Option (Sender P T))) (rest : List (Taker P T)) (t : Taker P T) (paired : ArePaired peers slots (rest ++ t ∷ [])) where
    pub last_below : length rest < length peers
    last_below = let len = length_push rest t in let most = paired.takers_len in omega (arith, len, most)

    pub place_below : slice_index peers (length rest) < length slots
    place_below = subst (λ (n : ℕ). slice_index peers (length rest) < n) (sym paired.slots_len) (paired.peers_are.within (length rest) last_below)

    place_back : slice_index peers (slice_index peers (length rest)) ≡ length rest
    place_back = paired.peers_are.back (length rest) last_below

    pub at_place : slot_line (slice_index_or slots (slice_index peers (length rest)) None) ≡ Some t.channel
    at_place =
        let len = length_push rest t in
        let back = place_back in
        paired.here (slice_index peers (length rest)) (paired.peers_are.within (length rest) last_below) (omega (arith, len, back))
        ∙ ap (λ k. line_at (rest ++ t ∷ []) k) place_back ∙ line_at_push rest t

    here_after : (k : ℕ) → k < length peers → slice_index peers k < length rest
        → slot_line (slice_index_or (slice_set slots (slice_index peers (length rest)) None) k None) ≡ line_at rest (slice_index peers k)
    here_after k lt before =
        let len = length_push rest t in
        let other : k ≡ slice_index peers (length rest) → ⊥ = λ e. (let same : slice_index peers k ≡ length rest = ap (slice_index peers) e ∙ place_back in omega (arith, same, before)) in
        ap slot_line (get_or-set_other slots (slice_index peers (length rest)) k None None other)
        ∙ paired.here k lt (omega (arith, len, before)) ∙ line_at_before rest t (slice_index peers k) before

    gone_after : (k : ℕ) → k < length peers → length rest ≤ slice_index peers k
        → slice_index_or (slice_set slots (slice_index peers (length rest)) None) k None ≡ None
    gone_after k lt after = go (eqb k (slice_index peers (length rest))) refl where
      go : (b : Bool) → eqb k (slice_index peers (length rest)) ≡ b → slice_index_or (slice_set slots (slice_index peers (length rest)) None) k None ≡ None
      go true e =
          ap (λ j. slice_index_or (slice_set slots (slice_index peers (length rest)) None) j None) (eqb-true k (slice_index peers (length rest)) e)
          ∙ get_or-set_same slots (slice_index peers (length rest)) None None place_below
      go false e =
          let ne : k ≡ slice_index peers (length rest) → ⊥ = eqb-false k (slice_index peers (length rest)) e in
          let not_last : slice_index peers k ≡ length rest → ⊥ = λ same. ne (sym (paired.peers_are.back k lt) ∙ ap (slice_index peers) same) in
          let len = length_push rest t in
          get_or-set_other slots (slice_index peers (length rest)) k None None ne ∙ paired.gone k lt (omega (arith, len, not_last, after))

    pub paired_after : ArePaired peers (slice_set slots (slice_index peers (length rest)) None) rest
    paired_after = record {
      peers_are = paired.peers_are;
      slots_len = length-set slots (slice_index peers (length rest)) None ∙ paired.slots_len;
      takers_len = (let lt = last_below in omega (arith, lt));
      here = here_after;
      gone = gone_after;
    }

  -- what a step of the loop reads: the slot x at the place of the last taker
  module _ (slots_0 : List (Option (Sender P T))) (takers_0 : List (Taker P T)) (left_0 : List T)
      (peers : List ℕ) (slots : List (Option (Sender P T))) (rest : List (Taker P T)) (t : Taker P T) (left : List T)
      (settling : IsSettling slots_0 takers_0 left_0 peers slots (rest ++ t ∷ []) left)
      (x : Option (Sender P T)) (read : x ≡ get_or slots (slice_index peers (length rest)) x) where
    read_none : x ≡ slice_index_or slots (slice_index peers (length rest)) None
    read_none = get_or_read slots (slice_index peers (length rest)) x (place_below peers slots rest t settling.paired) read None

    line_of_x : slot_line x ≡ Some t.channel
    line_of_x = ap slot_line read_none ∙ at_place peers slots rest t settling.paired

    pub one_channel : (s : Sender P T) → x ≡ Some s → s.channel ≡ t.channel
    one_channel = holds_line x t.channel line_of_x

    pub never_empty : x ≡ None → ⊥
    never_empty = holds_some x t.channel line_of_x

    pub settled_one : (s : Sender P T) → x ≡ Some s → (more left_1 : List T) → s.sent ≡ t.taken ++ more → left_1 ≡ left ++ more
        → IsSettling slots_0 takers_0 left_0 peers (slice_set slots (slice_index peers (length rest)) None) rest left_1
    settled_one s is more left_1 sent appended = record {
      paired = paired_after peers slots rest t settling.paired;
      account = λ w.
          (let before = settling.account w in
          let put = sum_by-set (slot_sent w) slots (slice_index peers (length rest)) None None (place_below peers slots rest t settling.paired) in
          let was : slot_sent w (slice_index_or slots (slice_index peers (length rest)) None) ≡ sum_by w s.sent = ap (slot_sent w) (sym read_none ∙ is) in
          let split : sum_by w s.sent ≡ sum_by w t.taken + sum_by w more = ap (sum_by w) sent ∙ sum_by-append w t.taken more in
          let grown : sum_by w left_1 ≡ sum_by w left + sum_by w more = ap (sum_by w) appended ∙ sum_by-append w left more in
          let pushed = sum_by_push (λ (t : Taker P T). sum_by w t.taken) rest t in
          omega (arith, before, put, was, split, grown, pushed));
    }

  pub all_settled : (slots_0 : List (Option (Sender P T))) (takers_0 : List (Taker P T)) (left_0 : List T)
      (peers : List ℕ) (slots : List (Option (Sender P T))) (left : List T)
      → IsSettling slots_0 takers_0 left_0 peers slots [] left
      → (w : T → ℕ) → times_in_slots w slots_0 + sum_by w left_0 ≡ weight_taken w takers_0 + sum_by w left
  all_settled slots_0 takers_0 left_0 peers slots left settling w =
      let account = settling.account w in
      let none : times_in_slots w slots ≡ 0 = sum_of_none (slot_sent w) slots None
      (λ k lt. ap (slot_sent w) (settling.paired.gone k (subst (λ (n : ℕ). k < n) settling.paired.slots_len lt) (omega arith))) in
      omega (arith, account, none)

  -- the same, as the code reads it
  module _ (slots_0 : List (Option (Sender P T))) (takers_0 : List (Taker P T)) (left_0 : List T)
      (peers : List ℕ) (slots : List (Option (Sender P T))) (takers rest : List (Taker P T)) (t : Taker P T) (left : List T)
      (settling : IsSettling slots_0 takers_0 left_0 peers slots takers left) (popped : takers ≡ rest ++ t ∷ [])
      (q : ℕ) (q_is : q ≡ length rest)
      (x : Option (Sender P T)) (read : x ≡ get_or slots (slice_index peers q) x) where
    settling_at : IsSettling slots_0 takers_0 left_0 peers slots (rest ++ t ∷ []) left
    settling_at = subst (λ (ts : List (Taker P T)). IsSettling slots_0 takers_0 left_0 peers slots ts left) popped settling

    read_at : x ≡ get_or slots (slice_index peers (length rest)) x
    read_at = subst (λ (k : ℕ). x ≡ get_or slots (slice_index peers k) x) q_is read

    pub one_channel_at : (s : Sender P T) → Some s ≡ x → s.channel ≡ t.channel
    one_channel_at s is = one_channel slots_0 takers_0 left_0 peers slots rest t left settling_at x read_at s (sym is)

    pub never_empty_at : x ≡ None → ⊥
    never_empty_at = never_empty slots_0 takers_0 left_0 peers slots rest t left settling_at x read_at

    pub settled_at : (s : Sender P T) → Some s ≡ x → (more left_1 : List T) → s.sent ≡ t.taken ++ more → left_1 ≡ left ++ more
        → (new : Option (Sender P T)) → new ≡ None
        → IsSettling slots_0 takers_0 left_0 peers (slice_set slots (slice_index peers q) new) rest left_1
    settled_at s is more left_1 sent appended new new_is =
        subst (λ (slot : Option (Sender P T)). IsSettling slots_0 takers_0 left_0 peers (slice_set slots (slice_index peers q) slot) rest left_1) (sym new_is)
        (subst (λ (k : ℕ). IsSettling slots_0 takers_0 left_0 peers (slice_set slots (slice_index peers k) None) rest left_1) (sym q_is)
        (settled_one slots_0 takers_0 left_0 peers slots rest t left settling_at x read_at s (sym is) more left_1 sent appended))

  -- one channel more, and one taker less
  pub room_after : (takers rest : List (Taker P T)) (t : Taker P T) (len len_1 room : ℕ) → takers ≡ rest ++ t ∷ [] → len + length takers ≤ room → len_1 ≡ len + 1 → len_1 + length rest ≤ room
  room_after takers rest t len len_1 room popped fits grown =
      let lengths : length takers ≡ length rest + 1 = ap length popped ∙ length_push rest t in
      omega (arith, lengths, fits, grown)

  pub left_push : (channels : List (Remains P T)) (r : Remains P T) → left_in (channels ++ r ∷ []) ≡ left_in channels ++ r.left
  left_push [] r = append-nil r.left
  left_push (c ∷ cs) r = ap (λ (l : List T). c.left ++ l) (left_push cs r) ∙ sym (append_assoc c.left (left_in cs) r.left)

  -- The senders that are left are of the channels of the takers that are left, in order.
  pub record IsMeeting (senders_0 : List (Sender P T)) (takers_0 : List (Taker P T)) (left_0 : List T)
      (senders : List (Sender P T)) (takers : List (Taker P T)) (left : List T) : Type 0 where
    pub lines : map (λ s. s.channel) senders ≡ map (λ t. t.channel) takers
    pub account : (w : T → ℕ) → (sum_by (λ s. sum_by w s.sent) senders + sum_by w left) + weight_taken w takers_0
        ≡ (sum_by (λ s. sum_by w s.sent) senders_0 + sum_by w left_0) + weight_taken w takers

  module _ (senders senders_1 : List (Sender P T)) (takers takers_1 : List (Taker P T)) (s : Sender P T) (t : Taker P T)
      (lines : map (λ (s : Sender P T). s.channel) senders ≡ map (λ (t : Taker P T). t.channel) takers)
      (sender : senders ≡ senders_1 ++ s ∷ []) (taker : takers ≡ takers_1 ++ t ∷ []) where
    lasts : (map (λ (s : Sender P T). s.channel) senders_1 ≡ map (λ (t : Taker P T). t.channel) takers_1) × (s.channel ≡ t.channel)
    lasts =
        same_from_push (map (λ (s : Sender P T). s.channel) senders_1) (map (λ (t : Taker P T). t.channel) takers_1) s.channel t.channel
        (sym (map-append (λ (s : Sender P T). s.channel) senders_1 (s ∷ [])) ∙ ap (map (λ (s : Sender P T). s.channel)) (sym sender) ∙ lines
        ∙ ap (map (λ (t : Taker P T). t.channel)) taker ∙ map-append (λ (t : Taker P T). t.channel) takers_1 (t ∷ []))

    pub last_channel : s.channel ≡ t.channel
    last_channel = lasts.1

    pub met_one : (senders_0 : List (Sender P T)) (takers_0 : List (Taker P T)) (left_0 left more left_1 : List T) → IsMeeting senders_0 takers_0 left_0 senders takers left
        → s.sent ≡ t.taken ++ more → left_1 ≡ left ++ more → IsMeeting senders_0 takers_0 left_0 senders_1 takers_1 left_1
    met_one senders_0 takers_0 left_0 left more left_1 meeting sent appended = record {
      lines = lasts.0;
      account = λ w.
          (let before = meeting.account w in
          let split : sum_by w s.sent ≡ sum_by w t.taken + sum_by w more = ap (sum_by w) sent ∙ sum_by-append w t.taken more in
          let grown : sum_by w left_1 ≡ sum_by w left + sum_by w more = ap (sum_by w) appended ∙ sum_by-append w left more in
          let outs = ap (sum_by (λ (s : Sender P T). sum_by w s.sent)) sender ∙ sum_by_push (λ (s : Sender P T). sum_by w s.sent) senders_1 s in
          let ins = ap (sum_by (λ (t : Taker P T). sum_by w t.taken)) taker ∙ sum_by_push (λ (t : Taker P T). sum_by w t.taken) takers_1 t in
          omega (arith, before, split, grown, outs, ins));
    }

  -- as many senders as takers
  pub as_many_met : (senders : List (Sender P T)) (takers : List (Taker P T)) → map (λ s. s.channel) senders ≡ map (λ t. t.channel) takers → length senders ≡ length takers
  as_many_met senders takers lines = sym (length-map senders (λ (s : Sender P T). s.channel)) ∙ ap length lines ∙ length-map takers (λ (t : Taker P T). t.channel)

  pub all_met : (senders_0 : List (Sender P T)) (takers_0 : List (Taker P T)) (left_0 : List T) (senders : List (Sender P T)) (left : List T) → IsMeeting senders_0 takers_0 left_0 senders [] left
      → (w : T → ℕ) → sum_by (λ s. sum_by w s.sent) senders_0 + sum_by w left_0 ≡ weight_taken w takers_0 + sum_by w left
  all_met senders_0 takers_0 left_0 [] left meeting w = let account = meeting.account w in omega (arith, account)
  all_met senders_0 takers_0 left_0 (s ∷ ss) left meeting w = absurd (let same = as_many_met (s ∷ ss) [] meeting.lines in omega (arith, same))

-- what holds while ends are brought together
pub record IsKept (Settling Room Same Used OfNet : Type 0) : Type 0 where
  pub settling : Settling
  pub room : Room
  pub same : Same
  pub used : Used
  pub of_net : OfNet

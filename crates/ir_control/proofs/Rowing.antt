-- Rows grow node by node.
use Rattle.std.specs.Prelude.{◌≡◌, ℕ, zero, suc, ◌+◌, ◌<◌, Bool, true, false, eqb, List, [], ◌∷◌, ◌++◌, Option, Some, None, length, map, sum_by, slice_get, slice_index, slice_index_or, slice_set, All, Vec}
use Rattle.std.specs.Global.{Global}
use Rattle.std.proofs.Common.{refl, arith, sym, ap, ◌∙◌, subst, get_or}
use Rattle.std.proofs.lemmas.Bool.{eqb-true, eqb-false}
use Rattle.std.proofs.lemmas.Option.{same_Some, none-some}
use Rattle.std.proofs.lemmas.List.{get_or_default, length-append, length_push, length-map, length-set, get_or-set_same, get_or-set_other}
use Rattle.std.proofs.lemmas.List.Sums.{sum_by-append, sum_by_push, sum_by-cons, sum_by-set}
use Rattle.ir_model.specs.Topology.{node_count, ports_of}
use Rattle.ir_worker.specs.declared.node.Node.{Node}
use Rattle.ir_worker.specs.declared.parcel.Outcome.{Outcome}
use Rattle.ir_worker.specs.Wires.{In, Out}
use Rattle.ir_control.specs.declared.leaving.EndRows.{EndRows}
use Rattle.ir_control.specs.declared.net.Net.{Net}
use Rattle.ir_control.specs.Places.{offset, way_count}
use Rattle.ir_control.specs.Pairs.{slot_line}
use Rattle.ir_control.specs.Parts.{IsNodeOf}
use Rattle.ir_control.specs.Slots.{slot_weight, slot_sent, times_in_slots, weight_taken}
use Rattle.ir_control.specs.Rowed.{AllGet, node_settled, node_taken, node_sent, AppendsEnds, AreEmptyRows, AreEndRows, AreSlotsFrom, AreWeighed, HaveRoomFor, KeepRoom}
use Rattle.std.proofs.Math.Logic.{∥∥₁_elim, ∥∥₁_prop}
use Rattle.ir_epochs.specs.declared.registry.Stamp.{Stamp}
use Rattle.ir_control.specs.Told.{IsOutcomeIn, weight_settled}
use Rattle.ir_control.proofs.Rows.{offset_next, offset_le, offset_zero}
use Rattle.ir_control.proofs.Sums.{sum_of_none}

module _ {X : Type 0} where
  get_after : (Q : ℕ → X → Type 0) (y : X) (zs : List X) → Q 0 y → AllGet (λ j z. Q (suc j) z) zs → AllGet Q (y ∷ zs)
  get_after Q y zs here rest zero x got = subst (Q 0) (same_Some y x got) here
  get_after Q y zs here rest (suc k) x got = rest k x got

  pub all_get_append : (Q : ℕ → X → Type 0) (xs ys : List X) → AllGet Q xs → ((p : ℕ) (y : X) → slice_get ys p ≡ Some y → Q (length xs + p) y) → AllGet Q (xs ++ ys)
  all_get_append Q [] ys all more = λ k x got. subst (λ (j : ℕ). Q j x) (let z : 0 + k ≡ k = omega arith in z) (more k x got)
  all_get_append Q (y ∷ xs) ys all more =
      get_after Q y (xs ++ ys) (all 0 y refl)
      (all_get_append (λ j z. Q (suc j) z) xs ys (λ j z at. all (suc j) z at)
      (λ p x got. subst (λ (j : ℕ). Q j x) (let z : length (y ∷ xs) + p ≡ suc (length xs + p) = omega arith in z) (more p x got)))

  pub all_get_none : (Q : ℕ → X → Type 0) (xs : List X) → xs ≡ [] → AllGet Q xs
  all_get_none Q xs e = λ k x got. absurd (none-some x (sym (ap (λ ys. slice_get ys k) e) ∙ got))

  slice_get_one : (y x : X) (p : ℕ) → slice_get (y ∷ []) p ≡ Some x → (p ≡ 0) × (y ≡ x)
  slice_get_one y x zero got = (refl, same_Some y x got)
  slice_get_one y x (suc p) got = absurd (none-some x got)

  pub all_get_push : (Q : ℕ → X → Type 0) (xs : List X) (y : X) → AllGet Q xs → Q (length xs) y → AllGet Q (xs ++ y ∷ [])
  all_get_push Q xs y all here = all_get_append Q xs (y ∷ []) all
      (λ p x got. (let e = slice_get_one y x p got in
      subst (λ (z : X). Q (length xs + p) z) e.1 (subst (λ (j : ℕ). Q j y) (let same = e.0 in let z : length xs ≡ length xs + p = omega (arith, same) in z) here)))

pub slot_get : {A B : Type 0} (f : A → B) (xs : List A) (p : ℕ) (b : B) → slice_get (map f xs) p ≡ Some b → (a : A) × (slice_get xs p ≡ Some a) × (f a ≡ b)
slot_get f [] p b got = absurd (none-some b got)
slot_get f (x ∷ xs) zero b got = (x, refl, same_Some (f x) b got)
slot_get f (x ∷ xs) (suc p) b got = slot_get f xs p b got

pub slots_weigh : {A : Type 0} (g : Option A → ℕ) (xs : List A) → sum_by g (map (λ x. Some x) xs) ≡ sum_by (λ x. g (Some x)) xs
slots_weigh g [] = refl
slots_weigh {A} g (x ∷ xs) =
    let rest = slots_weigh g xs in
    omega (arith, rest, sum_by-cons g (Some x) (map (λ (x : A). Some x) xs), sum_by-cons (λ (x : A). g (Some x)) x xs)

pub rows_none : (net : Net) (n ways : ℕ) (rows : EndRows) → AreEmptyRows n ways rows → AreEndRows net 0 rows
rows_none net n ways rows none = record {
  inbox_count = ap length none.inboxes.0;
  inbox_lines = all_get_none _ rows.inboxes.items none.inboxes.0;
  in_count = (let len = ap length none.takers.0 in let z = offset_zero net.topology in omega (arith, len, z));
  in_lines = all_get_none _ rows.takers.items none.takers.0;
  out_count = (let len = ap length none.senders.0 in let z = offset_zero net.topology in omega (arith, len, z));
  out_lines = all_get_none _ rows.senders.items none.senders.0;
}

pub rows_more : (net : Net) (u : ℕ) (n : Node) (rows rows_1 : EndRows) → AreEndRows net u rows → n.index ≡ u → IsNodeOf net n → AppendsEnds rows n rows_1 → AreEndRows net (u + 1) rows_1
rows_more net u n rows rows_1 are at is more =
    let here : u < node_count net.topology = (let lt = is.index_in in omega (arith, lt, at)) in
    let next = offset_next net.topology u here in
    let degree : length (ports_of net.topology n.index) ≡ length (ports_of net.topology u) = ap (λ v. length (ports_of net.topology v)) at in
    record {
      inbox_count = (let e = ap length more.inboxes in let p = length_push rows.inboxes.items n.entrances.inbox in let q = are.inbox_count in omega (arith, e, p, q));
      inbox_lines = subst (AllGet (λ k (t : In). slice_get net.inboxes.items k ≡ Some t.channel)) (sym more.inboxes)
          (all_get_push (λ k t. slice_get net.inboxes.items k ≡ Some t.channel) rows.inboxes.items n.entrances.inbox are.inbox_lines (ap (slice_get net.inboxes.items) (are.inbox_count ∙ sym at) ∙ is.inbox));
      in_count = (let e = ap length more.takers in let p = length-append rows.takers.items n.entrances.ports.items in let q = are.in_count in let d = is.ins_count in omega (arith, e, p, q, d, degree, next));
      in_lines = subst (AllGet (λ k (t : In). slice_get net.ways.items (slice_index net.peers.items k) ≡ Some t.channel)) (sym more.takers)
          (all_get_append (λ k t. slice_get net.ways.items (slice_index net.peers.items k) ≡ Some t.channel) rows.takers.items n.entrances.ports.items are.in_lines
          (λ p t got. ap (λ k. slice_get net.ways.items (slice_index net.peers.items (k + p))) (are.in_count ∙ ap (offset net.topology) (sym at)) ∙ is.ins p t got));
      out_count = (let e = ap length more.senders in let p = length-append rows.senders.items (map (λ (s : Out). Some s) n.outs.items) in let m = length-map n.outs.items (λ (s : Out). Some s) in let q = are.out_count in let d = is.outs_count in omega (arith, e, p, m, q, d, degree, next));
      out_lines = subst (AllGet (λ k (slot : Option Out). slice_get net.ways.items k ≡ slot_line slot)) (sym more.senders)
          (all_get_append (λ k slot. slice_get net.ways.items k ≡ slot_line slot) rows.senders.items (map (λ (s : Out). Some s) n.outs.items) are.out_lines
          (λ p slot got. (let s = slot_get (λ (s : Out). Some s) n.outs.items p slot got in
          ap (λ k. slice_get net.ways.items (k + p)) (are.out_count ∙ ap (offset net.topology) (sym at)) ∙ is.outs p s.0 s.1 ∙ ap slot_line s.2)));
    }

-- Rows that began with room for all ends, and have those of the nodes before this one, have room for its ends.
pub room_here : (net : Net) (u : ℕ) (n : Node) (start rows : EndRows) → n.index ≡ u → IsNodeOf net n → AreEmptyRows (node_count net.topology) (way_count net.topology) start → KeepRoom start rows
    → AreEndRows net u rows → length rows.settled.items ≡ u → HaveRoomFor rows n
room_here net u n start rows at is empty kept are settled =
    let here : u < node_count net.topology = (let lt = is.index_in in omega (arith, lt, at)) in
    let next = offset_next net.topology u here in
    let most = offset_le net.topology (u + 1) in
    let degree : length (ports_of net.topology n.index) ≡ length (ports_of net.topology u) = ap (λ v. length (ports_of net.topology v)) at in
    record {
      inboxes = (let room = empty.inboxes.1 in let same = kept.inboxes in let count = are.inbox_count in let len = rows.inboxes.ok in omega (arith, here, room, same, count, len));
      takers = (let room = empty.takers.1 in let same = kept.takers in let count = are.in_count in let len = rows.takers.ok in let d = is.ins_count in omega (arith, next, most, degree, room, same, count, len, d));
      senders = (let room = empty.senders.1 in let same = kept.senders in let count = are.out_count in let len = rows.senders.ok in let d = is.outs_count in omega (arith, next, most, degree, room, same, count, len, d));
      settled = (let room = empty.settled.1 in let same = kept.settled in let len = rows.settled.ok in omega (arith, here, room, same, settled, len));
    }

pub room_same : (rows : EndRows) → KeepRoom rows rows
room_same rows = record { inboxes = omega arith; takers = omega arith; senders = omega arith; settled = omega arith }

pub room_kept : (start rows rows_1 : EndRows) → KeepRoom start rows → KeepRoom rows rows_1 → KeepRoom start rows_1
room_kept start rows rows_1 was kept = record {
  inboxes = (let a = was.inboxes in let b = kept.inboxes in omega (arith, a, b));
  takers = (let a = was.takers in let b = kept.takers in omega (arith, a, b));
  senders = (let a = was.senders in let b = kept.senders in omega (arith, a, b));
  settled = (let a = was.settled in let b = kept.settled in omega (arith, a, b));
}

pub node_here : (net : Net) (u : ℕ) (slots : List (Option Node)) (x : Option Node) (n : Node) → AreSlotsFrom net u slots → u < node_count net.topology → x ≡ get_or slots u x → Some n ≡ x
    → (slice_index_or slots u None ≡ Some n) × (n.index ≡ u) × IsNodeOf net n
node_here net u slots x n from lt read got =
    let f = from.full u (omega arith) lt in
    let there : get_or slots u x ≡ get_or slots u None = get_or_default slots u x None (let c = from.count in omega (arith, c, lt)) in
    let same : f.0 ≡ n = same_Some f.0 n (sym f.1 ∙ sym there ∙ sym read ∙ sym got) in
    (f.1 ∙ ap (λ (m : Node). Some m) same, subst (λ (m : Node). m.index ≡ u) same f.2, subst (λ (m : Node). IsNodeOf net m) same f.3)

pub never_empty : (net : Net) (u : ℕ) (slots : List (Option Node)) (x : Option Node) → AreSlotsFrom net u slots → u < node_count net.topology → x ≡ get_or slots u x → x ≡ None → ⊥
never_empty net u slots x from lt read none =
    let f = from.full u (omega arith) lt in
    none-some f.0 (sym none ∙ read ∙ get_or_default slots u x None (let c = from.count in omega (arith, c, lt)) ∙ f.1)

pub slots_next : (net : Net) (u : ℕ) (slots : List (Option Node)) (new : Option Node) → AreSlotsFrom net u slots → u < node_count net.topology → new ≡ None → AreSlotsFrom net (u + 1) (slice_set slots u new)
slots_next net u slots new from lt none = record {
  count = length-set slots u new ∙ from.count;
  emptied = λ k less. gone k less (eqb k u) refl;
  full = λ k le less. (let other : k ≡ u → ⊥ = λ e. absurd (omega (arith, le, e)) in
      let f = from.full k (omega (arith, le)) less in
      (f.0, get_or-set_other slots u k new None other ∙ f.1, f.2, f.3));
} where
  gone : (k : ℕ) → k < u + 1 → (b : Bool) → eqb k u ≡ b → slice_index_or (slice_set slots u new) k None ≡ None
  gone k less true e = ap (λ j. slice_index_or (slice_set slots u new) j None) (eqb-true k u e) ∙ get_or-set_same slots u new None (let c = from.count in omega (arith, c, lt)) ∙ none
  gone k less false e = get_or-set_other slots u k new None (eqb-false k u e) ∙ from.emptied k (let ne = eqb-false k u e in omega (arith, less, ne))

-- what a slot held goes out of the slots' sum
pub moved_out : (f : Node → ℕ) (slots : List (Option Node)) (u : ℕ) (new : Option Node) (n : Node) → u < length slots → slice_index_or slots u None ≡ Some n → new ≡ None
    → sum_by (slot_weight f) (slice_set slots u new) + f n ≡ sum_by (slot_weight f) slots
moved_out f slots u new n lt got none =
    let put = sum_by-set (slot_weight f) slots u new None lt in
    let was : slot_weight f (slice_index_or slots u None) ≡ f n = ap (slot_weight f) got in
    let now : slot_weight f new ≡ 0 = ap (slot_weight f) none in
    omega (arith, put, was, now)

pub weighed_none : (slots : List (Option Node)) (n ways : ℕ) (rows : EndRows) → AreEmptyRows n ways rows → AreWeighed slots slots rows
weighed_none slots n ways rows none = record {
  settlings = λ w. (let p = ap (weight_settled w) none.settled.0 in omega (arith, p));
  takings = λ w. (let p = ap (weight_taken w) none.inboxes.0 in let q = ap (weight_taken w) none.takers.0 in omega (arith, p, q));
  sendings = λ w. (let p = ap (times_in_slots w) none.senders.0 in omega (arith, p));
}

pub weighed_more : (all slots : List (Option Node)) (u : ℕ) (new : Option Node) (n : Node) (rows rows_1 : EndRows) → u < length slots → slice_index_or slots u None ≡ Some n → new ≡ None → AreWeighed all slots rows → AppendsEnds rows n rows_1
    → AreWeighed all (slice_set slots u new) rows_1
weighed_more all slots u new n rows rows_1 lt got none was more = record {
  settlings = λ w. (let out = moved_out (node_settled w) slots u new n lt got none in let before = was.settlings w in
      let p = ap (weight_settled w) more.settled ∙ sum_by_push (λ (row : Vec Outcome Global). sum_by w row.items) rows.settled.items n.outcomes in
      omega (arith, out, before, p));
  takings = λ w. (let out = moved_out (node_taken w) slots u new n lt got none in let before = was.takings w in
      let p = ap (weight_taken w) more.inboxes ∙ sum_by_push (λ (t : In). sum_by w t.taken) rows.inboxes.items n.entrances.inbox in
      let q = ap (weight_taken w) more.takers ∙ sum_by-append (λ (t : In). sum_by w t.taken) rows.takers.items n.entrances.ports.items in
      omega (arith, out, before, p, q));
  sendings = λ w. (let out = moved_out (node_sent w) slots u new n lt got none in let before = was.sendings w in
      let p = ap (times_in_slots w) more.senders ∙ sum_by-append (slot_sent w) rows.senders.items (map (λ (s : Out). Some s) n.outs.items) in
      let q = slots_weigh (slot_sent w) n.outs.items in
      omega (arith, out, before, p, q));
}

-- empty slots weigh nothing
pub emptied_all : (f : Node → ℕ) (net : Net) (u : ℕ) (slots : List (Option Node)) → u ≡ node_count net.topology → AreSlotsFrom net u slots → sum_by (slot_weight f) slots ≡ 0
emptied_all f net u slots at from = sum_of_none (slot_weight f) slots None (λ k lt. ap (slot_weight f) (from.emptied k (let c = from.count in omega (arith, lt, c, at))))

pub weighed_all : (net : Net) (u : ℕ) (all slots : List (Option Node)) (rows : EndRows) → u ≡ node_count net.topology → AreSlotsFrom net u slots → AreWeighed all slots rows → AreWeighed all [] rows
weighed_all net u all slots rows at from was = record {
  settlings = λ w. (let z = emptied_all (node_settled w) net u slots at from in let e = was.settlings w in omega (arith, z, e));
  takings = λ w. (let z = emptied_all (node_taken w) net u slots at from in let e = was.takings w in omega (arith, z, e));
  sendings = λ w. (let z = emptied_all (node_sent w) net u slots at from in let e = was.sendings w in omega (arith, z, e));
}

-- all outcomes of a node of a net are of the net
pub node_outcomes : (net : Net) (n : Node) → IsNodeOf net n → All (λ o. IsOutcomeIn net.opening o) n.outcomes.items
node_outcomes net n is = λ k d lt. subst (λ (opening : Stamp). IsOutcomeIn opening (slice_index_or n.outcomes.items k d)) is.opening
    (∥∥₁_elim n.of_net ∥∥₁_prop (λ all. ∣ (all k d lt).of_net ∣₁))

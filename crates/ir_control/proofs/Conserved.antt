-- What was injected is what was settled or is left, each head as often.
use Rattle.std.specs.Prelude.{◌≡◌, ℕ, zero, suc, ◌+◌, ◌<◌, Bool, true, false, not, ◌&&◌, ◌==◌, eqb, cond, List, [], ◌∷◌, All, Option, Some, None, Vec, length, map, sum_by, slice_get, slice_index_or}
use Rattle.std.specs.Global.{Global}
use Rattle.std.proofs.Common.{refl, arith, sym, ap, ◌∙◌, subst, get_or, eq-eqb}
use Rattle.std.proofs.lemmas.Bool.{eqb-true, lt-ltb}
use Rattle.std.proofs.lemmas.Option.{same_Some, none-some, slice_get-get_or, get_or_from_slice_get, slice_get_within}
use Rattle.std.proofs.lemmas.List.{length-map}
use Rattle.std.proofs.lemmas.List.Sums.{sum_by-cons, get_or-le-sum_by}
use Rattle.ir_worker.specs.declared.node.Node.{Node}
use Rattle.ir_worker.specs.declared.parcel.Outcome.{Outcome}
use Rattle.ir_worker.specs.Account.{Head, head_of, one}
use Rattle.ir_worker.specs.Seen.{Parcel}
use Rattle.ir_worker.specs.Wires.{Out}
use Rattle.ir_control.specs.declared.injector.Accepted.{Accepted}
use Rattle.ir_control.specs.declared.injector.Injector.{Injector}
use Rattle.ir_control.specs.Heads.{head_at, times_injected, AreNumbered}
use Rattle.ir_control.specs.Reported.{IsGathered}
use Rattle.ir_control.specs.Reports.{IsSoundOutcome}
use Rattle.ir_control.specs.Rowed.{node_settled, node_taken, node_sent}
use Rattle.ir_control.specs.Slots.{slot_weight, hit, once, IsAt, AllAt, AllIn}
use Rattle.ir_control.specs.Told.{outcome_number, weight_settled}
use Rattle.ir_control.proofs.Once.{injected_once}
use Rattle.ir_control.proofs.Slotted.{full_at}
use Rattle.ir_control.proofs.Wiring.{sum_nothing, map_eq}

abbrev pub head_weight : (Head → Bool) → Parcel → ℕ
head_weight p x = one p (head_of x.packet)

abbrev pub outcome_weight : (Head → Bool) → Outcome → ℕ
outcome_weight p o = one p (head_of o.packet)

pub nodes_balanced : (p : Head → Bool) (nodes : List Node) → sum_by (node_taken (head_weight p)) nodes ≡ sum_by (node_sent (head_weight p)) nodes + sum_by (node_settled (outcome_weight p)) nodes
nodes_balanced p [] = refl
nodes_balanced p (n ∷ ns) =
    let here : node_taken (head_weight p) n ≡ node_sent (head_weight p) n + node_settled (outcome_weight p) n = n.account p in
    let rest = nodes_balanced p ns in
    omega (arith, here, rest, sum_by-cons (node_taken (head_weight p)) n ns, sum_by-cons (node_sent (head_weight p)) n ns, sum_by-cons (node_settled (outcome_weight p)) n ns)

module _ (nodes : List Node) (injector : Injector) (outs : List Out) (outs_are : outs ≡ injector.outs.items) (settled : List (Vec Outcome Global)) (left : List Parcel) (gathered : IsGathered nodes outs settled left) where
  pub conserved : (p : Head → Bool) → weight_settled (outcome_weight p) settled + sum_by (head_weight p) left ≡ times_injected p injector.accepted.items
  conserved p =
      let a = gathered.settlings (outcome_weight p) in
      let b = gathered.leavings (head_weight p) in
      let balanced = nodes_balanced p nodes in
      let sent : sum_by (λ (s : Out). sum_by (head_weight p) s.sent) outs ≡ times_injected p injector.accepted.items = ap (sum_by (λ (s : Out). sum_by (head_weight p) s.sent)) outs_are ∙ injector.account p in
      omega (arith, a, b, balanced, sent)

  -- each number below the count was settled once or is left once
  pub once_each : (i : ℕ) → weight_settled (hit outcome_number i) settled + sum_by (hit (λ (x : Parcel). x.packet.id) i) left ≡ once (length injector.accepted.items) i
  once_each i = conserved (λ h. h.id == i) ∙ injected_once injector.accepted.items injector.numbered i

module _ (accepted : List Accepted) (numbered : AreNumbered accepted) (os : List Outcome) (counts : (p : Head → Bool) → sum_by (outcome_weight p) os ≡ times_injected p accepted) where
  module _ (k : ℕ) (x : Outcome) (y : Accepted) (at_x : slice_get os k ≡ Some x) (at_y : slice_get accepted k ≡ Some y) (number : x.packet.id ≡ k) (f : Head → ℕ) where
    abbrev other : Head → Bool
    other h = (h.id == k) && not (f h == f (head_at y))

    counted : eqb (f (head_of x.packet)) (f (head_at y)) ≡ false → outcome_weight other x ≡ 1
    counted e = ap (λ b. cond (b && not (f (head_of x.packet) == f (head_at y))) 1 0) (eq-eqb x.packet.id k number) ∙ ap (λ b. cond (not b) 1 0) e

    none_such : (q : ℕ) (a : Accepted) → slice_get accepted q ≡ Some a → one other (head_at a) ≡ 0
    none_such q a got = go (eqb a.id k) refl where
      go : (b : Bool) → eqb a.id k ≡ b → one other (head_at a) ≡ 0
      go false e = ap (λ b. cond (b && not (f (head_at a) == f (head_at y))) 1 0) e
      go true e =
          let at : q ≡ k = sym (numbered q a got) ∙ eqb-true a.id k e in
          let same : a ≡ y = same_Some a y (sym got ∙ ap (slice_get accepted) at ∙ at_y) in
          ap (λ b. cond (b && not (f (head_at a) == f (head_at y))) 1 0) e ∙ ap (λ b. cond (not b) 1 0) (eq-eqb (f (head_at a)) (f (head_at y)) (ap (λ (z : Accepted). f (head_at z)) same))

    pub same_field : f (head_of x.packet) ≡ f (head_at y)
    same_field = go (eqb (f (head_of x.packet)) (f (head_at y))) refl where
      go : (b : Bool) → eqb (f (head_of x.packet)) (f (head_at y)) ≡ b → f (head_of x.packet) ≡ f (head_at y)
      go true e = eqb-true (f (head_of x.packet)) (f (head_at y)) e
      go false e =
          let one_is = counted e in
          let part = get_or-le-sum_by (outcome_weight other) os k x (slice_get_within os k x at_x) in
          let here : outcome_weight other (get_or os k x) ≡ outcome_weight other x = ap (outcome_weight other) (get_or_from_slice_get os k x x at_x) in
          let all = counts other in
          let none : times_injected other accepted ≡ 0 = sum_nothing (λ a. one other (head_at a)) accepted none_such in
          absurd (omega (arith, one_is, part, here, all, none))

  pub heads_are : length os ≡ length accepted → ((k : ℕ) (x : Outcome) → slice_get os k ≡ Some x → x.packet.id ≡ k) → map (λ o. head_of o.packet) os ≡ map head_at accepted
  heads_are len number = map_eq (λ (o : Outcome). head_of o.packet) head_at os accepted len
      (λ k x y at_x at_y.
      (let id : x.packet.id ≡ y.id = number k x at_x ∙ sym (numbered k y at_y) in
      let epoch : x.packet.epoch ≡ y.epoch = same_field k x y at_x at_y (number k x at_x) (λ h. h.epoch) in
      let source : x.packet.source ≡ y.source = same_field k x y at_x at_y (number k x at_x) (λ h. h.source) in
      let dest : x.packet.dest ≡ y.dest = same_field k x y at_x at_y (number k x at_x) (λ h. h.dest) in
      (cc)))

pub there_some : {O : Type 0} (os : List O) (k : ℕ) (x : O) → slice_get os k ≡ Some x → slice_index_or (map (λ o. Some o) os) k None ≡ Some x
there_some [] k x got = absurd (none-some x got)
there_some (o ∷ os) zero x got = got
there_some (o ∷ os) (suc k) x got = there_some os k x got

module _ (slots : List (Option Outcome)) (os : List Outcome) (are : slots ≡ map (λ o. Some o) os) where
  slot_at : (k : ℕ) (x : Outcome) → slice_get os k ≡ Some x → slice_index_or slots k None ≡ Some x
  slot_at k x got = ap (λ (ys : List (Option Outcome)). slice_index_or ys k None) are ∙ there_some os k x got

  pub numbers_are : AllAt outcome_number slots → (k : ℕ) (x : Outcome) → slice_get os k ≡ Some x → x.packet.id ≡ k
  numbers_are at k x got = subst (λ (slot : Option Outcome). IsAt outcome_number k slot) (slot_at k x got) (at k)

  pub all_told : (P : Outcome → Type 0) → AllIn P slots → All P os
  all_told P all = λ k d lt. all k (slice_index_or os k d) (slot_at k (slice_index_or os k d) (slice_get-get_or os k d lt))

  pub all_sound : All IsSoundOutcome os
  all_sound = λ k d lt. ((slice_index_or os k d).epoch, (slice_index_or os k d).sound)

  pub told_count : length os ≡ length slots
  told_count = sym (ap length are ∙ length-map os (λ (o : Outcome). Some o))

pub full_here : (slots : List (Option Outcome)) (m k : ℕ) → AllAt outcome_number slots → sum_by (slot_weight (hit outcome_number k)) slots ≡ once m k → k < m → (o : Outcome) × (slice_index_or slots k None ≡ Some o)
full_here slots m k at sum lt =
    let one_is : once m k ≡ 1 = ap (λ b. cond b 1 0) (lt-ltb k m lt) in
    let f = full_at outcome_number slots at k (omega (arith, sum, one_is)) in
    (f.0, f.1)

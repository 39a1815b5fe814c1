use Rattle.std.specs.Prelude.{◌≡◌, ℕ, ◌+◌, length, sum_by}
use Rattle.std.proofs.Common.{arith, ap, ◌∙◌, subst, sym}
use Rattle.ir_worker.specs.declared.parcel.Outcome.{Outcome}
use Rattle.ir_worker.specs.Account.{head_of, one}
use Rattle.ir_worker.specs.Wires.{Out}
use Rattle.ir_control.specs.Reports.{IsEmptyReport}
use Rattle.ir_control.specs.Rowed.{node_settled}
use Rattle.ir_control.specs.Slots.{slot_weight, hit, once, left_in}
use Rattle.ir_control.specs.Told.{Told, outcome_told, told_left, outcome_number, IsOutcomeIn}
use Rattle.ir_control.proofs.Conserved.{conserved, once_each, heads_are, numbers_are, all_told, all_sound, told_count, full_here, outcome_weight}
use Rattle.ir_control.proofs.Few.{few_told}
use Rattle.ir_control.proofs.Leftover.{empty_at, empty_in, none_weigh}
use Rattle.ir_control.proofs.Rowing.{slots_weigh}
use Rattle.ir_control.proofs.reporting.reported.Goals as goal

pub place_rows-requires : goal.place_rows-requires
place_rows-requires g c = record {
  at = empty_at outcome_number c.args.room.slots.items c.requires.room.slots_empty;
  fits = λ i.
      (let none = none_weigh c.args.room.slots.items c.requires.room.slots_empty (hit outcome_number i) in
      let each = once_each c.args.nodes.items c.args.injector c.into_outs.result.items (ap (λ v. v.items) c.into_outs.ensures) _ (left_in c.left_over-settled.new.channels.items) c.left_over-settled.ensures.gathered i in
      let m = ap (λ n. once n i) c.requires.room.slots_count in
      omega (arith, none, each, m));
}

pub place_left-requires : goal.place_left-requires
place_left-requires g c = record {
  at = c.place_rows.ensures.placed.at;
  fits = λ i.
      (let none = none_weigh c.args.room.slots.items c.requires.room.slots_empty (hit outcome_number i) in
      let each = once_each c.args.nodes.items c.args.injector c.into_outs.result.items (ap (λ v. v.items) c.into_outs.ensures) _ (left_in c.left_over-settled.new.channels.items) c.left_over-settled.ensures.gathered i in
      let m = ap (λ n. once n i) (c.place_rows.ensures.placed.count ∙ c.requires.room.slots_count) in
      let put = c.place_rows.ensures.placed.weighs (hit outcome_number i) in
      omega (arith, none, each, m, put));
}

pub told_in_order-requires-clause-empty : goal.told_in_order-requires-clause-empty
told_in_order-requires-clause-empty g c =
    let len = c.place_left.ensures.placed.count ∙ c.place_rows.ensures.placed.count ∙ c.requires.room.slots_count in
    subst (λ n. IsEmptyReport n c.args.room.report) (sym len) c.requires.room.report

pub told_in_order-requires-clause-full : goal.told_in_order-requires-clause-full
told_in_order-requires-clause-full g c = λ k lt.
    (let none = none_weigh c.args.room.slots.items c.requires.room.slots_empty (hit outcome_number k) in
    let each = once_each c.args.nodes.items c.args.injector c.into_outs.result.items (ap (λ v. v.items) c.into_outs.ensures) _ (left_in c.left_over-settled.new.channels.items) c.left_over-settled.ensures.gathered k in
    let put = c.place_rows.ensures.placed.weighs (hit outcome_number k) in
    let more = c.place_left.ensures.placed.weighs (hit (λ (t : Told). t.packet.id) k) in
    let len = c.place_left.ensures.placed.count ∙ c.place_rows.ensures.placed.count ∙ c.requires.room.slots_count in
    full_here c.place_left.new.slots.items (length c.args.injector.accepted.items) k c.place_left.ensures.placed.at (omega (arith, none, each, put, more)) (omega (arith, lt, len)))

pub returns : goal.returns
returns g c =
    let t = c.told_in_order.ensures in
    let told_are : (w : Told → ℕ) → sum_by (λ o. w (outcome_told o)) t.0 ≡ sum_by (node_settled (λ o. w (outcome_told o))) c.args.nodes.items + sum_by (λ x. w (told_left x)) (left_in c.left_over-settled.new.channels.items) = λ w.
    (let none = none_weigh c.args.room.slots.items c.requires.room.slots_empty (λ (o : Outcome). w (outcome_told o)) in
    let all = c.left_over-settled.ensures.gathered.settlings (λ (o : Outcome). w (outcome_told o)) in
    let put = c.place_rows.ensures.placed.weighs (λ (o : Outcome). w (outcome_told o)) in
    let more = c.place_left.ensures.placed.weighs w in
    let sum = ap (sum_by (slot_weight (λ (o : Outcome). w (outcome_told o)))) t.1 ∙ slots_weigh (slot_weight (λ (o : Outcome). w (outcome_told o))) t.0 in
    omega (arith, none, all, put, more, sum)) in
    let opening = c.args.net.now.opening in
    let kinds = c.place_left.ensures.all opening (c.place_rows.ensures.all opening (empty_in (λ (o : Outcome). IsOutcomeIn opening o) c.args.room.slots.items c.requires.room.slots_empty) c.left_over-settled.ensures.settled) c.left_over-settled.ensures.left.each in
    let len = told_count c.place_left.new.slots.items t.0 t.1 ∙ c.place_left.ensures.placed.count ∙ c.place_rows.ensures.placed.count ∙ c.requires.room.slots_count in
    record {
      outcomes = t.0;
      records = t.2;
      stamps = t.3;
      later = t.4;
      heads = heads_are c.args.injector.accepted.items c.args.injector.numbered t.0
          (λ p. (let none = none_weigh c.args.room.slots.items c.requires.room.slots_empty (outcome_weight p) in
          let all = conserved c.args.nodes.items c.args.injector c.into_outs.result.items (ap (λ v. v.items) c.into_outs.ensures) _ (left_in c.left_over-settled.new.channels.items) c.left_over-settled.ensures.gathered p in
          let put = c.place_rows.ensures.placed.weighs (outcome_weight p) in
          let more = c.place_left.ensures.placed.weighs (λ (t : Told). one p (head_of t.packet)) in
          let sum = ap (sum_by (slot_weight (outcome_weight p))) t.1 ∙ slots_weigh (slot_weight (outcome_weight p)) t.0 in
          omega (arith, none, all, put, more, sum)))
          len (numbers_are c.place_left.new.slots.items t.0 t.1 c.place_left.ensures.placed.at);
      sound = all_sound c.place_left.new.slots.items t.0 t.1;
      of_net = all_told c.place_left.new.slots.items t.0 t.1 (λ (o : Outcome). IsOutcomeIn c.args.net.now.opening o) kinds;
      left = left_in c.left_over-settled.new.channels.items;
      left_is = λ w. (let is = c.left_over-settled.ensures.gathered.leavings w in
          let same = ap (sum_by (λ (s : Out). sum_by w s.sent)) (ap (λ v. v.items) c.into_outs.ensures) in
          omega (arith, is, same));
      fates = c.place_left.ensures.placed.fates;
      few = few_told c.args.net.now c.args.nodes.items c.requires.nodes.each (left_in c.left_over-settled.new.channels.items) c.left_over-settled.ensures.left.few t.0 told_are;
      told_are = told_are;
    }

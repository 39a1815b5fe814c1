use Rattle.std.specs.Prelude.{◌≡◌, ◌<◌, ◌++◌, ◌∷◌, [], Some, None, length, map, slice_index_or}
use Rattle.std.proofs.Common.{arith, refl, ap, sym, ◌∙◌}
use Rattle.std.proofs.lemmas.Option.{none-some}
use Rattle.std.proofs.lemmas.List.{get_or_default, length_push, length-set, length-map, get_or-set_other}
use Rattle.ir_worker.specs.declared.parcel.Outcome.{Outcome}
use Rattle.ir_control.proofs.Telling.{told_more, map_push, same_list}
use Rattle.ir_control.proofs.outcomes.told_in_order.Goals as goal

pub unreachable-requires : goal.unreachable-requires
unreachable-requires c =
    let n = c.loop-i.invariant.count in
    let e = c.len-i-end.ensures in
    let ok = c.args.slots.ok in
    let lt : c.loop-i.i < length c.args.slots.items = omega (arith, n, e, ok) in
    let f = c.requires.full c.loop-i.i lt in
    none-some f.0 (sym (sym c.take.ensures.value ∙ c.in_default.is) ∙ c.index_mut.ensures.value ∙ get_or_default c.loop-i.slots.items c.loop-i.i c.index_mut.result.now None (omega (arith, n, lt)) ∙ c.loop-i.invariant.full c.loop-i.i (omega arith) (omega (arith, n, lt)) ∙ f.1)

pub loop-i-init : goal.loop-i-init
loop-i-init c =
    let e = c.requires.empty in
    record {
      count = refl;
      full = λ k le lt. refl;
      told = ([], refl, (λ k lt. absurd (omega (arith, lt))), e.records.0, e.stamps.0, e.later.0);
      room = (e.records.1, e.stamps.1, e.later.1);
    }

pub loop-i-preserved : goal.loop-i-preserved
loop-i-preserved c =
    let n = c.loop-i.invariant.count in
    let e = c.len-i-end.ensures in
    let ok = c.args.slots.ok in
    let lt : c.loop-i.i < length c.args.slots.items = omega (arith, n, e, ok) in
    let was = c.loop-i.invariant.told in
    let here : slice_index_or c.args.slots.items c.loop-i.i None ≡ Some c.in-Some.outcome =
    sym (c.loop-i.invariant.full c.loop-i.i (omega arith) (omega (arith, n, lt))) ∙ sym (get_or_default c.loop-i.slots.items c.loop-i.i c.index_mut.result.now None (omega (arith, n, lt))) ∙ sym c.index_mut.ensures.value ∙ sym c.in-Some.ensures.value in
    record {
      count = length-set c.loop-i.slots.items c.loop-i.i c.take.new.self ∙ n;
      full = λ k le less. (let z = length-set c.loop-i.slots.items c.loop-i.i c.take.new.self in
          get_or-set_other c.loop-i.slots.items c.loop-i.i k c.take.new.self None (λ same. absurd (omega (arith, le, same))) ∙ c.loop-i.invariant.full k (omega (arith, le)) (omega (arith, less, z)));
      told = (
        was.0 ++ c.in-Some.outcome ∷ [],
        (let p = length_push was.0 c.in-Some.outcome in let q = was.1 in omega (arith, p, q)),
        told_more c.args.slots.items was.0 c.in-Some.outcome c.loop-i.i was.1 here was.2,
        c.push_reserved.ensures.items ∙ map_push (λ (o : Outcome). o.packet) was.0 c.in-Some.outcome c.loop-i.report.records.items was.3,
        c.push_reserved-in-loop-i.ensures.items ∙ map_push (λ (o : Outcome). o.stamp) was.0 c.in-Some.outcome c.loop-i.report.stamps.items was.4,
        c.push_reserved-in-loop-i-2.ensures.items ∙ map_push (λ (o : Outcome). o.later) was.0 c.in-Some.outcome c.loop-i.report.later.items was.5,
      );
      room = (let r = c.loop-i.invariant.room in (let a = r.0 in let x = c.push_reserved.ensures.capacity in omega (arith, a, x), let b = r.1 in let y = c.push_reserved-in-loop-i.ensures.capacity in omega (arith, b, y), let d = r.2 in let z = c.push_reserved-in-loop-i-2.ensures.capacity in omega (arith, d, z)));
    }

pub returns : goal.returns
returns c =
    let n = c.loop-i.invariant.count in
    let e = c.len-i-end.ensures in
    let ok = c.args.slots.ok in
    let auto = c.loop-i.auto.i-end in
    let at : c.loop-i.i ≡ length c.args.slots.items = omega (arith, n, e, ok, auto) in
    let was = c.loop-i.invariant.told in
    let len = was.1 in
    let m = length-map was.0 (λ (o : Outcome). Some o) in
    (was.0, sym (same_list (map (λ (o : Outcome). Some o) was.0) c.args.slots.items None (omega (arith, m, len, at)) (λ k lt. was.2 k (omega (arith, lt, m, len)))), was.3, was.4, was.5)

pub push_reserved-requires : goal.push_reserved-requires
push_reserved-requires c =
    let was = c.loop-i.invariant.told in
    let len = was.1 in
    let told = ap length was.3 in
    let m = length-map was.0 (λ (o : Outcome). o.packet) in
    let room = c.loop-i.invariant.room.0 in
    let kept = c.loop-i.report.records.ok in
    let n = c.loop-i.invariant.count in
    let e = c.len-i-end.ensures in
    let ok = c.args.slots.ok in
    let test = c.loop-i-test.true in
    omega (arith, len, told, m, room, kept, n, e, ok, test)

pub push_reserved-requires-in-loop-i : goal.push_reserved-requires-in-loop-i
push_reserved-requires-in-loop-i c =
    let was = c.loop-i.invariant.told in
    let len = was.1 in
    let told = ap length was.4 in
    let m = length-map was.0 (λ (o : Outcome). o.stamp) in
    let room = c.loop-i.invariant.room.1 in
    let kept = c.loop-i.report.stamps.ok in
    let n = c.loop-i.invariant.count in
    let e = c.len-i-end.ensures in
    let ok = c.args.slots.ok in
    let test = c.loop-i-test.true in
    omega (arith, len, told, m, room, kept, n, e, ok, test)

pub push_reserved-requires-in-loop-i-2 : goal.push_reserved-requires-in-loop-i-2
push_reserved-requires-in-loop-i-2 c =
    let was = c.loop-i.invariant.told in
    let len = was.1 in
    let told = ap length was.5 in
    let m = length-map was.0 (λ (o : Outcome). o.later) in
    let room = c.loop-i.invariant.room.2 in
    let kept = c.loop-i.report.later.ok in
    let n = c.loop-i.invariant.count in
    let e = c.len-i-end.ensures in
    let ok = c.args.slots.ok in
    let test = c.loop-i-test.true in
    omega (arith, len, told, m, room, kept, n, e, ok, test)

use Rattle.std.specs.Prelude.{◌≡◌, ◌<◌, All, Vec, length}
use Rattle.std.specs.Global.{Global}
use Rattle.std.proofs.Common.{arith, sym, ap, ◌∙◌, subst}
use Rattle.std.proofs.lemmas.List.{length_push}
use Rattle.std.proofs.lemmas.List.Elements.{All-push}
use Rattle.ir_model.specs.Topology.{node_count}
use Rattle.ir_worker.specs.declared.parcel.Outcome.{Outcome}
use Rattle.ir_control.specs.Places.{way_count}
use Rattle.ir_control.specs.Told.{AreSettledIn, IsOutcomeIn}
use Rattle.ir_control.proofs.Rowing.{node_outcomes, rows_none, rows_more, room_here, room_same, room_kept, node_here, never_empty, slots_next, weighed_none, weighed_more, weighed_all}
use Rattle.ir_control.proofs.leaving.take_apart.Goals as goal

pub loop-u-init : goal.loop-u-init
loop-u-init c =
    let n = node_count c.args.net.now.topology in
    let ways = way_count c.args.net.now.topology in
    record {
      slots = c.requires.slots;
      rows = rows_none c.args.net.now n ways c.args.rows.now c.requires.start;
      weighed = weighed_none c.args.slots.items n ways c.args.rows.now c.requires.start;
      settled = ap length c.requires.start.settled.0;
      kind = subst (AreSettledIn c.args.net.now.opening) (sym c.requires.start.settled.0) (λ k d lt. absurd (omega (arith, lt)));
      room = room_same c.args.rows.now;
    }

pub unreachable-requires : goal.unreachable-requires
unreachable-requires c =
    let n = c.args.net.now.inboxes_are.count in
    let e = c.len-u-end.ensures in
    let lt : c.loop-u.u < node_count c.args.net.now.topology = omega (arith, n, e) in
    never_empty c.args.net.now c.loop-u.u c.loop-u.slots.items c.index_mut.result.now c.loop-u.invariant.slots lt c.index_mut.ensures.value (sym c.take.ensures.value ∙ c.in_default.is)

pub append_ends-requires : goal.append_ends-requires
append_ends-requires c =
    let n = c.args.net.now.inboxes_are.count in
    let e = c.len-u-end.ensures in
    let lt : c.loop-u.u < node_count c.args.net.now.topology = omega (arith, n, e) in
    let here = node_here c.args.net.now c.loop-u.u c.loop-u.slots.items c.index_mut.result.now c.in-Some.node c.loop-u.invariant.slots lt c.index_mut.ensures.value c.in-Some.ensures.value in
    room_here c.args.net.now c.loop-u.u c.in-Some.node c.args.rows.now c.loop-u.rows here.1 here.2 c.requires.start c.loop-u.invariant.room c.loop-u.invariant.rows c.loop-u.invariant.settled

pub loop-u-preserved : goal.loop-u-preserved
loop-u-preserved c =
    let n = c.args.net.now.inboxes_are.count in
    let e = c.len-u-end.ensures in
    let lt : c.loop-u.u < node_count c.args.net.now.topology = omega (arith, n, e) in
    let here = node_here c.args.net.now c.loop-u.u c.loop-u.slots.items c.index_mut.result.now c.in-Some.node c.loop-u.invariant.slots lt c.index_mut.ensures.value c.in-Some.ensures.value in
    let more = c.append_ends.ensures in
    let opening = c.args.net.now.opening in
    record {
      slots = slots_next c.args.net.now c.loop-u.u c.loop-u.slots.items c.take.new.self c.loop-u.invariant.slots lt c.take.ensures.after;
      rows = rows_more c.args.net.now c.loop-u.u c.in-Some.node c.loop-u.rows c.append_ends.new.rows c.loop-u.invariant.rows here.1 here.2 more;
      weighed = weighed_more c.args.slots.items c.loop-u.slots.items c.loop-u.u c.take.new.self c.in-Some.node c.loop-u.rows c.append_ends.new.rows (let c0 = c.loop-u.invariant.slots.count in omega (arith, c0, lt)) here.0 c.take.ensures.after c.loop-u.invariant.weighed more;
      settled = (let p = ap length more.settled in let q = length_push c.loop-u.rows.settled.items c.in-Some.node.outcomes in let s = c.loop-u.invariant.settled in omega (arith, p, q, s));
      kind = subst (AreSettledIn opening) (sym more.settled) (All-push (λ (row : Vec Outcome Global). All (λ (o : Outcome). IsOutcomeIn opening o) row.items) c.loop-u.rows.settled.items c.in-Some.node.outcomes c.loop-u.invariant.kind (node_outcomes c.args.net.now c.in-Some.node here.2));
      room = room_kept c.args.rows.now c.loop-u.rows c.append_ends.new.rows c.loop-u.invariant.room more.room;
    }

pub returns-clause-weighed : goal.returns-clause-weighed
returns-clause-weighed c =
    let n = c.args.net.now.inboxes_are.count in
    let e = c.len-u-end.ensures in
    let auto = c.loop-u.auto.u-end in
    let at : c.loop-u.u ≡ node_count c.args.net.now.topology = omega (arith, n, e, auto) in
    weighed_all c.args.net.now c.loop-u.u c.args.slots.items c.loop-u.slots.items c.loop-u.rows at c.loop-u.invariant.slots c.loop-u.invariant.weighed

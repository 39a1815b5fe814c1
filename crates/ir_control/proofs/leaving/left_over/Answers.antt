use Rattle.std.specs.Prelude.{ℕ, List, length, sum_by}
use Rattle.std.proofs.Common.{arith, refl, sym, ap, ◌∙◌, subst}
use Rattle.ir_model.specs.Topology.{node_count}
use Rattle.ir_links.specs.Ends.{Remains}
use Rattle.ir_worker.specs.declared.parcel.Place.{Place}
use Rattle.ir_worker.specs.Seen.{Parcel}
use Rattle.ir_control.specs.Pairs.{ArePaired}
use Rattle.ir_control.specs.Parts.{node_number, IsNodeOf}
use Rattle.ir_control.specs.Whole.{AreOfNet}
use Rattle.ir_control.specs.Rowed.{node_settled, node_taken, node_sent}
use Rattle.ir_control.specs.Slots.{hit, left_in}
use Rattle.ir_control.proofs.Leftover.{none_weigh, nodes_fit, all_slots, inboxes_in_order, ways_paired, inboxes_of_net, takers_of_net, rows_count, empty_at, empty_in}
use Rattle.ir_control.proofs.leaving.left_over.Goals as goal

pub place_all-requires : goal.place_all-requires
place_all-requires c = record {
  at = empty_at node_number c.args.rows.slots.items c.requires.rows.slots_empty;
  fits = λ i.
      (let none = none_weigh c.args.rows.slots.items c.requires.rows.slots_empty (hit node_number i) in
      let most = nodes_fit c.args.net.now c.args.nodes.items c.requires.nodes (length c.args.rows.slots.items) i c.requires.rows.slots_count in
      omega (arith, none, most));
}

pub take_apart-requires-clause-slots : goal.take_apart-requires-clause-slots
take_apart-requires-clause-slots c =
    all_slots c.args.net.now c.args.nodes.items c.place_all.new.slots.items c.requires.all (c.place_all.ensures.placed.count ∙ c.requires.rows.slots_count) c.place_all.ensures.placed.at (c.place_all.ensures.all c.args.net.now (empty_in (IsNodeOf c.args.net.now) c.args.rows.slots.items c.requires.rows.slots_empty) c.requires.nodes.each)
    (λ w. (let none = none_weigh c.args.rows.slots.items c.requires.rows.slots_empty w in let put = c.place_all.ensures.placed.weighs w in omega (arith, none, put)))

pub join_inboxes-requires-clause-lines : goal.join_inboxes-requires-clause-lines
join_inboxes-requires-clause-lines c =
    c.requires.injected ∙ sym (inboxes_in_order c.args.net.now c.take_apart.new.rows c.take_apart.ensures.rows)

pub join_inboxes-requires-clause-room : goal.join_inboxes-requires-clause-room
join_inboxes-requires-clause-room c =
    let hold = rows_count c.args.net.now (node_count c.args.net.now.topology) c.take_apart.new.rows c.take_apart.ensures.rows refl in
    let room = c.requires.room in
    let empty = ap length c.requires.empty in
    let ok = c.args.channels.now.ok in
    omega (arith, hold, room, empty, ok)

pub join_all-requires-clause-pairs : goal.join_all-requires-clause-pairs
join_all-requires-clause-pairs c =
    subst (λ (ps : List ℕ). ArePaired ps c.take_apart.new.rows.senders.items c.take_apart.new.rows.takers.items) (sym c.as_slice.ensures.value)
    (ways_paired c.args.net.now c.take_apart.new.rows c.take_apart.ensures.rows)

pub join_all-requires-clause-room : goal.join_all-requires-clause-room
join_all-requires-clause-room c =
    let hold = rows_count c.args.net.now (node_count c.args.net.now.topology) c.take_apart.new.rows c.take_apart.ensures.rows refl in
    let room = c.requires.room in
    let empty = ap length c.requires.empty in
    let ok = c.args.channels.now.ok in
    let joined = c.join_inboxes.ensures.room in
    omega (arith, hold, room, empty, ok, joined.0, joined.1)

pub returns-clause-gathered : goal.returns-clause-gathered
returns-clause-gathered c = record {
  settlings = λ w. (let a = c.take_apart.ensures.weighed.settlings w in let b = c.place_all.ensures.placed.weighs (node_settled w) in let z = none_weigh c.args.rows.slots.items c.requires.rows.slots_empty (node_settled w) in
      omega (arith, a, b, z));
  leavings = λ w.
      (let t = c.take_apart.ensures.weighed.takings w in let t1 = c.place_all.ensures.placed.weighs (node_taken w) in let tz = none_weigh c.args.rows.slots.items c.requires.rows.slots_empty (node_taken w) in
      let s = c.take_apart.ensures.weighed.sendings w in let s1 = c.place_all.ensures.placed.weighs (node_sent w) in let sz = none_weigh c.args.rows.slots.items c.requires.rows.slots_empty (node_sent w) in
      let inboxes = c.join_inboxes.ensures.account w in
      let ways = c.join_all.ensures.account w in
      let empty = ap (λ (rs : List (Remains Place Parcel)). sum_by w (left_in rs)) c.requires.empty in
      omega (arith, t, t1, tz, s, s1, sz, inboxes, ways, empty));
}

pub returns-clause-settled : goal.returns-clause-settled
returns-clause-settled c = c.take_apart.ensures.of_net

pub returns-clause-left : goal.returns-clause-left
returns-clause-left c =
    let net = c.args.net.now in
    let inboxes = inboxes_of_net net (node_count net.topology) c.take_apart.new.rows c.take_apart.ensures.rows in
    let takers = takers_of_net net (node_count net.topology) c.take_apart.new.rows c.take_apart.ensures.rows in
    let none : AreOfNet net.opening net.restamps (left_in c.args.channels.now.items) = subst (λ (rs : List (Remains Place Parcel)). AreOfNet net.opening net.restamps (left_in rs)) (sym c.requires.empty)
    (record { each = λ k d lt. absurd (omega (arith, lt)); few = λ k d lt. absurd (omega (arith, lt)) }) in
    c.join_all.ensures.of_net net.opening net.restamps takers (c.join_inboxes.ensures.of_net net.opening net.restamps inboxes none)

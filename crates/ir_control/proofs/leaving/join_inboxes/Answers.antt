use Rattle.std.specs.Prelude.{◌≡◌, ◌++◌, length, []}
use Rattle.std.proofs.Common.{subst, arith, ap, ◌∙◌}
use Rattle.std.proofs.lemmas.Grind.{common_steps}
use Rattle.std.proofs.lemmas.List.{length_push}
use Rattle.ir_control.specs.Slots.{left_in}
use Rattle.ir_control.proofs.Meetings.{IsMeeting, last_channel, met_one, as_many_met, all_met, room_after, left_push}
use Rattle.ir_control.proofs.OfNet.{takers_rest, left_of_net}
use Rattle.ir_control.proofs.leaving.join_inboxes.Goals as goal

pub join-requires-clause-one : goal.join-requires-clause-one
join-requires-clause-one c κs =
    last_channel c.loop-taker.senders.items c.pop-in-Some.new.self.items c.loop-taker.takers.items c.pop.new.self.items c.in-Some-pop.sender c.in-Some.taker
    c.loop-taker.invariant.settling.lines c.in-Some-pop.ensures.items c.in-Some.ensures.items

pub loop-taker-preserved-in-Some-pop : goal.loop-taker-preserved-in-Some-pop
loop-taker-preserved-in-Some-pop c =
    let appended : left_in c.push_reserved.new.self.items ≡ left_in c.loop-taker.channels.items ++ c.join.result.left = ap left_in c.push_reserved.ensures.items ∙ left_push c.loop-taker.channels.items c.join.result in
    record {
      settling = met_one c.loop-taker.senders.items c.pop-in-Some.new.self.items c.loop-taker.takers.items c.pop.new.self.items c.in-Some-pop.sender c.in-Some.taker
          c.loop-taker.invariant.settling.lines c.in-Some-pop.ensures.items c.in-Some.ensures.items
          _ _ _ (left_in c.loop-taker.channels.items) c.join.result.left (left_in c.push_reserved.new.self.items) c.loop-taker.invariant.settling c.join.ensures.left appended;
      room = (let fits = room_after c.loop-taker.takers.items c.pop.new.self.items c.in-Some.taker _ _ _ c.in-Some.ensures.items c.loop-taker.invariant.room c.push_reserved.ensures.len in
          let same = c.push_reserved.ensures.capacity in omega (arith, fits, same));
      same = c.push_reserved.ensures.capacity ∙ c.loop-taker.invariant.same;
      used = room_after c.loop-taker.takers.items c.pop.new.self.items c.in-Some.taker _ _ _ c.in-Some.ensures.items c.loop-taker.invariant.used c.push_reserved.ensures.len;
      of_net = λ opening restamps takers before. (let was = c.loop-taker.invariant.of_net opening restamps takers before in (
        takers_rest opening restamps c.loop-taker.takers.items c.pop.new.self.items c.in-Some.taker c.in-Some.ensures.items was.0,
        left_of_net opening restamps (left_in c.loop-taker.channels.items) c.join.result.left (left_in c.push_reserved.new.self.items) c.loop-taker.takers.items c.pop.new.self.items c.in-Some.taker
            appended c.in-Some.ensures.items was.1 was.0 c.join.ensures.goes,
      ));
    }

pub loop-taker-preserved : goal.loop-taker-preserved
loop-taker-preserved c =
    let same = as_many_met c.loop-taker.senders.items c.loop-taker.takers.items c.loop-taker.invariant.settling.lines in
    let none : c.loop-taker.senders.items ≡ [] = grind (arith, common_steps) in
    let some = ap length c.in-Some.ensures.items ∙ length_push c.pop.new.self.items c.in-Some.taker in
    absurd (omega (arith, same, ap length none, some))

pub returns-clause-account : goal.returns-clause-account
returns-clause-account c =
    let empty : c.loop-taker.takers.items ≡ [] = grind (arith, common_steps) in
    all_met c.args.senders.items c.args.takers.items (left_in c.args.channels.now.items) c.loop-taker.senders.items (left_in c.loop-taker.channels.items)
    (subst (λ rest. IsMeeting c.args.senders.items c.args.takers.items (left_in c.args.channels.now.items) c.loop-taker.senders.items rest (left_in c.loop-taker.channels.items)) empty c.loop-taker.invariant.settling)

pub returns-clause-of_net : goal.returns-clause-of_net
returns-clause-of_net c = λ opening restamps takers before. (c.loop-taker.invariant.of_net opening restamps takers before).1

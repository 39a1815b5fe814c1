use Rattle.std.proofs.Common.{arith, refl, ap, sym, ◌∙◌, subst, length, get_or, length-take-le}
use Rattle.std.specs.Prelude.{◌≡◌, ◌<◌, List, [], Option, Some, take}
use Rattle.std.proofs.lemmas.List.{take_all}
use Rattle.std.proofs.lemmas.Option.{slice_get_within}
use Rattle.ir_links.specs.Ends.{Channel, Sender, Taker}
use Rattle.ir_worker.specs.declared.parcel.Place.{Place}
use Rattle.ir_control.specs.Fresh.{AreFreshOuts, AreFreshIns}
use Rattle.ir_control.proofs.Handed.{outs_more, ins_more}
use Rattle.ir_control.proofs.channels.all_ends.Goals as goal

-- no slots are those of no channels
outs_none : {P T : Type 0} (slots : List (Option (Sender P T))) → slots ≡ [] → AreFreshOuts {P = P} {T = T} [] slots
outs_none slots e = subst (λ (xs : List (Option (Sender _ _))). AreFreshOuts [] xs) (sym e) (record {
  count = refl;
  each = λ k s got. absurd (let within = slice_get_within [] k (Some s) got in omega (arith, within));
})

ins_none : {P T : Type 0} (slots : List (Option (Taker P T))) → slots ≡ [] → AreFreshIns {P = P} {T = T} [] slots
ins_none slots e = subst (λ (xs : List (Option (Taker _ _))). AreFreshIns [] xs) (sym e) (record {
  count = refl;
  each = λ k t got. absurd (let within = slice_get_within [] k (Some t) got in omega (arith, within));
})

pub loop-channel-preserved : goal.loop-channel-preserved
loop-channel-preserved c =
    let ends = rw c.in-Some.is at c.in_ok-sender.ensures in
    let lt : c.loop-channel.channel-index < length c.args.channels.now.items = subst (λ (xs : List (Channel Place)). c.loop-channel.channel-index < length xs) c.deref-channel-items.ensures.value c.loop-channel-test.true in
    let read = c.channel-item.is ∙ ap (λ (xs : List (Channel Place)). get_or xs c.loop-channel.channel-index c.channel-item.result) c.deref-channel-items.ensures.value in (
      outs_more c.args.channels.now.items c.loop-channel.channel-index c.channel-item.result c.loop-channel.senders.items c.push_reserved.new.self.items c.in-Some.sender c.loop-channel.invariant.0 lt read ends.0 c.push_reserved.ensures.items,
      ins_more c.args.channels.now.items c.loop-channel.channel-index c.channel-item.result c.loop-channel.takers.items c.push_reserved-in-loop-channel.new.self.items c.in-Some.taker c.loop-channel.invariant.1 lt read ends.1 c.push_reserved-in-loop-channel.ensures.items,
      c.push_reserved.ensures.capacity ∙ c.loop-channel.invariant.2,
      c.push_reserved-in-loop-channel.ensures.capacity ∙ c.loop-channel.invariant.3,
    )

pub loop-channel-init : goal.loop-channel-init
loop-channel-init c =
    (outs_none c.in_ok-senders.senders.items c.in_ok-senders.ensures.items, ins_none c.in_ok-takers.takers.items c.in_ok-takers.ensures.items, c.in_ok-senders.ensures.exact ∙ c.len-count.ensures, c.in_ok-takers.ensures.exact ∙ c.len-count.ensures)

pub returns : goal.returns
returns c =
    let least = c.loop-channel-test.false in
    let all = ap (λ (xs : List (Channel Place)). take c.loop-channel.channel-index xs) c.deref-channel-items.ensures.value in
    let at : take c.loop-channel.channel-index c.args.channels.now.items ≡ c.args.channels.now.items = sym all ∙ take_all c.loop-channel.channel-index c.deref-channel-items.result.now least ∙ c.deref-channel-items.ensures.value in (
      subst (λ (xs : List (Channel Place)). AreFreshOuts xs c.loop-channel.senders.items) at c.loop-channel.invariant.0,
      subst (λ (xs : List (Channel Place)). AreFreshIns xs c.loop-channel.takers.items) at c.loop-channel.invariant.1,
    )

pub push_reserved-requires : goal.push_reserved-requires
push_reserved-requires c =
    let lt : c.loop-channel.channel-index < length c.args.channels.now.items = subst (λ (xs : List (Channel Place)). c.loop-channel.channel-index < length xs) c.deref-channel-items.ensures.value c.loop-channel-test.true in
    let t : length (take c.loop-channel.channel-index c.args.channels.now.items) ≡ c.loop-channel.channel-index = length-take-le c.loop-channel.channel-index c.args.channels.now.items (omega (arith, lt)) in
    let n = c.loop-channel.invariant.0.count in
    let room = c.loop-channel.invariant.2 in
    let ok = c.loop-channel.senders.ok in
    let all = c.args.channels.now.ok in
    omega (arith, lt, t, n, room, ok, all)

pub push_reserved-requires-in-loop-channel : goal.push_reserved-requires-in-loop-channel
push_reserved-requires-in-loop-channel c =
    let lt : c.loop-channel.channel-index < length c.args.channels.now.items = subst (λ (xs : List (Channel Place)). c.loop-channel.channel-index < length xs) c.deref-channel-items.ensures.value c.loop-channel-test.true in
    let t : length (take c.loop-channel.channel-index c.args.channels.now.items) ≡ c.loop-channel.channel-index = length-take-le c.loop-channel.channel-index c.args.channels.now.items (omega (arith, lt)) in
    let n = c.loop-channel.invariant.1.count in
    let room = c.loop-channel.invariant.3 in
    let ok = c.loop-channel.takers.ok in
    let all = c.args.channels.now.ok in
    omega (arith, lt, t, n, room, ok, all)

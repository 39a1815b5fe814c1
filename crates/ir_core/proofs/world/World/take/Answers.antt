use Rattle.std.proofs.Common.{List, Option, ℕ, arith, sym, subst, ◌∙◌, slice_set, Some, Ok}
use Rattle.ir_core.specs.declared.packet.Held.{Held}
use Rattle.ir_core.specs.Queue.{ids_of}
use Rattle.ir_core.specs.Inside.{world_of}
use Rattle.ir_core.specs.World.{IsWorld, IsAnswer, sight_in}
use Rattle.ir_core.specs.Meaning.{takes}
use Rattle.ir_core.specs.declared.event.Reply.TheVariants.{Taken}
use Rattle.ir_core.proofs.Keeps.{keep_take_at, take_done, take_held, take_empty}
use Rattle.ir_core.proofs.Rooms.{ids_read, ids_set, room_set, is_queue}
use Rattle.ir_core.proofs.Channels.{channel_within}
use Rattle.ir_core.proofs.world.World.take.Goals as goal

pub invariant_of-self : goal.invariant_of-self
invariant_of-self c =
    let queues = c.self.inside.channels.items in
    let channel = c.in-Some.channel in
    let hand : Option Held = Some (record { id = c.in-Some-first.id; way = c.args.way }) in
    record {
      world = subst (λ (channels : List (List ℕ)). IsWorld (record (world_of c.self.inside) { hands = slice_set c.self.inside.hands.items c.args.node hand; channels = channels })) (sym (ids_set queues channel c.pop.new.self))
          (keep_take_at (world_of c.self.inside) c.self.invariant.world c.args.node c.args.way channel c.in-Some-first.id (ids_of c.index-2.result.now) (ids_of c.index_mut.result.now) (ids_of c.pop.new.self)
          (omega arith) c.in-Some.ensures (ids_read queues channel c.index-2.result.now c.index-2.ensures) c.in-Some-first.ensures (ids_read queues channel c.index_mut.result.now c.index_mut.ensures.value) c.pop.ensures.rest
          c.index.result.now c.index.ensures (sym c.is_some.ensures ∙ c.if-is_some.false));
      room = room_set c.self.inside.capacity queues channel c.index_mut.result.now c.pop.new.self c.self.invariant.room c.index_mut.ensures.value c.pop.ensures.room;
    }

pub returns : goal.returns
returns c =
    let queues = c.self.inside.channels.items in
    let channel = c.in-Some.channel in
    let hand : Option Held = Some (record { id = c.in-Some-first.id; way = c.args.way }) in
    let now = c.args.self.now in
    subst (λ (channels : List (List ℕ)). IsAnswer now (record (world_of c.self.inside) { hands = slice_set c.self.inside.hands.items c.args.node hand; channels = channels }) (takes now.opening (sight_in now) c.args.node c.args.way) (Ok (Taken c.in-Some-first.id)))
    (sym (ids_set queues channel c.pop.new.self))
    (take_done (world_of c.self.inside) _ c.self.view_is c.self.invariant.world c.args.node c.args.way channel c.in-Some-first.id (ids_of c.index-2.result.now) (ids_of c.index_mut.result.now) (ids_of c.pop.new.self)
    (omega arith) c.in-Some.ensures (ids_read queues channel c.index-2.result.now c.index-2.ensures) c.in-Some-first.ensures (ids_read queues channel c.index_mut.result.now c.index_mut.ensures.value) c.pop.ensures.rest
    c.index.result.now c.index.ensures (sym c.is_some.ensures ∙ c.if-is_some.false))

pub returns-then-is_some : goal.returns-then-is_some
returns-then-is_some c =
    take_held (world_of c.self.inside) _ c.self.view_is c.self.invariant.world c.args.node c.args.way c.in-Some.channel (omega arith) c.in-Some.ensures
    c.index.result.now c.index.ensures (sym c.is_some.ensures ∙ c.if-is_some.true)

pub index-requires-2 : goal.index-requires-2
index-requires-2 c = omega (arith, c.self.inside.channels.ok.0, is_queue c.self.inside.channels.items c.in-Some.channel (omega (arith, c.self.invariant.world.channels, channel_within (world_of c.self.inside).opening c.args.node c.args.way c.in-Some.channel (omega arith) (sym c.in-Some.ensures))))

pub returns-in_default-first : goal.returns-in_default-first
returns-in_default-first c =
    take_empty (world_of c.self.inside) _ c.self.view_is c.self.invariant.world c.args.node c.args.way c.in-Some.channel (ids_of c.index-2.result.now) (omega arith) c.in-Some.ensures
    (ids_read c.self.inside.channels.items c.in-Some.channel c.index-2.result.now c.index-2.ensures) c.in_default-first.ensures
    c.index.result.now c.index.ensures (sym c.is_some.ensures ∙ c.if-is_some.false)

pub index_mut-requires : goal.index_mut-requires
index_mut-requires c = omega (arith, c.self.inside.channels.ok.0, is_queue c.self.inside.channels.items c.in-Some.channel (omega (arith, c.self.invariant.world.channels, channel_within (world_of c.self.inside).opening c.args.node c.args.way c.in-Some.channel (omega arith) (sym c.in-Some.ensures))))

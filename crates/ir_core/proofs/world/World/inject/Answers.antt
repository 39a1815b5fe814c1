use Rattle.std.proofs.Common.{List, ℕ, ◌<◌, map, arith, sym, subst, ap, inl, length, Ok}
use Rattle.ir_core.specs.declared.queue.Queue.{Queue}
use Rattle.ir_core.specs.Queue.{ids_of}
use Rattle.ir_core.specs.Inside.{world_of}
use Rattle.ir_core.specs.World.{IsWorld, IsAnswer, sight_in}
use Rattle.ir_core.specs.Meaning.{injects}
use Rattle.ir_core.specs.declared.event.Reply.TheVariants.{Injected}
use Rattle.ir_core.proofs.Keeps.{fresh_in, keep_inject_at, inject_done, inject_full}
use Rattle.ir_core.proofs.Rooms.{ids_read, ids_set, read_twice, room_read, room_set, is_queue}
use Rattle.ir_core.proofs.world.World.inject.Goals as goal

pub invariant_of-self-2 : goal.invariant_of-self-2
invariant_of-self-2 c =
    let queues = c.self.inside.channels.items in
    let q = c.index_mut.result.now in
    let read = c.index_mut.ensures.value in
    record {
      world = subst (λ (channels : List (List ℕ)). IsWorld (record (world_of c.self.inside) { channels = channels; records = c.push.new.self.items })) (sym (ids_set queues c.args.source c.push-2.new.self))
          (keep_inject_at (world_of c.self.inside) c.self.invariant.world c.args.source c.args.dest c.len-id.result c.in-Ok.record (ids_of q) (ids_of c.push-2.new.self) c.reserve.new.self.items c.push.new.self.items
          (omega arith) (omega arith) (omega (arith, c.self.inside.records.ok.0, c.len.ensures)) (omega (arith, c.len-id.ensures, c.reserve.ensures.len, c.self.inside.records.ok.0))
          (fresh_in (world_of c.self.inside) c.len-id.result c.args.source c.args.dest c.in-Ok.record _ c.nodes-nodes.result c.in-Ok.ensures c.hop_room-room.ensures c.nodes-nodes.ensures.count) (ids_read queues c.args.source q read) c.push-2.ensures.ids c.reserve.ensures.items c.in-Ok-push.ensures.items);
      room = room_set c.self.inside.capacity queues c.args.source q c.push-2.new.self c.self.invariant.room read c.push-2.ensures.room;
    }

pub returns : goal.returns
returns c =
    let queues = c.self.inside.channels.items in
    let q = c.index_mut.result.now in
    let now = c.args.self.now in
    let all = c.self.invariant.world.channels in
    let same = ap (λ (x : Queue). length (ids_of x)) (read_twice queues c.args.source c.index.result.now q (omega arith) c.index.ensures c.index_mut.ensures.value) in
    inl (subst (λ (channels : List (List ℕ)). IsAnswer now (record (world_of c.self.inside) { channels = channels; records = c.push.new.self.items }) (injects now.opening (sight_in now) c.args.source c.args.dest) (Ok (Injected c.len-id.result)))
    (sym (ids_set queues c.args.source c.push-2.new.self))
    (inject_done (world_of c.self.inside) _ c.self.view_is c.self.invariant.world c.args.source c.args.dest c.len-id.result c.in-Ok.record (ids_of q) (ids_of c.push-2.new.self) c.reserve.new.self.items c.push.new.self.items
    (omega arith) (omega arith) (omega (arith, c.self.inside.records.ok.0, c.len.ensures)) (omega (arith, same)) (omega (arith, c.len-id.ensures, c.reserve.ensures.len, c.self.inside.records.ok.0))
    (fresh_in (world_of c.self.inside) c.len-id.result c.args.source c.args.dest c.in-Ok.record _ c.nodes-nodes.result c.in-Ok.ensures c.hop_room-room.ensures c.nodes-nodes.ensures.count) (ids_read queues c.args.source q c.index_mut.ensures.value) c.push-2.ensures.ids c.reserve.ensures.items c.in-Ok-push.ensures.items))

pub index-requires : goal.index-requires
index-requires c = omega (arith, c.self.inside.channels.ok.0, is_queue c.self.inside.channels.items c.args.source (omega arith))

pub returns-then-len-self-2 : goal.returns-then-len-self-2
returns-then-len-self-2 c =
    let q = c.index.result.now in
    inl (inject_full (world_of c.self.inside) _ c.self.view_is c.self.invariant.world c.args.source c.args.dest (ids_of q) c.reserve.new.self.items
    (omega arith) (omega arith) (omega (arith, c.self.inside.records.ok.0, c.len.ensures)) (omega (arith, c.len-2.ensures)) (ids_read c.self.inside.channels.items c.args.source q c.index.ensures) c.reserve.ensures.items)

pub index_mut-requires : goal.index_mut-requires
index_mut-requires c = omega (arith, c.self.inside.channels.ok.0, is_queue c.self.inside.channels.items c.args.source (omega arith))

pub push-requires-2 : goal.push-requires-2
push-requires-2 c =
    let queues = c.self.inside.channels.items in
    let q = c.index_mut.result.now in
    let here : c.args.source < length (map ids_of c.self.inside.channels.items) = omega arith in
    let same = ap (λ (x : Queue). length (ids_of x)) (read_twice queues c.args.source c.index.result.now q here c.index.ensures c.index_mut.ensures.value) in
    omega (arith, same, c.len-2.ensures, room_read c.self.inside.capacity queues c.args.source q c.self.invariant.room here c.index_mut.ensures.value)

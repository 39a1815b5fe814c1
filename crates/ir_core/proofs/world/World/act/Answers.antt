use Rattle.std.proofs.Common.{arith, sym, ap, ◌∙◌, map, slice_set}
use Rattle.ir_core.specs.Inside.{world_of}
use Rattle.ir_core.specs.Queue.{ids_of}
use Rattle.ir_core.specs.Entry.{reply_after}
use Rattle.ir_core.specs.declared.event.Reply.TheVariants.{Sent, Settled}
use Rattle.ir_core.specs.declared.event.Verdict.{Verdict}
use Rattle.ir_core.proofs.Keeps.{in_hand_of, held_in, hand_read, short, restamps_short, act_done, acting_now, not_sent, room_for, sent_within, put_read}
use Rattle.ir_core.proofs.Rooms.{ids_read, ids_set, room_read, room_set, is_queue}
use Rattle.ir_core.proofs.world.World.act.Goals as goal

pub index_mut-record-requires : goal.index_mut-record-requires
index_mut-record-requires c =
    let holds = hand_read _ _ c.self.view_is c.self.invariant.world c.args.node _ c.in-Some.held (omega arith) c.index.ensures c.in-Some.is in
    omega (arith, c.self.inside.records.ok.0, held_in _ _ c.self.view_is c.self.invariant.world c.args.node c.in-Some.held holds)

pub act-requires-clause-hops : goal.act-requires-clause-hops
act-requires-clause-hops c =
    let holds = hand_read _ _ c.self.view_is c.self.invariant.world c.args.node _ c.in-Some.held (omega arith) c.index.ensures c.in-Some.is in
    short (world_of c.self.inside) c.self.invariant.world c.args.node c.in-Some.held c.index_mut-record.result.now (in_hand_of _ _ c.self.view_is c.self.invariant.world c.args.node c.in-Some.held holds c.index_mut-record.result.now c.index_mut-record.ensures.value)

pub act-requires-clause-restamps : goal.act-requires-clause-restamps
act-requires-clause-restamps c =
    let holds = hand_read _ _ c.self.view_is c.self.invariant.world c.args.node _ c.in-Some.held (omega arith) c.index.ensures c.in-Some.is in
    let a = acting_now (world_of c.self.inside) _ c.self.view_is c.self.invariant.world c.args.node c.in-Some.held c.index_mut-record.result.now c.ruling-ruling.result holds c.index_mut-record.ensures.value (omega arith) c.ruling-ruling.ensures in
    restamps_short (world_of c.self.inside) c.self.invariant.world c.args.node c.in-Some.held c.index_mut-record.result.now _ _ c.ruling-ruling.result.restamp c.ruling-ruling.result.verdict a

pub push-requires : goal.push-requires
push-requires c =
    let holds = hand_read _ _ c.self.view_is c.self.invariant.world c.args.node _ c.in-Some.held (omega arith) c.index.ensures c.in-Some.is in
    let a = acting_now (world_of c.self.inside) _ c.self.view_is c.self.invariant.world c.args.node c.in-Some.held c.index_mut-record.result.now c.ruling-ruling.result holds c.index_mut-record.ensures.value (omega arith) c.ruling-ruling.ensures in
    let queues = c.self.inside.channels.items in
    let q = c.index_mut-in-GoesOn.result.now in
    let to = room_for (world_of c.self.inside) c.self.invariant.world c.args.node c.in-Some.held c.index_mut-record.result.now _ c.ruling-ruling.result.restamp c.ruling-ruling.result.verdict c.in-GoesOn.hop c.channel_into-channel.result (ids_of q) a c.in-GoesOn.is c.channel_into-channel.ensures
    (ids_read queues c.channel_into-channel.result q c.index_mut-in-GoesOn.ensures.value) in
    omega (arith, to.1, room_read c.self.inside.capacity queues c.channel_into-channel.result q c.self.invariant.room to.0 c.index_mut-in-GoesOn.ensures.value)

pub invariant_of-self : goal.invariant_of-self
invariant_of-self c =
    let holds = hand_read _ _ c.self.view_is c.self.invariant.world c.args.node _ c.in-Some.held (omega arith) c.index.ensures c.in-Some.is in
    let a = acting_now (world_of c.self.inside) _ c.self.view_is c.self.invariant.world c.args.node c.in-Some.held c.index_mut-record.result.now c.ruling-ruling.result holds c.index_mut-record.ensures.value (omega arith) c.ruling-ruling.ensures in
    let queues = c.self.inside.channels.items in
    let q = c.index_mut-in-GoesOn.result.now in
    let sends = ids_set queues c.channel_into-channel.result c.push.new.self
    ∙ put_read (world_of c.self.inside) c.self.invariant.world c.args.node c.in-Some.held c.index_mut-record.result.now _ c.ruling-ruling.result.restamp c.ruling-ruling.result.verdict c.in-GoesOn.hop c.channel_into-channel.result (ids_of q) (ids_of c.push.new.self) a c.in-GoesOn.is c.channel_into-channel.ensures
    (ids_read queues c.channel_into-channel.result q c.index_mut-in-GoesOn.ensures.value) c.push.ensures.ids in
    let says = ap (λ (v : Verdict). reply_after c.in-Some.held.id v) (sym c.in-GoesOn.is) in
    record {
      world = (act_done (world_of c.self.inside) _ c.self.view_is c.self.invariant.world c.args.node c.in-Some.held c.index_mut-record.result.now c.ruling-ruling.result c.act.new.self (map ids_of (slice_set queues c.channel_into-channel.result c.push.new.self)) (Sent c.in-Some.held.id c.in-GoesOn.hop.node)
          holds c.index_mut-record.ensures.value (omega arith) c.ruling-ruling.ensures c.act.ensures sends says).0;
      room = room_set c.self.inside.capacity queues c.channel_into-channel.result q c.push.new.self c.self.invariant.room c.index_mut-in-GoesOn.ensures.value c.push.ensures.room;
    }

pub returns-in-GoesOn : goal.returns-in-GoesOn
returns-in-GoesOn c =
    let holds = hand_read _ _ c.self.view_is c.self.invariant.world c.args.node _ c.in-Some.held (omega arith) c.index.ensures c.in-Some.is in
    let a = acting_now (world_of c.self.inside) _ c.self.view_is c.self.invariant.world c.args.node c.in-Some.held c.index_mut-record.result.now c.ruling-ruling.result holds c.index_mut-record.ensures.value (omega arith) c.ruling-ruling.ensures in
    let queues = c.self.inside.channels.items in
    let q = c.index_mut-in-GoesOn.result.now in
    let sends = ids_set queues c.channel_into-channel.result c.push.new.self
    ∙ put_read (world_of c.self.inside) c.self.invariant.world c.args.node c.in-Some.held c.index_mut-record.result.now _ c.ruling-ruling.result.restamp c.ruling-ruling.result.verdict c.in-GoesOn.hop c.channel_into-channel.result (ids_of q) (ids_of c.push.new.self) a c.in-GoesOn.is c.channel_into-channel.ensures
    (ids_read queues c.channel_into-channel.result q c.index_mut-in-GoesOn.ensures.value) c.push.ensures.ids in
    let says = ap (λ (v : Verdict). reply_after c.in-Some.held.id v) (sym c.in-GoesOn.is) in
    (act_done (world_of c.self.inside) _ c.self.view_is c.self.invariant.world c.args.node c.in-Some.held c.index_mut-record.result.now c.ruling-ruling.result c.act.new.self (map ids_of (slice_set queues c.channel_into-channel.result c.push.new.self)) (Sent c.in-Some.held.id c.in-GoesOn.hop.node)
    holds c.index_mut-record.ensures.value (omega arith) c.ruling-ruling.ensures c.act.ensures sends says).1

pub invariant_of-self-in_default-verdict : goal.invariant_of-self-in_default-verdict
invariant_of-self-in_default-verdict c =
    let holds = hand_read _ _ c.self.view_is c.self.invariant.world c.args.node _ c.in-Some.held (omega arith) c.index.ensures c.in-Some.is in
    let n = not_sent (world_of c.self.inside) c.args.node c.in-Some.held c.ruling-ruling.result.verdict c.in_default-verdict.not-GoesOn in
    record {
      world = (act_done (world_of c.self.inside) _ c.self.view_is c.self.invariant.world c.args.node c.in-Some.held c.index_mut-record.result.now c.ruling-ruling.result c.act.new.self (map ids_of c.self.inside.channels.items) (Settled c.in-Some.held.id)
          holds c.index_mut-record.ensures.value (omega arith) c.ruling-ruling.ensures c.act.ensures n.0 n.1).0;
      room = c.self.invariant.room;
    }

pub returns : goal.returns
returns c =
    let holds = hand_read _ _ c.self.view_is c.self.invariant.world c.args.node _ c.in-Some.held (omega arith) c.index.ensures c.in-Some.is in
    let n = not_sent (world_of c.self.inside) c.args.node c.in-Some.held c.ruling-ruling.result.verdict c.in_default-verdict.not-GoesOn in
    (act_done (world_of c.self.inside) _ c.self.view_is c.self.invariant.world c.args.node c.in-Some.held c.index_mut-record.result.now c.ruling-ruling.result c.act.new.self (map ids_of c.self.inside.channels.items) (Settled c.in-Some.held.id)
    holds c.index_mut-record.ensures.value (omega arith) c.ruling-ruling.ensures c.act.ensures n.0 n.1).1

pub ruling-ruling-requires-clause-in_hand : goal.ruling-ruling-requires-clause-in_hand
ruling-ruling-requires-clause-in_hand c = hand_read _ _ c.self.view_is c.self.invariant.world c.args.node _ c.in-Some.held (omega arith) c.index.ensures c.in-Some.is

pub index_mut-requires-in-GoesOn : goal.index_mut-requires-in-GoesOn
index_mut-requires-in-GoesOn c =
    let holds = hand_read _ _ c.self.view_is c.self.invariant.world c.args.node _ c.in-Some.held (omega arith) c.index.ensures c.in-Some.is in
    let a = acting_now (world_of c.self.inside) _ c.self.view_is c.self.invariant.world c.args.node c.in-Some.held c.index_mut-record.result.now c.ruling-ruling.result holds c.index_mut-record.ensures.value (omega arith) c.ruling-ruling.ensures in
    omega (
      arith,
      c.self.inside.channels.ok.0,
      is_queue c.self.inside.channels.items c.channel_into-channel.result
          (sent_within (world_of c.self.inside) c.self.invariant.world c.args.node c.in-Some.held c.index_mut-record.result.now _ c.ruling-ruling.result.restamp c.ruling-ruling.result.verdict c.in-GoesOn.hop c.channel_into-channel.result a c.in-GoesOn.is c.channel_into-channel.ensures),
    )

use Rattle.std.proofs.Common.{◌≡◌, ℕ, ap, sym, ◌∙◌, subst, refl, arith, length, List, slice_get, Some, true, false}
use Rattle.std.proofs.lemmas.Option.{slice_get_within, slice_get_read}
use Rattle.ir_model.specs.declared.Hop.{Hop}
use Rattle.ir_core.specs.declared.event.Verdict.TheVariants.{NoRoom}
use Rattle.ir_core.specs.Record.{Record}
use Rattle.ir_epochs.specs.Stamps.{knows}
use Rattle.ir_worker.specs.Seen.{present_stamp, net_place}
use Rattle.ir_worker.specs.Wires.{Out}
use Rattle.ir_worker.proofs.Acts.{settles_full}
use Rattle.ir_worker.proofs.Dues.{due_at, port_there, now_of_net, elsewhere, leads_same}
use Rattle.ir_worker.proofs.Verdicts.{none_was_full}
use Rattle.ir_worker.proofs.Ways.{as_many, sent_over, set_kept, lines_out_kept, goes_out}
use Rattle.ir_worker.proofs.passing.pass_on.Goals as goal

pub act-requires-clause-due : goal.act-requires-clause-due
act-requires-clause-due g c =
    let p = c.args.judged.parcel in
    due_at c.args.turning.now.opening.now (present_stamp p.first p.later) (knows (present_stamp p.first p.later)) refl c.requires.plan (now_of_net c.args.turning.now.opening.now p.first p.later c.requires.held.of_net).1
    p.packet p.next c.args.turning.now.at c.args.judged.way c.args.turning.now.ports.now c.requires.ports c.requires.under_way.0 c.requires.under_way.1 c.requires.held.came

pub port_of_hop-port-requires : goal.port_of_hop-port-requires
port_of_hop-port-requires g c =
    let p = c.args.judged.parcel in
    let there = port_there (knows c.args.turning.now.opening.now).topology (knows (present_stamp p.first p.later)) (now_of_net c.args.turning.now.opening.now p.first p.later c.requires.held.of_net).1 c.args.turning.now.at p.packet.dest c.in-Ok.onward.1 c.in-Ok.ensures.table in
    subst (λ (xs : List Hop). ∥ ((j : ℕ) × (slice_get xs j ≡ Some c.in-Ok.onward.1)) ∥₁) (sym c.requires.ports) there

pub index_mut-out-requires : goal.index_mut-out-requires
index_mut-out-requires g c =
    let lt = slice_get_within c.args.turning.now.ports.now c.port_of_hop-port.result c.in-Ok.onward.1 c.port_of_hop-port.ensures in
    let many = as_many (λ (s : Out). s.channel.place) c.args.outs.now.items (λ (h : Hop). net_place c.args.turning.now.opening.now c.args.turning.now.restamps c.args.turning.now.at h.node) c.args.turning.now.ports.now c.requires.outs in
    omega (arith, c.args.outs.now.ok.0)

pub send-requires-after_bounds : goal.send-requires-after_bounds
send-requires-after_bounds g c κs within =
    let lt = slice_get_within c.args.turning.now.ports.now c.port_of_hop-port.result c.in-Ok.onward.1 c.port_of_hop-port.ensures in
    let many = as_many (λ (s : Out). s.channel.place) c.args.outs.now.items (λ (h : Hop). net_place c.args.turning.now.opening.now c.args.turning.now.restamps c.args.turning.now.at h.node) c.args.turning.now.ports.now c.requires.outs in
    let on = c.in-Ok.ensures.acts in
    goes_out c.args.turning.now.opening.now c.args.turning.now.restamps c.args.turning.now.at c.args.turning.now.ports.now c.args.outs.now.items c.requires.outs c.args.judged.parcel c.in-Ok.onward.0 c.requires.held.of_net c.requires.held.few c.requires.held.room c.in-Ok.onward.1 c.port_of_hop-port.result c.index_mut-out.result.now
    (elsewhere c.args.turning.now.opening.now c.args.turning.now.at c.port_of_hop-port.result c.args.turning.now.ports.now c.in-Ok.onward.1 c.requires.ports c.port_of_hop-port.ensures)
    on.first on.later (ap (λ (r : Record). r.restamps) on.packet) (ap (λ (r : Record). r.room) on.packet) c.in-Ok.ensures.here on.next c.port_of_hop-port.ensures (omega arith) c.index_mut-out.ensures.value

pub refused-requires : goal.refused-requires
refused-requires g c =
    let on = c.in-Ok.ensures.acts in
    record { leads = leads_same c.in-Ok.onward.1 c.args.judged.parcel c.in-Ok.onward.0 c.in-Err-send.full.item c.in-Ok.ensures.leads on.first on.later (c.in-Err-send.ensures.sent).0 }

pub returns-in-Ok-send-clause-acts : goal.returns-in-Ok-send-clause-acts
returns-in-Ok-send-clause-acts g c =
    let lt = slice_get_within c.args.turning.now.ports.now c.port_of_hop-port.result c.in-Ok.onward.1 c.port_of_hop-port.ensures in
    let many = as_many (λ (s : Out). s.channel.place) c.args.outs.now.items (λ (h : Hop). net_place c.args.turning.now.opening.now c.args.turning.now.restamps c.args.turning.now.at h.node) c.args.turning.now.ports.now c.requires.outs in (
      c.in-Ok.onward.1,
      c.in-Ok.onward.0,
      c.in-Ok.ensures.acts,
      refl,
      sent_over c.args.turning.now.ports.now c.args.outs.now.items c.port_of_hop-port.result c.in-Ok.onward.1 c.index_mut-out.result.now c.send.new.self c.in-Ok.onward.0 c.port_of_hop-port.ensures (omega arith) c.index_mut-out.ensures.value c.in-Ok-send.ensures.sent,
    )

pub returns-in-Ok-send-clause-lines : goal.returns-in-Ok-send-clause-lines
returns-in-Ok-send-clause-lines g c =
    lines_out_kept c.args.outs.now.items c.port_of_hop-port.result c.send.new.self c.index_mut-out.result.now c.index_mut-out.ensures.value c.send.ensures.channel

pub returns-in-Err-send-clause-acts : goal.returns-in-Err-send-clause-acts
returns-in-Err-send-clause-acts g c =
    let lt = slice_get_within c.args.turning.now.ports.now c.port_of_hop-port.result c.in-Ok.onward.1 c.port_of_hop-port.ensures in
    let many = as_many (λ (s : Out). s.channel.place) c.args.outs.now.items (λ (h : Hop). net_place c.args.turning.now.opening.now c.args.turning.now.restamps c.args.turning.now.at h.node) c.args.turning.now.ports.now c.requires.outs in
    let kept = c.in-Err-send.ensures.sent in (
      true,
      NoRoom c.in-Ok.onward.1,
      settles_full c.args.turning.now.board.now c.args.judged.way c.args.turning.now.at c.args.judged.parcel c.in-Ok.onward.1 c.in-Ok.onward.0 c.in-Err-send.full.item c.in-Ok.ensures.acts kept.0 c.refused.result c.refused.ensures.packet c.refused.ensures.stamp c.refused.ensures.later (c.refused.ensures.version ∙ c.version.ensures),
      set_kept c.args.outs.now.items c.port_of_hop-port.result c.send.new.self c.index_mut-out.result.now c.index_mut-out.ensures.value kept.1,
      (
        c.port_of_hop-port.result,
        c.index_mut-out.result.now,
        c.port_of_hop-port.ensures,
        slice_get_read c.args.outs.now.items (length c.args.outs.now.items) c.port_of_hop-port.result c.index_mut-out.result.now refl (omega arith) c.index_mut-out.ensures.value,
        c.in-Err-send.ensures.moment,
      ),
    )

pub returns-in-Err-clause-acts : goal.returns-in-Err-clause-acts
returns-in-Err-clause-acts g c =
    let a = c.in-Err.ensures.acts in (
      false,
      a.0,
      a.1,
      refl,
      none_was_full g.R.Moments.was_full c.args.turning.now.ports.now c.args.outs.now.items c.args.judged.parcel c.args.turning.now.board.now c.args.judged.way c.args.turning.now.at a.0 a.1.verdict,
    )

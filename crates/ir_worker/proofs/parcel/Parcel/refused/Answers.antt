use Rattle.std.proofs.Common.{subst, sym, ap, ◌∙◌}
use Rattle.ir_core.specs.Record.{Record, present}
use Rattle.ir_core.specs.Sound.{LeadsOn}
use Rattle.ir_epochs.specs.Stamps.{knows}
use Rattle.ir_worker.specs.Seen.{Parcel, stamp_now}
use Rattle.ir_worker.proofs.Acts.{refused_sound}
use Rattle.ir_worker.proofs.Bodies.{body_again}
use Rattle.ir_worker.proofs.parcel.Parcel.refused.Goals as goal

pub outcome_of-requires-clause-epoch : goal.outcome_of-requires-clause-epoch
outcome_of-requires-clause-epoch c =
    let k = (body_again c.args.self c.self.inside.body.value c.into_inner-body.result c.into_inner-body.ensures (c.self.view_is, c.self.invariant)).1.0 in
    ap (λ (r : Record). r.epoch) c.act.ensures ∙ k.first_epoch

pub outcome_of-requires-clause-sound : goal.outcome_of-requires-clause-sound
outcome_of-requires-clause-sound c =
    let i = c.into_inner-body.result in
    let is = body_again c.args.self c.self.inside.body.value i c.into_inner-body.ensures (c.self.view_is, c.self.invariant) in
    refused_sound i.first i.later.items i.packet _ _ is.1.0 c.args.hop
    (subst (λ (p : Parcel). LeadsOn (knows (stamp_now p)) (present p.packet) c.args.hop.link c.args.hop.node) (sym is.0) c.requires.leads)
    c.act.new.self c.act.ensures

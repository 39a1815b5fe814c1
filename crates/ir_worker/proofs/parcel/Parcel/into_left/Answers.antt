use Rattle.ir_worker.proofs.Acts.{left_sound}
use Rattle.ir_worker.proofs.Bodies.{body_again}
use Rattle.ir_worker.proofs.parcel.Parcel.into_left.Goals as goal

pub outcome_of-requires-clause-epoch : goal.outcome_of-requires-clause-epoch
outcome_of-requires-clause-epoch c =
    (body_again c.args.self c.self.inside.body.value c.into_inner.result c.into_inner.ensures (c.self.view_is, c.self.invariant)).1.0.first_epoch

pub outcome_of-requires-clause-sound : goal.outcome_of-requires-clause-sound
outcome_of-requires-clause-sound c =
    let i = c.into_inner.result in
    let k = (body_again c.args.self c.self.inside.body.value i c.into_inner.ensures (c.self.view_is, c.self.invariant)).1.0 in
    left_sound i.first i.later.items i.packet _ _ k

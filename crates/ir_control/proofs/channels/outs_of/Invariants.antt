use Rattle.std.specs.Prelude.{◌≡◌, vec_capacity}
use Rattle.ir_control.specs.Fresh.{AreFreshOuts, AreOutsAt}
use Rattle.ir_control.proofs.channels.outs_of.Given as goal

abbrev pub invariant-loop-p : goal.invariant-loop-p
invariant-loop-p l = AreFreshOuts l.channels.items l.senders.items × AreOutsAt l.channels.items l.first l.p l.outs.items × (vec_capacity l.outs ≡ l.count)

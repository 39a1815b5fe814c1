use Rattle.std.specs.Prelude.{◌≡◌, vec_capacity}
use Rattle.ir_control.specs.Fresh.{AreFreshIns, AreInsAt}
use Rattle.ir_control.proofs.channels.ins_of.Given as goal

abbrev pub invariant-loop-p : goal.invariant-loop-p
invariant-loop-p l = AreFreshIns l.channels.items l.takers.items × AreInsAt l.channels.items l.peers l.first l.p l.ins.items × (vec_capacity l.ins ≡ l.count)

use Rattle.std.proofs.Common.{◌≡◌, ◌≤◌, take}
use Rattle.std.specs.Prelude.{sum_by}
use Rattle.ir_show.specs.Drawing.{begun_by}
use Rattle.ir_show.proofs.draw.block_of.Given as goal

abbrev pub invariant-loop-i : goal.invariant-loop-i
invariant-loop-i l = (l.block ≡ sum_by (begun_by l.plan l.u) (take l.i l.landmarks)) × (l.block ≤ l.i)

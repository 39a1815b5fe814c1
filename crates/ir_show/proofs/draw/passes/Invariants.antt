use Rattle.std.proofs.Common.{◌≡◌, ◌-◌, drop}
use Rattle.ir_show.specs.Drawing.{passes}
use Rattle.ir_show.proofs.draw.passes.Given as goal

abbrev pub invariant-loop-i : goal.invariant-loop-i
invariant-loop-i l = passes l.u l.v l.walk ≡ passes l.u l.v (drop (l.i - 1) l.walk)

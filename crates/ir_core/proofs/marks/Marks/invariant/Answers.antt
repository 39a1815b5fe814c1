use Rattle.std.proofs.Common.{List, Bool, length, ap, arith}
use Rattle.ir_core.specs.MarkLaws.{length-marks_in}
use Rattle.ir_core.proofs.marks.Marks.invariant.Goals as goal

pub returns : goal.returns
returns c =
    let n = ap (λ (marks : List Bool). length marks) c.self.view_is in
    let m = length-marks_in c.self.inside.words in
    omega (arith, n, m, c.self.invariant.0)

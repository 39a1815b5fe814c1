use Rattle.std.proofs.Common.{◌≡◌, take}
use Rattle.ir_core.proofs.marks.Marks.first.Given as goal

abbrev pub invariant-loop-link : goal.invariant-loop-link
invariant-loop-link l = l.marks.items ≡ take l.link l.self

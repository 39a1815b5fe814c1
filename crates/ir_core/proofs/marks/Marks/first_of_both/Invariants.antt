use Rattle.std.proofs.Common.{◌≡◌, take}
use Rattle.ir_core.specs.Marks.{both}
use Rattle.ir_core.proofs.marks.Marks.first_of_both.Given as goal

abbrev pub invariant-loop-link : goal.invariant-loop-link
invariant-loop-link l = l.marks.items ≡ take l.link (both (take l.links l.self) (take l.links l.other))

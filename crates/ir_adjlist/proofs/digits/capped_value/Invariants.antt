use Rattle.std.proofs.Common.{◌≡◌, ◌+◌, min, take}
use Rattle.ir_model.specs.Edgelist.{value_of}
use Rattle.ir_adjlist.proofs.digits.capped_value.Given as goal

abbrev pub invariant-loop-digit : goal.invariant-loop-digit
invariant-loop-digit l = l.value ≡ min (l.most + 1) (value_of (take l.digit-index l.digits))

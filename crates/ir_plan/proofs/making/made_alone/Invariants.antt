use Rattle.std.proofs.Common.{Ok, map}
use Rattle.std.specs.List.{AllZip, range_with_len}
use Rattle.ir_plan.proofs.making.made_alone.Given as goal

abbrev pub invariant-loop-k : goal.invariant-loop-k
invariant-loop-k g l = AllZip (goal.F-post g l.make) (range_with_len 0 l.k) (map Ok l.made.items)

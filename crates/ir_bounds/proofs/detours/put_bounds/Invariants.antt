use Rattle.ir_bounds.specs.Entries.{ArePut}
use Rattle.ir_bounds.proofs.detours.put_bounds.Given as goal

abbrev pub invariant-loop-j : goal.invariant-loop-j
invariant-loop-j l = ArePut l.list l.begin l.j l.fn.row l.row

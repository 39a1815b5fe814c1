use Rattle.std.proofs.Common.{◌≡◌, ℕ, take}
use Rattle.std.specs.Ordering.{nat_cmp}
use Rattle.std.specs.BTreeSet as tree
use Rattle.ir_trace.specs.Checked.{AreFine}
use Rattle.ir_trace.proofs.CheckedTrace.{is_there}
use Rattle.ir_trace.proofs.checking.check_rows.Given as goal

abbrev pub invariant-loop-i : goal.invariant-loop-i
invariant-loop-i l = record {
  fine : AreFine l.topology l.plans (take l.i l.rows);
  seen : (q : ℕ) → tree.contains nat_cmp l.seen q ≡ is_there (take l.i l.rows) q;
}

use Rattle.std.proofs.Common.{◌*◌, ◌≤◌}
use Rattle.ir_figures.specs.RowBits.{AreBitsBefore}
use Rattle.ir_figures.proofs.bits.bits_of.Given as goal

abbrev pub invariant-loop-u : goal.invariant-loop-u
invariant-loop-u l = record {
  light : (l.bits.rows ≤ 1048576 * l.u) × (l.bits.tables ≤ 1048576 * l.u);
  bits : AreBitsBefore l.plan l.u l.bits.rows l.bits.tables;
}

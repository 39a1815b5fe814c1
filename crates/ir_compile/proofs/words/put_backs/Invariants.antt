use Rattle.std.proofs.Common.{◌≡◌, ◌-◌, ◌≤◌, length}
use Rattle.ir_compile.specs.PortBits.{AreCommon, AreBacks}
use Rattle.ir_compile.proofs.words.put_backs.Given as goal

abbrev pub invariant-loop-i : goal.invariant-loop-i
invariant-loop-i l = record {
  low : l.from ≤ l.i;
  high : l.i ≤ l.to;
  every : length l.backs ≡ length l.initial.backs;
  shared : AreCommon l.twice l.i l.to l.common;
  put : AreBacks l.twice l.i l.to l.backs;
}

abbrev pub decreases-loop-i : goal.decreases-loop-i
decreases-loop-i l = l.i - l.from

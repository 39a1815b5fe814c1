use Rattle.std.proofs.Common.{◌-◌, ◌<◌, ◌≤◌, ℕ}
use Rattle.std.specs.Int.Bits.{bit_and}
use Rattle.ir_compile.specs.PortBits.{AreCommon}
use Rattle.ir_compile.proofs.words.extended.Given as goal

abbrev pub invariant-loop-at : goal.invariant-loop-at
invariant-loop-at l = record {
  further : l.end ≤ l.at;
  within : l.at ≤ l.limit;
  shared : (m : ℕ) → m ≤ l.end → AreCommon l.twice m l.end l.front → AreCommon l.twice m l.at l.common;
  some : 0 < bit_and l.back l.front → 0 < bit_and l.back l.common;
}

abbrev pub decreases-loop-at : goal.decreases-loop-at
decreases-loop-at l = l.limit - l.at

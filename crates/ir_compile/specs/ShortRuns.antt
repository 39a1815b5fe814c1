-- Runs from sixteen places that have sixteen words at most, and ports by the places of a round.
use Rattle.std.specs.Prelude.{◌≡◌, ℕ, ◌+◌, ◌<◌, ◌≤◌, List, length, slice_index}
use Rattle.std.specs.Int.Bits.{bit_and}
use Rattle.ir_compile.specs.PortBits.{AreCommon}

-- there are 16 lanes, and lane k holds f k
pub record HoldLanes (lanes : List ℕ) (f : ℕ → ℕ) : Type 0 where
  pub long : length lanes ≡ 16
  pub each : (k : ℕ) → k < 16 → slice_index lanes k ≡ f k

-- so many words from the place a on, at most 16, have these ports in common, and with the next word none is left
pub record IsShortRun (words : List ℕ) (a size ports : ℕ) : Type 0 where
  pub few : size ≤ 16
  pub shared : AreCommon words a (a + size) ports
  pub some : 0 < ports
  pub fits : ports < 4294967296
  pub stops : bit_and ports (slice_index words (a + size)) ≡ 0

-- these are the runs from sixteen places
pub record AreShortRuns (words : List ℕ) (from : ℕ) (sizes ports : List ℕ) : Type 0 where
  pub all_sizes : length sizes ≡ 16
  pub all_ports : length ports ≡ 16
  pub each : (k : ℕ) → k < 16 → IsShortRun words (from + k) (slice_index sizes k) (slice_index ports k)

-- Ports by label as plain numbers.
use Rattle.std.specs.Prelude.{◌≡◌, ◌≢◌, ℕ, ◌<◌, List, Option, Some, length, slice_index}
use Rattle.ir_model.specs.Compiled.{port_to, IsDestinations}

-- the numbers are the ports of these destinations, but for what is at the own label
pub record StandFor (n own : ℕ) (plain : List ℕ) (ports : List (Option ℕ)) : Type 0 where
  pub every : length plain ≡ n
  pub destinations : IsDestinations n own ports
  pub each : (d : ℕ) → d < n → d ≢ own → port_to ports d ≡ Some (slice_index plain d)

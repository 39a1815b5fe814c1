-- Where labels with one port end.
use Rattle.std.specs.Prelude.{◌≡◌, ◌≢◌, ℕ, ◌<◌, ◌≤◌, List, length, Option, Some}
use Rattle.ir_model.specs.Compiled.{port_to}

-- The labels from one on have the port, up to the one that ends them: it has another port, or none, or is no label.
pub record EndsRun (ports : List (Option ℕ)) (label port end : ℕ) : Type 0 where
  pub some : label < end
  pub within : end ≤ length ports
  pub same : (d : ℕ) → label ≤ d → d < end → port_to ports d ≡ Some port
  pub other : port_to ports end ≢ Some port

use Rattle.std.proofs.Common.{◌≡◌, ◌<◌, ◌≤◌, ℕ, Some}
use Rattle.ir_model.specs.Compiled.{port_to}
use Rattle.ir_prefix.proofs.ranges.run_end.Given as goal

abbrev pub invariant-loop-end : goal.invariant-loop-end
invariant-loop-end l = (d : ℕ) → l.label ≤ d → d < l.end → port_to l.ports d ≡ Some l.port

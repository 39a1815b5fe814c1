use Rattle.std.proofs.Common.{◌≡◌, ◌≤◌, ◌+◌, ◌++◌, drop}
use Rattle.ir_whole.specs.Injects.{injects_from}
use Rattle.ir_whole.proofs.injecting.injects_of.Given as goal

abbrev pub invariant-loop-step : goal.invariant-loop-step
invariant-loop-step l = record {
  few : l.epochs ≤ l.step-index + 1;
  same : l.found.items ++ injects_from l.epochs (drop l.step-index l.steps) ≡ injects_from 1 l.steps;
}

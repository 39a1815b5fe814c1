use Rattle.std.proofs.Common.{◌≡◌, ◌≤◌, ◌-◌, ◌++◌, length, drop}
use Rattle.ir_prefix.specs.Ranges.{ranges_from, ranges_of}
use Rattle.ir_prefix.proofs.ranges.label_ranges.Given as goal

abbrev pub invariant-loop-label : goal.invariant-loop-label
invariant-loop-label l = record {
  inside : l.label ≤ length l.ports;
  told : l.set.items ++ ranges_from l.label (drop l.label l.ports) ≡ ranges_of l.ports;
}

abbrev pub decreases-loop-label : goal.decreases-loop-label
decreases-loop-label l = length l.ports - l.label

use Rattle.std.proofs.Common.{◌-◌}
use Rattle.ir_lookup.proofs.HalvingLemmas.{IsHalved}
use Rattle.ir_lookup.proofs.halving.place_counted.Given as goal

abbrev pub invariant-halves : goal.invariant-halves
invariant-halves l = IsHalved l.starts l.d l.low l.high l.compared

abbrev pub decreases-halves : goal.decreases-halves
decreases-halves l = l.high - l.low

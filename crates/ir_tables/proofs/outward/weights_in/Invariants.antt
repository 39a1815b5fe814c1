use Rattle.ir_tables.specs.Keys.{AreWeightsIn}
use Rattle.ir_tables.proofs.outward.weights_in.Given as goal

abbrev pub invariant-loop-key : goal.invariant-loop-key
invariant-loop-key l = AreWeightsIn l.keys l.weights.items l.key-index

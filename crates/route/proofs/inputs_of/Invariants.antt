use Rattle.std.proofs.Common.{◌≡◌, vec_len}
use Rattle.route.proofs.inputs_of.Given as goal

abbrev pub invariant-loop-source : goal.invariant-loop-source
invariant-loop-source l = vec_len l.inputs ≡ l.source-index

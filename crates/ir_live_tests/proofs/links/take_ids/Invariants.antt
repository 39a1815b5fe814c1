use Rattle.std.proofs.Common.{◌≡◌}
use Rattle.ir_live_tests.proofs.links.take_ids.Given as goal

abbrev pub invariant-loop : goal.invariant-loop
invariant-loop g l = l.taker.channel ≡ l.fn.taker.channel

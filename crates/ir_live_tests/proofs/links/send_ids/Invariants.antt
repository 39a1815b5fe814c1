use Rattle.std.proofs.Common.{◌≡◌}
use Rattle.ir_live_tests.proofs.links.send_ids.Given as goal

abbrev pub invariant-loop-id : goal.invariant-loop-id
invariant-loop-id g l = l.sender.channel ≡ l.fn.sender.channel

abbrev pub invariant-loop : goal.invariant-loop
invariant-loop g l = l.sender.channel ≡ l.fn.sender.channel

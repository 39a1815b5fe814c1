use Rattle.std.proofs.Common.{◌+◌, ◌*◌, sum}
use Rattle.ir_tables.specs.Keys.{IsKeying, load, keys_waiting, NoNode}
use Rattle.ir_tables.proofs.keyed.keys_from.Given as goal

abbrev pub invariant-loop-frontier : goal.invariant-loop-frontier
invariant-loop-frontier l = IsKeying l.topology l.u NoNode l.keys.items (keys_waiting l.frontier)

abbrev pub decreases-loop-frontier : goal.decreases-loop-frontier
decreases-loop-frontier l = 3 * sum l.keys.items + load l.frontier

use Rattle.std.proofs.Common.{◌<◌, ◌-◌, length}
use Rattle.ir_tables.specs.Keys.{KeepsFresh, load, keys_waiting}
use Rattle.ir_tables.proofs.keyed.Frontier.bring_near.Given as goal

abbrev pub invariant-loop-at : goal.invariant-loop-at
invariant-loop-at l = KeepsFresh l.keys (keys_waiting l.fn.self) (keys_waiting l.self) × (load l.self < load l.fn.self)

abbrev pub decreases-loop-at : goal.decreases-loop-at
decreases-loop-at l = length l.self.far.items - l.at

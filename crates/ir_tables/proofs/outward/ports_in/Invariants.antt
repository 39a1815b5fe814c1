use Rattle.ir_tables.specs.Keys.{ArePortsIn}
use Rattle.ir_tables.proofs.outward.ports_in.Given as goal

abbrev pub invariant-loop-v : goal.invariant-loop-v
invariant-loop-v l = ArePortsIn l.u l.keys l.ports.items l.v

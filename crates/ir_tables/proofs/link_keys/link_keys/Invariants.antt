use Rattle.ir_tables.specs.Numbered.{AreKeysOf}
use Rattle.ir_tables.proofs.link_keys.link_keys.Given as goal

abbrev pub invariant-loop-l : goal.invariant-loop-l
invariant-loop-l l = AreKeysOf l.links l.l l.keys.items

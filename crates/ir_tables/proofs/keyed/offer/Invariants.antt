use Rattle.ir_tables.specs.Keys.{load, keys_waiting}
use Rattle.ir_tables.proofs.KeySteps.{IsOffering}
use Rattle.ir_tables.proofs.keyed.offer.Given as goal

abbrev pub invariant-loop-p : goal.invariant-loop-p
invariant-loop-p l = IsOffering l.topology l.u l.x l.own l.initial.keys (load l.initial.frontier) l.keys (keys_waiting l.frontier) (load l.frontier) l.p

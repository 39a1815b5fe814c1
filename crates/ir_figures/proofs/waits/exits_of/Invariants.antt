use Rattle.ir_figures.specs.Exits.{AreExits}
use Rattle.ir_figures.proofs.waits.exits_of.Given as goal

abbrev pub invariant-loop-u : goal.invariant-loop-u
invariant-loop-u l = AreExits l.topology l.u l.first.items l.nodes.items

use Rattle.ir_tables.specs.FromNode.{IsPassing}
use Rattle.ir_tables.proofs.outward.pass_on.Given as goal

abbrev pub invariant-loop-hop : goal.invariant-loop-hop
invariant-loop-hop l = IsPassing l.topology l.weights l.x l.hop-index l.initial.marks.items l.initial.led.items l.marks.items l.led.items

use Rattle.std.proofs.Common.{arith}
use Rattle.ir_figures.proofs.search.place_of.Goals as goal

pub returns : goal.returns
returns c = absurd (c.loop-i.invariant c.requires.held.0 (omega (arith, c.requires.held.1, c.loop-i-test.false)) c.requires.held.2)

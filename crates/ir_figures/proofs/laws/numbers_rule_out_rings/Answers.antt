use Rattle.ir_figures.specs.Waits.{Waits, WaitsInEither, WaitsBeside}
use Rattle.ir_figures.proofs.Turns.{no_ring}
use Rattle.ir_figures.proofs.laws.numbers_rule_out_rings.Goals as goal

pub returns-clause-alone : goal.returns-clause-alone
returns-clause-alone c = λ s nodes ports without ring. no_ring (Waits s) nodes ports without ring

pub returns-clause-together : goal.returns-clause-together
returns-clause-together c = λ s t nodes ports without ring. no_ring (WaitsInEither s t) nodes ports without ring

pub returns-clause-beside : goal.returns-clause-beside
returns-clause-beside c = λ s t number nodes ports without ring. no_ring (WaitsBeside s number t) nodes ports without ring

use Rattle.std.proofs.Common.{Option, Some, None, MatchOption}
use Rattle.ir_cli.specs.Words.{AreTaken, FitsItsKind}
use Rattle.ir_cli.proofs.words.fault_met.Goals as goal

-- what is wrong with words that have their second plan, if anything is
with_second : {A Second : Type 0} (Taken Fits : Type 0) (fault : Option A) → Second → MatchOption fault (Taken × Fits) (λ _. Taken → Fits → ⊥)
    → MatchOption fault (Second × Taken × Fits) (λ _. Second → Taken → Fits → ⊥)
with_second Taken Fits None second holds = (second, holds.0, holds.1)
with_second Taken Fits (Some text) second holds = λ same taken fits. holds taken fits

pub returns-in-None : goal.returns-in-None
returns-in-None c = with_second (AreTaken c.args.words.now) (FitsItsKind c.args.words.now) c.fault_of.result c.in-None.ensures c.fault_of.ensures

use Rattle.ir_figures.proofs.OneRow.{one_row}
use Rattle.ir_figures.proofs.OneComparison.{one_comparison}
use Rattle.ir_figures.proofs.laws.comparison_is_determined.Goals as goal

pub returns-clause-row : goal.returns-clause-row
returns-clause-row c = λ order s line other x y. one_row order s line other x y

pub returns-clause-whole : goal.returns-clause-whole
returns-clause-whole c = λ network root text other x y. one_comparison network root text other x y

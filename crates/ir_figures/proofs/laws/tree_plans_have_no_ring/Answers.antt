use Rattle.ir_figures.proofs.Turns.{tree_without_ring}
use Rattle.ir_figures.proofs.laws.tree_plans_have_no_ring.Goals as goal

pub returns : goal.returns
returns c = λ s is tree. tree_without_ring s is tree

use Rattle.ir_numbering.proofs.Subtrees.{subtrees_are, others_are}
use Rattle.ir_numbering.proofs.laws.subtrees_are_intervals.Goals as goal

pub returns-clause-subtree : goal.returns-clause-subtree
returns-clause-subtree c = subtrees_are

pub returns-clause-others : goal.returns-clause-others
returns-clause-others c = others_are

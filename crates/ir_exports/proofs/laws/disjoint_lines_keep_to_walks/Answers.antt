use Rattle.ir_exports.proofs.Senders.{disjoint_keep}
use Rattle.ir_exports.proofs.laws.disjoint_lines_keep_to_walks.Goals as goal

pub returns : goal.returns
returns c s bits tables is are lines x part x_in = disjoint_keep s is bits tables are x x_in lines part

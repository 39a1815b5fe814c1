use Rattle.ir_exports.proofs.Senders.{beginnings_keep}
use Rattle.ir_exports.proofs.laws.beginnings_of_lines_keep_to_walks.Goals as goal

pub returns : goal.returns
returns c s bits tables is are counts x x_in = beginnings_keep s is bits tables are counts x x_in

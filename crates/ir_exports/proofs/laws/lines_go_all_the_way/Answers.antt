use Rattle.ir_exports.proofs.Senders.{labels_go, nested_go}
use Rattle.ir_exports.proofs.laws.lines_go_all_the_way.Goals as goal

pub returns-clause-labels : goal.returns-clause-labels
returns-clause-labels c is_disjoint s bits tables is are x x_in = labels_go s is bits tables is_disjoint are x x_in

pub returns-clause-beyond : goal.returns-clause-beyond
returns-clause-beyond c s bits tables is are x x_in = nested_go s is bits tables are x x_in

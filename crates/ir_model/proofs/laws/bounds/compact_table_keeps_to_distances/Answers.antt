use Rattle.ir_model.proofs.Within.{within_is_nearer, nearer_is_within, compact_is_within, within_is_compact}
use Rattle.ir_model.proofs.laws.bounds.compact_table_keeps_to_distances.Goals as goal

pub returns-clause-ports : goal.returns-clause-ports
returns-clause-ports c net ok u d p = (within_is_nearer net ok u d p, nearer_is_within net ok u d p)

pub returns-clause-tables : goal.returns-clause-tables
returns-clause-tables c net ok order table = (within_is_compact net ok order table, compact_is_within net ok order table)

use Rattle.ir_model.proofs.Tables.{prescribed_shortest}
use Rattle.ir_model.proofs.laws.walks.prescribed_walk_of_a_shortest_table.Goals as goal

pub returns : goal.returns
returns c net ok table is u d u_in d_in walk prescribed = prescribed_shortest net ok table is u d u_in d_in walk prescribed

use Rattle.ir_model.proofs.Tables.{prescribed_nearer}
use Rattle.ir_model.proofs.laws.choices.prescribed_walk_of_a_table_of_shortest_ways.Goals as goal

pub returns : goal.returns
returns c net ok table is u d hu hd walk prescribed = prescribed_nearer net ok table is u d hu hd walk prescribed

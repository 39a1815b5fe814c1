use Rattle.std.proofs.Common.{◌≡◌, take}
use Rattle.ir_model.specs.Places.{neighbors_at}
use Rattle.ir_tables.specs.Numbered.{ports_at}
use Rattle.ir_tables.specs.ByPlace.{row_numbers}
use Rattle.ir_tables.proofs.adjacency.ports_of.Given as goal

abbrev pub invariant-loop-place : goal.invariant-loop-place
invariant-loop-place l = l.ports.items ≡ ports_at l.links l.u (take l.place (row_numbers l.graph (neighbors_at l.graph l.u)))

use Rattle.std.proofs.Common.{◌≡◌, ◌++◌, take}
use Rattle.ir_model.specs.Places.{neighbors_at}
use Rattle.ir_tables.specs.Numbered.{links_at}
use Rattle.ir_tables.specs.ByPlace.{row_numbers}
use Rattle.ir_tables.proofs.adjacency.push_links.Given as goal

abbrev pub invariant-loop-place : goal.invariant-loop-place
invariant-loop-place l = l.links.items ≡ l.initial.links.items ++ links_at l.u (take l.place (row_numbers l.graph (neighbors_at l.graph l.u)))

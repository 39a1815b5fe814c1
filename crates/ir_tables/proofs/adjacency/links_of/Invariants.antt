use Rattle.std.proofs.Common.{◌≡◌, take}
use Rattle.ir_tables.specs.Numbered.{links_from}
use Rattle.ir_tables.specs.ByPlace.{neighbor_rows}
use Rattle.ir_tables.proofs.adjacency.links_of.Given as goal

abbrev pub invariant-loop-u : goal.invariant-loop-u
invariant-loop-u l = l.links.items ≡ links_from 0 (take l.u (neighbor_rows l.graph))

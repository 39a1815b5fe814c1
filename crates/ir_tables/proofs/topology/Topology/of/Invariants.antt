use Rattle.std.proofs.Common.{◌≡◌, take}
use Rattle.ir_tables.specs.Numbered.{ports_from}
use Rattle.ir_tables.specs.ByPlace.{neighbor_rows}
use Rattle.ir_tables.proofs.topology.Topology.of.Given as goal

abbrev pub invariant-loop-u : goal.invariant-loop-u
invariant-loop-u l = l.ports ≡ take l.u (ports_from l.links.items 0 (neighbor_rows l.graph))

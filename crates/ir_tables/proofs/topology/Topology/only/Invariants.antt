use Rattle.std.proofs.Common.{◌≡◌, filter, take, map}
use Rattle.ir_model.specs.Topology.{is_up}
use Rattle.ir_tables.proofs.topology.Topology.only.Given as goal

abbrev pub invariant-loop-u : goal.invariant-loop-u
invariant-loop-u l = l.ports ≡ map (filter (is_up l.up)) (take l.u l.self.ports)

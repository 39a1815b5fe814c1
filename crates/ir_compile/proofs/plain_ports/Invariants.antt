use Rattle.std.proofs.Common.{◌≡◌, ℕ, map, take, Option}
use Rattle.std.specs.Option.{unwrap_or}
use Rattle.ir_compile.proofs.plain_ports.Given as goal

abbrev pub invariant-loop-port : goal.invariant-loop-port
invariant-loop-port l = l.plain.items ≡ map (λ (port : Option ℕ). unwrap_or port 0) (take l.port-index l.ports)

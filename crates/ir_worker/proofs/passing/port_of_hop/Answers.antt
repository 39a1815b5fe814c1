use Rattle.std.proofs.Common.{arith}
use Rattle.std.proofs.lemmas.Option.{slice_get_within}
use Rattle.std.proofs.Math.Logic.{∥∥₁_elim}
use Rattle.ir_worker.proofs.passing.port_of_hop.Goals as goal

pub unreachable-requires : goal.unreachable-requires
unreachable-requires c =
    ∥∥₁_elim c.requires (λ x y. absurd x) (λ w.
    let lt = slice_get_within c.args.ports.now w.0 c.args.hop w.1 in
    c.loop-j.invariant w.0 (omega arith) w.1)

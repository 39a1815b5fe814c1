use Rattle.std.proofs.Common.{◌≤◌, ◌^◌, arith}
use Rattle.std.proofs.lemmas.Nat.{one_shl}
use Rattle.std.proofs.Math.Pow.{pow_mono}
use Rattle.ir_lanes.proofs.outward.unit_of.Goals as goal

pub returns-clause-unit : goal.returns-clause-unit
returns-clause-unit c = one_shl c.args.bits 32 (omega (arith, c.requires))

pub returns-clause-few : goal.returns-clause-few
returns-clause-few c =
    let up : 2 ^ c.args.bits ≤ 2 ^ 15 = pow_mono {i = c.args.bits} {j = 15} c.requires in
    omega (arith, up, one_shl c.args.bits 32 (omega (arith, c.requires)))

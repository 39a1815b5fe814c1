use Rattle.std.proofs.Common.{◌*◌, ◌%◌, ◌^◌, ℕ, eqb, sym, subst, w32, replicate}
use Rattle.std.specs.Int.Bits.{bit_and, bit_or}
use Rattle.std.specs.Simd.Lanes.{zip2, sel_l}
use Rattle.std.proofs.lemmas.Nat.{one_shl}
use Rattle.std.proofs.lemmas.Simd.{tops_compared}
use Rattle.ir_lanes.specs.Marks.{WithPort}
use Rattle.ir_lanes.proofs.PortLanes.{with_port_or}
use Rattle.ir_lanes.proofs.vectors.with_port.Goals as goal

pub returns : goal.returns
returns c =
    let lanes = c.args.lanes in
    let word : ℕ = c.args.word in
    let port : ℕ = c.args.port in
    let bits = c.places-bits.result in
    let bit : ℕ = 1 * 2 ^ port % 2 ^ 32 in
    subst (λ ms. WithPort lanes word port (zip2 bit_or lanes (sel_l ms (replicate 16 bit) (replicate 16 0))))
    (sym (tops_compared w32 eqb (zip2 bit_and (replicate 16 word) bits) bits))
    (with_port_or lanes word port bit bits c.requires.long c.places-bits.ensures (one_shl port 32 c.requires.port))

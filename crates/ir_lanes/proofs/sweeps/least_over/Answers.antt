use Rattle.std.proofs.Common.{◌+◌, ◌*◌, ℕ, get_or, arith}
use Rattle.std.proofs.lemmas.Option.{slice_get-get_or}
use Rattle.ir_model.specs.declared.Hop.{Hop}
use Rattle.ir_tables.proofs.Rounds.{past}
use Rattle.ir_lanes.proofs.LaneLemmas.{least_none, least_next}
use Rattle.ir_lanes.proofs.sweeps.least_over.Goals as goal

pub loop-hop-init : goal.loop-hop-init
loop-hop-init c = least_none c.args.ports.now c.args.unit c.args.lanes.now

pub loop-hop-preserved : goal.loop-hop-preserved
loop-hop-preserved c =
    let i : ℕ = c.loop-hop.hop-index in
    let hop : Hop = get_or c.args.ports.now i past in
    least_next c.args.ports.now c.args.unit i c.args.lanes.now c.loop-hop.least c.load-there.result c.farther.result c.lesser-least.result hop
    (slice_get-get_or c.args.ports.now i past c.loop-hop-test.true) c.load-there.ensures c.farther.ensures c.lesser-least.ensures c.loop-hop.invariant

pub load-there-requires : goal.load-there-requires
load-there-requires c =
    let i : ℕ = c.loop-hop.hop-index in
    let hop : Hop = get_or c.args.ports.now i past in
    c.requires.have i hop (slice_get-get_or c.args.ports.now i past c.loop-hop-test.true)

pub farther-requires : goal.farther-requires
farther-requires c =
    let i : ℕ = c.loop-hop.hop-index in
    let hop : Hop = get_or c.args.ports.now i past in
    record {
      long = c.load-there.ensures.long;
      light = c.requires.light i hop (slice_get-get_or c.args.ports.now i past c.loop-hop-test.true);
      near = λ k k_in. omega (arith, c.load-there.ensures.each k k_in, c.requires.near (hop.node * 16 + k));
    }

pub overflow_mul-hop-in-loop-hop : goal.overflow_mul-hop-in-loop-hop
overflow_mul-hop-in-loop-hop c =
    let i : ℕ = c.loop-hop.hop-index in
    let hop : Hop = get_or c.args.ports.now i past in
    record { fits = omega (arith, c.requires.light i hop (slice_get-get_or c.args.ports.now i past c.loop-hop-test.true)) }

use Rattle.std.proofs.Common.{◌+◌, ℕ, List, replicate, arith}
use Rattle.std.proofs.lemmas.Simd.{get_or-replicate}
use Rattle.ir_compile.proofs.ShortRuns.{runs_begin, runs_end, runs_go_on}
use Rattle.ir_compile.proofs.sixteen.sixteen_runs.Goals as goal

pub loop-k-preserved : goal.loop-k-preserved
loop-k-preserved c =
    let k : ℕ = c.loop-k.k in
    let more : List ℕ = replicate 16 (k + 1) in
    runs_go_on c.args.twice.now c.args.from k c.loop-k.common c.loop-k.shared c.loop-k.sizes c.load.result c.both-next.result c.loop-k.invariant c.load.ensures c.both-next.ensures
    c.where_some-shared.result c.where_some-sizes.result more c.where_some-shared.ensures c.where_some-sizes.ensures (λ i l. get_or-replicate 16 i (k + 1) 0 l)

pub load-common-requires : goal.load-common-requires
load-common-requires c = omega (arith, c.requires.room)

pub loop-k-init : goal.loop-k-init
loop-k-init c =
    let room = c.requires.room in
    let from : ℕ = c.args.from in
    runs_begin c.args.twice.now from c.load-common.result c.load-common.ensures (λ i l. c.requires.some (from + i) (omega (arith, room, l))) (λ i l. (c.type_inv.twice (from + i)).fits)

pub load-requires : goal.load-requires
load-requires c = omega (arith, c.requires.room, c.loop-k-test.true)

pub returns-then-are_none : goal.returns-then-are_none
returns-then-are_none c =
    let test = c.loop-k-test.true in
    runs_end c.args.twice.now c.args.from c.loop-k.k c.loop-k.common c.loop-k.shared c.loop-k.sizes c.load.result c.both-next.result c.loop-k.invariant c.load.ensures c.both-next.ensures
    (omega (arith, test)) (c.are_none.ensures c.if-are_none.true)

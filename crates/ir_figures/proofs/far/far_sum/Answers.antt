use Rattle.std.proofs.Common.{◌≡◌, ◌+◌, ◌*◌, ℕ, min, ap, sym, arith}
use Rattle.std.proofs.Math.Nat.{min-eq_left}
use Rattle.std.proofs.lemmas.Grind.{div_ceil_times}
use Rattle.ir_model.specs.Topology.{node_count}
use Rattle.ir_figures.proofs.FarAway.{batch_begins, batches_end, nothing_far, sum_at}
use Rattle.ir_figures.proofs.far.far_sum.Goals as goal

pub loop-batch-init : goal.loop-batch-init
loop-batch-init c =
    let s = c.args.plan.now in
    let e : 0 ≡ min 0 (node_count s.topology) = sym (min-eq_left (omega arith)) in
    sum_at s 0 (min 0 (node_count s.topology)) 0 e (nothing_far s)

pub batch_sum-requires-clause-first : goal.batch_sum-requires-clause-first
batch_sum-requires-clause-first c =
    let bounds = div_ceil_times c.nodes.result 16 (omega arith) in
    omega (arith, c.loop-batch-test.true, c.div_ceil-batch-end.ensures, c.nodes.ensures.count, bounds.1)

pub batch_sum-requires-clause-before : goal.batch_sum-requires-clause-before
batch_sum-requires-clause-before c =
    let s = c.args.plan.now in
    let n = node_count s.topology in
    let bounds = div_ceil_times c.nodes.result 16 (omega arith) in
    batch_begins s c.loop-batch.batch n c.loop-batch.sum (omega (arith, c.loop-batch-test.true, c.div_ceil-batch-end.ensures, c.nodes.ensures.count, bounds.1)) c.loop-batch.invariant

pub loop-batch-preserved : goal.loop-batch-preserved
loop-batch-preserved c =
    let s = c.args.plan.now in
    let n = node_count s.topology in
    let e : c.loop-batch.batch * 16 + 16 ≡ (c.loop-batch.batch + 1) * 16 = omega arith in
    sum_at s (min (c.loop-batch.batch * 16 + 16) n) (min ((c.loop-batch.batch + 1) * 16) n) c.in_ok-sum.sum (ap (λ (k : ℕ). min k n) e) c.in_ok-sum.ensures

pub returns : goal.returns
returns c =
    let s = c.args.plan.now in
    let n = node_count s.topology in
    let bounds = div_ceil_times c.nodes.result 16 (omega arith) in
    batches_end s c.loop-batch.batch n c.loop-batch.sum (omega (arith, c.loop-batch-test.false, c.div_ceil-batch-end.ensures, c.nodes.ensures.count, bounds.0)) c.loop-batch.invariant

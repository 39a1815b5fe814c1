use Rattle.std.proofs.Common.{◌≡◌, ◌+◌, ◌<◌, ℕ, List, ◌∙◌, set, subst, length-set, w32, arith, slice_index}
use Rattle.std.specs.Int.{trailing_zeros}
use Rattle.ir_compile.specs.PortBits.{AreWordRuns, IsWordRun}
use Rattle.ir_compile.proofs.PortBits.{runs_more}
use Rattle.ir_compile.proofs.ShortRuns.{short_run}
use Rattle.ir_compile.proofs.sixteen.put_runs.Goals as goal

pub loop-k-preserved : goal.loop-k-preserved
loop-k-preserved c =
    let n : ℕ = c.args.n in
    let twice : List ℕ = c.args.twice.now in
    let from : ℕ = c.args.from in
    let k : ℕ = c.loop-k.k in
    let a : ℕ = from + k in
    let v = c.loop-k.invariant in
    let size : ℕ = slice_index c.args.runs.0 k in
    let shared : ℕ = slice_index c.args.runs.1 k in
    let port : ℕ = trailing_zeros w32 shared in
    let inside = c.requires.inside in
    let k_in : k < 16 = c.loop-k-test.true in
    let run : IsWordRun n twice a size port = short_run n twice a size shared (omega (arith, inside)) (c.requires.short.each k k_in) in
    let counts_len = v.counts_len in
    let ports_len = v.ports_len in
    let next : a + 1 ≡ from + (k + 1) = omega arith in
    record {
      counts_len = length-set c.loop-k.counts a size ∙ counts_len;
      ports_len = length-set c.loop-k.ports a port ∙ ports_len;
      runs = subst (λ (m : ℕ). AreWordRuns n twice m (set c.loop-k.counts a size) (set c.loop-k.ports a port)) next
          (runs_more n twice a c.loop-k.counts c.loop-k.ports size port (omega (arith, inside, k_in, counts_len)) (omega (arith, inside, k_in, ports_len)) v.runs run);
    }

pub bounds-sizes-k : goal.bounds-sizes-k
bounds-sizes-k c = omega (arith, c.requires.short.all_sizes, c.loop-k-test.true)

pub bounds-shared-k : goal.bounds-shared-k
bounds-shared-k c = omega (arith, c.requires.short.all_ports, c.loop-k-test.true)

pub bounds-counts-from : goal.bounds-counts-from
bounds-counts-from c = omega (arith, c.requires.inside, c.loop-k-test.true, c.loop-k.invariant.counts_len)

pub bounds-ports-from : goal.bounds-ports-from
bounds-ports-from c = omega (arith, c.requires.inside, c.loop-k-test.true, c.loop-k.invariant.ports_len)

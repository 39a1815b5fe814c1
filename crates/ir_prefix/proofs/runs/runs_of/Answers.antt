use Rattle.std.proofs.Common.{◌-◌, arith, rules}
use Rattle.ir_prefix.proofs.RunLemmas.{runs_before}
use Rattle.ir_prefix.proofs.runs.runs_of.Goals as goal

pub loop-x-preserved : goal.loop-x-preserved
loop-x-preserved c = record {
  inside = let i = c.loop-x.invariant.inside in omega arith;
  every = search rules;
  ahead = c.run_before-run.ensures;
  done = let i = c.loop-x.invariant.inside in runs_before c.args.ports.now c.loop-x.runs.items (c.loop-x.x - 1) c.run_before-run.result c.loop-x.invariant.every (omega arith) c.run_before-run.ensures (λ d none l. c.loop-x.invariant.done d none (omega arith));
}

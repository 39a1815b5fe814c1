use Rattle.ir_plan.proofs.BestRuns.{AreBestRuns}
use Rattle.ir_plan.proofs.compact.longest_runs.Given as goal

abbrev pub invariant-loop-p : goal.invariant-loop-p
invariant-loop-p l = AreBestRuns l.topology l.numbering.order l.numbering.labels l.u l.p l.counts.items l.ports.items

use Rattle.ir_show.specs.StatsText.{IsGreatestAmong}
use Rattle.ir_show.proofs.stats.greatest_row.Given as goal

abbrev pub invariant-loop-u : goal.invariant-loop-u
invariant-loop-u l = IsGreatestAmong l.plan l.u l.best

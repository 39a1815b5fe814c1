-- The numbers of a head's verdicts: those of the counters of the packet path.
use Rattle.std.specs.Prelude.{ℕ}
use Rattle.ir_lines.specs.declared.head.HeadVerdict.{HeadVerdict}
use Rattle.ir_lines.specs.declared.head.HeadVerdict.TheVariants.{Forward, Own, NoEpoch, NoLabel}

-- forwarded, delivered, of no epoch, for no label
abbrev pub verdict_number : HeadVerdict → ℕ
verdict_number Forward = 0
verdict_number Own = 1
verdict_number NoEpoch = 3
verdict_number NoLabel = 4

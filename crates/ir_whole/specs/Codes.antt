-- The numbers of the findings.
use Rattle.std.specs.Prelude.{ℕ}
use Rattle.ir_whole.specs.declared.finding.WholeKind.{WholeKind}
use Rattle.ir_whole.specs.declared.finding.WholeKind.TheVariants.{NeverInjected, NotYetInstalled, NeverDown, NeverRetired, NeverFull, NoMemory}

abbrev pub whole_code : WholeKind → ℕ
whole_code NeverInjected = 1
whole_code NotYetInstalled = 2
whole_code NeverDown = 3
whole_code NeverRetired = 4
whole_code NeverFull = 5
whole_code NoMemory = 6

-- The numbers of the findings, and of the errors of writing.
use Rattle.std.specs.Prelude.{ℕ}
use Rattle.ir_trace.specs.declared.finding.FindingKind.{FindingKind}
use Rattle.ir_trace.specs.declared.finding.FindingKind.TheVariants.{NotTrace, BadRow, UnknownNode, UnknownEpoch, NotAPrefix, NotAtDestination, BadWeight, Repeated, NoMemory}
use Rattle.ir_trace.specs.declared.library.TraceError.{TraceError}
use Rattle.ir_trace.specs.declared.library.TraceError.TheVariants as writing

abbrev pub finding_code : FindingKind → ℕ
finding_code NotTrace = 1
finding_code BadRow = 2
finding_code UnknownNode = 3
finding_code UnknownEpoch = 4
finding_code NotAPrefix = 5
finding_code NotAtDestination = 6
finding_code BadWeight = 7
finding_code Repeated = 8
finding_code NoMemory = 9

abbrev pub error_code : TraceError → ℕ
error_code writing.Unwritable = 1
error_code writing.NoMemory = 2

use Rattle.ir_control.proofs.Determined.{same_records}
use Rattle.ir_control.proofs.laws.report_is_determined.Goals as goal

pub returns : goal.returns
returns c = same_records

use Rattle.ir_core.proofs.Lacking.{exists, front, all, sound}
use Rattle.ir_core.proofs.laws.ways_over_lacking_rows.Goals as goal

pub returns : goal.returns
returns c = record { exists = exists; front = front; all = all; sound = sound }

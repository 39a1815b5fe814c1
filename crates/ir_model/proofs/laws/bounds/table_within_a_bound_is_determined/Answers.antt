use Rattle.std.proofs.Common.{◌≡◌}
use Rattle.ir_model.proofs.Within.{within_same}
use Rattle.ir_model.proofs.laws.bounds.table_within_a_bound_is_determined.Goals as goal

pub returns : goal.returns
returns c net bound order labels table other named a b u d hu hd = within_same net (λ u d b. bound u d ≡ b) order labels named table other a b u d hu hd

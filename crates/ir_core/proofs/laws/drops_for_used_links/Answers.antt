use Rattle.ir_core.proofs.Avoids.{for_used, not_for_avoided}
use Rattle.ir_core.proofs.laws.drops_for_used_links.Goals as goal

pub returns-clause-used : goal.returns-clause-used
returns-clause-used c = for_used

pub returns-clause-avoided : goal.returns-clause-avoided
returns-clause-avoided c = not_for_avoided

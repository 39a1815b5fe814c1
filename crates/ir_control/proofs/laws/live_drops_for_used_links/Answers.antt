use Rattle.ir_control.proofs.Avoids.{live_for_used}
use Rattle.ir_control.proofs.laws.live_drops_for_used_links.Goals as goal

pub returns : goal.returns
returns c = live_for_used

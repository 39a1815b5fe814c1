use Rattle.ir_show.proofs.Determined.{one_stats_text}
use Rattle.ir_show.proofs.laws.stats_text_is_determined.Goals as goal

pub returns : goal.returns
returns c nodes s text other x y = one_stats_text nodes s text other x y

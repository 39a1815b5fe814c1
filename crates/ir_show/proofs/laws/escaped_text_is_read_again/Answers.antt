use Rattle.ir_show.proofs.Escapes.{read_again}
use Rattle.ir_show.proofs.laws.escaped_text_is_read_again.Goals as goal

pub returns : goal.returns
returns c text rest = read_again text rest

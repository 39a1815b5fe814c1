use Rattle.ir_json.proofs.Again.{read_again}
use Rattle.ir_json.proofs.laws.string_is_read_again.Goals as goal

pub returns : goal.returns
returns c word rest all = read_again word rest all

use Rattle.std.proofs.Common.{rules}
use Rattle.ir_prefix.proofs.BitLemmas.{least_is}
use Rattle.ir_prefix.proofs.marks.least.Goals as goal

pub returns : goal.returns
returns c = least_is c.args.names (search rules) c.requires

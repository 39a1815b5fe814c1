use Rattle.ir_lanes.proofs.LaneLemmas.{HasLanes-plus, plus_fits}
use Rattle.ir_lanes.proofs.vectors.farther.Goals as goal

pub overflow_add-result : goal.overflow_add-result
overflow_add-result c = plus_fits c.args.a c.args.added c.requires.long c.requires.light c.requires.near

pub returns : goal.returns
returns c = HasLanes-plus c.args.a c.args.added c.requires.long

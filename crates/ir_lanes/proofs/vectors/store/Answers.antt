use Rattle.ir_lanes.proofs.LaneLemmas.{near_put}
use Rattle.ir_lanes.proofs.vectors.store.Goals as goal

pub returns-clause-near : goal.returns-clause-near
returns-clause-near c = near_put c.args.at c.args.lanes.now c.args.to c.requires.room c.requires.long c.requires.near c.requires.low

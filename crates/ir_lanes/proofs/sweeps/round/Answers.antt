use Rattle.ir_lanes.proofs.sweeps.round.Goals as goal

pub loop-k-init : goal.loop-k-init
loop-k-init c = record { lanes = c.requires.lanes; waits = c.requires.waits }

pub turns-requires : goal.turns-requires
turns-requires c = record { unit = c.requires.unit; lanes = c.loop-k.invariant.lanes; waits = c.loop-k.invariant.waits }

pub loop-k-preserved : goal.loop-k-preserved
loop-k-preserved c = record { lanes = c.turns.ensures.lanes; waits = c.turns.ensures.waits }

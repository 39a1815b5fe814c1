use Rattle.ir_lanes.proofs.sweeps.turns.Goals as goal

pub loop-turn-init : goal.loop-turn-init
loop-turn-init c = record { lanes = c.requires.lanes; waits = c.requires.waits }

pub sweep-more-requires : goal.sweep-more-requires
sweep-more-requires c =
    let i = c.loop-turn.invariant in
    record { unit = c.requires.unit; lanes = i.lanes; waits = i.waits }

pub loop-turn-preserved : goal.loop-turn-preserved
loop-turn-preserved c = record { lanes = c.sweep-more.ensures.lanes; waits = c.sweep-more.ensures.waits }

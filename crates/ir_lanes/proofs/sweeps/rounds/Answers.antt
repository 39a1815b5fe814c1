use Rattle.ir_lanes.proofs.sweeps.rounds.Goals as goal

pub round-more-requires : goal.round-more-requires
round-more-requires c =
    let i = c.loop-turn.invariant in
    record { unit = c.requires.unit; lanes = i.lanes; waits = i.waits }

pub loop-turn-preserved : goal.loop-turn-preserved
loop-turn-preserved c = record { lanes = c.round-more.ensures.lanes; waits = c.round-more.ensures.waits }

use Rattle.ir_core.proofs.Quiets.{way_done, take_done_by, up_to_date_still}
use Rattle.ir_core.proofs.world.World.try_way.Goals as goal

pub returns-clause-moves : goal.returns-clause-moves
returns-clause-moves c =
    let ch = c.requires.channel in
    (way_done c.args.self.now c.take.new.self c.try_act.new.self c.args.node c.args.way c.try_act.result
    (take_done_by c.args.self.now c.take.new.self c.invariant.ensures.world c.args.node c.args.way ch.0 c.requires.node_in ch.1 c.requires.hand c.take.result c.take.ensures)
    c.try_act.ensures.moves c.try_act.ensures.idle).moves

pub returns-clause-idle : goal.returns-clause-idle
returns-clause-idle c =
    let ch = c.requires.channel in
    (way_done c.args.self.now c.take.new.self c.try_act.new.self c.args.node c.args.way c.try_act.result
    (take_done_by c.args.self.now c.take.new.self c.invariant.ensures.world c.args.node c.args.way ch.0 c.requires.node_in ch.1 c.requires.hand c.take.result c.take.ensures)
    c.try_act.ensures.moves c.try_act.ensures.idle).idle

pub try_act-requires-clause-view : goal.try_act-requires-clause-view
try_act-requires-clause-view c =
    let ch = c.requires.channel in
    let done = take_done_by c.args.self.now c.take.new.self c.invariant.ensures.world c.args.node c.args.way ch.0 c.requires.node_in ch.1 c.requires.hand c.take.result c.take.ensures in
    up_to_date_still c.args.self.now c.take.new.self c.args.node done.views done.boards c.requires.view

use Rattle.std.proofs.Common.{Bool, sym, subst}
use Rattle.ir_core.proofs.Quiets.{ActDone, act_done_by, up_to_date_still}
use Rattle.ir_core.proofs.world.World.try_act.Goals as goal

pub returns-clause-moves : goal.returns-clause-moves
returns-clause-moves c =
    (subst (λ (b : Bool). ActDone c.args.self.now c.args.node c.act.new.self b) (sym c.is_ok.ensures.value)
    (act_done_by c.args.self.now c.act.new.self c.invariant.ensures.world c.args.node c.requires.node_in c.requires.view c.act.result c.act.ensures)).moves

pub returns-clause-idle : goal.returns-clause-idle
returns-clause-idle c =
    (subst (λ (b : Bool). ActDone c.args.self.now c.args.node c.act.new.self b) (sym c.is_ok.ensures.value)
    (act_done_by c.args.self.now c.act.new.self c.invariant.ensures.world c.args.node c.requires.node_in c.requires.view c.act.result c.act.ensures)).idle

pub returns-clause-hand : goal.returns-clause-hand
returns-clause-hand c = (act_done_by c.args.self.now c.act.new.self c.invariant.ensures.world c.args.node c.requires.node_in c.requires.view c.act.result c.act.ensures).hand

pub returns-clause-view : goal.returns-clause-view
returns-clause-view c =
    let done = act_done_by c.args.self.now c.act.new.self c.invariant.ensures.world c.args.node c.requires.node_in c.requires.view c.act.result c.act.ensures in
    up_to_date_still c.args.self.now c.act.new.self c.args.node done.views done.moves.boards c.requires.view

use Rattle.std.proofs.Common.{◌∙◌, Bool, sym, subst, string_bytes}
use Rattle.ir_model.specs.Graph.{names}
use Rattle.ir_core.specs.Drain.{after_act}
use Rattle.ir_core.specs.Quiet.{Moves}
use Rattle.ir_core.specs.World.{World}
use Rattle.ir_core.proofs.Quiets.{act_done_by, up_to_date_still}
use Rattle.ir_steps.proofs.Adding.{act_answer, act_adds}
use Rattle.ir_steps.proofs.drain.try_act.Goals as goal

pub returns-clause-moves : goal.returns-clause-moves
returns-clause-moves c =
    let s : World = c.args.world.now in
    let new : World = c.play.new.world in
    let ok = c.invariant.ensures.world in
    let p = c.in_ok-play.ensures in
    let answer = act_answer s new ok c.requires.history c.args.node c.requires.node_in c.requires.view p.reply p.applied in
    subst (λ (b : Bool). Moves (after_act s.opening c.args.node) b s new) (sym p.accepted_is) (act_done_by s new ok c.args.node c.requires.node_in c.requires.view p.reply answer).moves

pub returns-clause-idle : goal.returns-clause-idle
returns-clause-idle c = λ e.
    let s : World = c.args.world.now in
    let new : World = c.play.new.world in
    let ok = c.invariant.ensures.world in
    let p = c.in_ok-play.ensures in
    let answer = act_answer s new ok c.requires.history c.args.node c.requires.node_in c.requires.view p.reply p.applied in
    (act_done_by s new ok c.args.node c.requires.node_in c.requires.view p.reply answer).idle (sym p.accepted_is ∙ e)

pub returns-clause-hand : goal.returns-clause-hand
returns-clause-hand c =
    let s : World = c.args.world.now in
    let new : World = c.play.new.world in
    let ok = c.invariant.ensures.world in
    let p = c.in_ok-play.ensures in
    (act_done_by s new ok c.args.node c.requires.node_in c.requires.view p.reply (act_answer s new ok c.requires.history c.args.node c.requires.node_in c.requires.view p.reply p.applied)).hand

pub returns-clause-view : goal.returns-clause-view
returns-clause-view c =
    let s : World = c.args.world.now in
    let new : World = c.play.new.world in
    let ok = c.invariant.ensures.world in
    let p = c.in_ok-play.ensures in
    let done = act_done_by s new ok c.args.node c.requires.node_in c.requires.view p.reply (act_answer s new ok c.requires.history c.args.node c.requires.node_in c.requires.view p.reply p.applied) in
    up_to_date_still s new c.args.node done.views done.moves.boards c.requires.view

pub returns-clause-lines : goal.returns-clause-lines
returns-clause-lines c =
    act_adds c.args.world.now c.play.new.world c.invariant.ensures.world c.requires.history c.args.node c.requires.node_in c.requires.view
    (names c.args.net.now.graph.now) c.args.net.now.topology.now c.args.line _ (string_bytes c.args.text.now) (string_bytes c.play.new.text) c.in_ok-play.ensures

use Rattle.std.proofs.Common.{◌<◌, sym, subst, string_bytes}
use Rattle.ir_model.specs.Graph.{names}
use Rattle.ir_core.specs.Setting.{Setting, nodes_of}
use Rattle.ir_core.specs.Drain.{after_take}
use Rattle.ir_core.specs.World.{World}
use Rattle.ir_core.proofs.Quiets.{way_done, up_to_date_still}
use Rattle.ir_steps.proofs.Adding.{take_done, take_adds, way_adds}
use Rattle.ir_steps.proofs.drain.try_way.Goals as goal

pub try_act-requires-clause-history : goal.try_act-requires-clause-history
try_act-requires-clause-history c =
    let s : World = c.args.world.now in
    let p = c.in_ok-play.ensures in
    let has = c.requires.history in
    let t = take_done s c.play.new.world c.invariant.ensures.world has c.args.node c.requires.node_in c.args.way c.requires.channel.0 c.requires.channel.1 c.requires.hand p.reply p.applied in
    (after_take s.opening c.args.node c.args.way has.0, t.shows has.0 has.1)

pub try_act-requires-clause-node_in : goal.try_act-requires-clause-node_in
try_act-requires-clause-node_in c =
    subst (λ (o : Setting). c.args.node < nodes_of o) (sym c.in_ok-play.ensures.applied.opening) c.requires.node_in

pub try_act-requires-clause-view : goal.try_act-requires-clause-view
try_act-requires-clause-view c =
    let s : World = c.args.world.now in
    let p = c.in_ok-play.ensures in
    let t = take_done s c.play.new.world c.invariant.ensures.world c.requires.history c.args.node c.requires.node_in c.args.way c.requires.channel.0 c.requires.channel.1 c.requires.hand p.reply p.applied in
    up_to_date_still s c.play.new.world c.args.node t.views t.boards c.requires.view

pub returns-clause-moves : goal.returns-clause-moves
returns-clause-moves c =
    let s : World = c.args.world.now in
    let p = c.in_ok-play.ensures in
    let t = take_done s c.play.new.world c.invariant.ensures.world c.requires.history c.args.node c.requires.node_in c.args.way c.requires.channel.0 c.requires.channel.1 c.requires.hand p.reply p.applied in
    (way_done s c.play.new.world c.try_act.new.world c.args.node c.args.way _ t c.in_ok-try_act.ensures.moves c.in_ok-try_act.ensures.idle).moves

pub returns-clause-idle : goal.returns-clause-idle
returns-clause-idle c =
    let s : World = c.args.world.now in
    let p = c.in_ok-play.ensures in
    let t = take_done s c.play.new.world c.invariant.ensures.world c.requires.history c.args.node c.requires.node_in c.args.way c.requires.channel.0 c.requires.channel.1 c.requires.hand p.reply p.applied in
    (way_done s c.play.new.world c.try_act.new.world c.args.node c.args.way _ t c.in_ok-try_act.ensures.moves c.in_ok-try_act.ensures.idle).idle

pub returns-clause-lines : goal.returns-clause-lines
returns-clause-lines c =
    let s : World = c.args.world.now in
    let mid : World = c.play.new.world in
    let p = c.in_ok-play.ensures in
    let ok = c.invariant.ensures.world in
    let nodes = names c.args.net.now.graph.now in
    let net = c.args.net.now.topology.now in
    let t = take_done s mid ok c.requires.history c.args.node c.requires.node_in c.args.way c.requires.channel.0 c.requires.channel.1 c.requires.hand p.reply p.applied in
    way_adds nodes net c.args.line s mid c.args.node c.args.way (string_bytes c.args.text.now) (string_bytes c.play.new.text) (string_bytes c.try_act.new.text) t
    (take_adds s mid ok c.requires.history c.args.node c.requires.node_in c.args.way c.requires.channel.0 c.requires.channel.1 c.requires.hand nodes net c.args.line _ (string_bytes c.args.text.now) (string_bytes c.play.new.text) p)
    c.in_ok-try_act.ensures.lines

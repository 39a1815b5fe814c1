use Rattle.std.proofs.Common.{◌∙◌, ◌-◌, List, ap, sym, length, string_bytes}
use Rattle.ir_model.specs.Graph.{names}
use Rattle.ir_core.specs.declared.board.Board.{Board}
use Rattle.ir_core.specs.declared.event.Event.TheVariants as event
use Rattle.ir_core.specs.World.{World}
use Rattle.ir_core.proofs.Quiets.{read_moves, read_view}
use Rattle.ir_steps.specs.Parts.{IsApplied}
use Rattle.ir_steps.proofs.Adding.{read_answer, read_adds, read_adds_nothing}
use Rattle.ir_steps.proofs.drain.read_newest.Goals as goal

pub returns-then-view-version-clause-moves : goal.returns-then-view-version-clause-moves
returns-then-view-version-clause-moves c =
    let s : World = c.args.world.now in
    let ok = c.invariant.ensures.world in
    let newest = ap (λ (l : List Board). length l - 1) c.board_versions.ensures in
    let applied : IsApplied (event.Read c.args.node (length c.board_versions.result.now - 1)) c.apply.result s c.apply.new.self =
    record { history = c.apply.ensures.history; refused = c.apply.ensures.refused; opening = c.apply.ensures.same_opening; world = c.invariant-then-view-version.ensures.world } in
    read_moves s c.apply.new.self ok c.args.node (length c.board_versions.result.now - 1) c.requires.node_in c.apply.result newest
    (read_answer s c.apply.new.self ok c.requires.history c.args.node c.requires.node_in (length c.board_versions.result.now - 1) newest c.apply.result applied)

pub returns-then-view-version-clause-lines : goal.returns-then-view-version-clause-lines
returns-then-view-version-clause-lines c =
    let s : World = c.args.world.now in
    let newest = ap (λ (l : List Board). length l - 1) c.board_versions.ensures in
    let same = sym c.view.ensures ∙ c.if-view-version.true in
    read_adds_nothing s c.apply.new.self c.invariant.ensures.world c.requires.history c.args.node c.requires.node_in (length c.board_versions.result.now - 1) newest
    (names c.args.net.now.graph.now) c.args.net.now.topology.now c.args.line (string_bytes c.args.text.now) same

pub returns-in_ok-play-clause-moves : goal.returns-in_ok-play-clause-moves
returns-in_ok-play-clause-moves c =
    let s : World = c.args.world.now in
    let ok = c.invariant.ensures.world in
    let newest = ap (λ (l : List Board). length l - 1) c.board_versions.ensures in
    let p = c.in_ok-play.ensures in
    read_moves s c.play.new.world ok c.args.node (length c.board_versions.result.now - 1) c.requires.node_in p.reply newest
    (read_answer s c.play.new.world ok c.requires.history c.args.node c.requires.node_in (length c.board_versions.result.now - 1) newest p.reply p.applied)

pub returns-in_ok-play-clause-view : goal.returns-in_ok-play-clause-view
returns-in_ok-play-clause-view c =
    let s : World = c.args.world.now in
    let ok = c.invariant.ensures.world in
    let newest = ap (λ (l : List Board). length l - 1) c.board_versions.ensures in
    let p = c.in_ok-play.ensures in
    read_view s c.play.new.world ok c.args.node (length c.board_versions.result.now - 1) c.requires.node_in p.reply newest
    (read_answer s c.play.new.world ok c.requires.history c.args.node c.requires.node_in (length c.board_versions.result.now - 1) newest p.reply p.applied)

pub returns-in_ok-play-clause-lines : goal.returns-in_ok-play-clause-lines
returns-in_ok-play-clause-lines c =
    let s : World = c.args.world.now in
    let newest = ap (λ (l : List Board). length l - 1) c.board_versions.ensures in
    read_adds s c.play.new.world c.invariant.ensures.world c.requires.history c.args.node c.requires.node_in (length c.board_versions.result.now - 1) newest
    (names c.args.net.now.graph.now) c.args.net.now.topology.now c.args.line _ (string_bytes c.args.text.now) (string_bytes c.play.new.text) (λ e. c.if-view-version.false (c.view.ensures ∙ e)) c.in_ok-play.ensures

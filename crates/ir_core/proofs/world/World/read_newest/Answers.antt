use Rattle.std.proofs.Common.{ap, length, List, ◌-◌}
use Rattle.ir_core.specs.declared.board.Board.{Board}
use Rattle.ir_core.proofs.Quiets.{read_moves, read_view}
use Rattle.ir_core.proofs.world.World.read_newest.Goals as goal

pub returns-clause-moves : goal.returns-clause-moves
returns-clause-moves c =
    read_moves c.args.self.now c.read.new.self c.invariant.ensures.world c.args.node (length c.board_versions.result.now - 1) c.requires c.read.result
    (ap (λ (l : List Board). length l - 1) c.board_versions.ensures) c.read.ensures

pub returns-clause-view : goal.returns-clause-view
returns-clause-view c =
    read_view c.args.self.now c.read.new.self c.invariant.ensures.world c.args.node (length c.board_versions.result.now - 1) c.requires c.read.result
    (ap (λ (l : List Board). length l - 1) c.board_versions.ensures) c.read.ensures

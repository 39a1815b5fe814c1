use Rattle.std.proofs.Common.{◌≡◌}
use Rattle.ir_epochs.specs.declared.handles.BoardReader.{BoardReader}
use Rattle.ir_epochs.specs.Handles.{reader_board, writer_board}
use Rattle.ir_control.proofs.OfNet.{all_last}
use Rattle.memory_tests.proofs.epochs.with_reader.Goals as goal

pub returns-in-Some-clause-board : goal.returns-in-Some-clause-board
returns-in-Some-clause-board g c =
    all_last (λ (x : BoardReader). reader_board x ≡ writer_board c.args.board.0) c.pop.new.self.items c.args.board.1.items c.in-Some.reader c.in-Some.ensures.items c.requires

use Rattle.ir_epochs.proofs.handles.BoardReader.read.Goals as goal

pub returns-clause-board : goal.returns-clause-board
returns-clause-board c = c.board.ensures.board

pub returns-clause-version : goal.returns-clause-version
returns-clause-version c = c.board.ensures.version

pub returns-clause-live : goal.returns-clause-live
returns-clause-live c = c.board.ensures.live

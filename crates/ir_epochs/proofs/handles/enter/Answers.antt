use Rattle.std.proofs.Common.{refl, le_refl}
use Rattle.ir_epochs.specs.Entries.{board_of}
use Rattle.ir_epochs.proofs.Fronts.{prefix_self}
use Rattle.ir_epochs.proofs.Steps.{enters}
use Rattle.ir_epochs.proofs.handles.enter.Goals as goal

pub enter_as-requires : goal.enter_as-requires
enter_as-requires c = enters _ _

pub returns-in-Err-clause-later : goal.returns-in-Err-clause-later
returns-in-Err-clause-later c = prefix_self c.args.newest.now.front.log

pub returns-in-Err-clause-rises : goal.returns-in-Err-clause-rises
returns-in-Err-clause-rises c = let board = board_of c.args.newest.now.front.log in (le_refl board.floor, le_refl board.current)

pub returns-in-Err-clause-opening : goal.returns-in-Err-clause-opening
returns-in-Err-clause-opening c = record { links = refl; registry = refl; topology = refl }

-- The numbers of the errors.
use Rattle.std.specs.Prelude.{ℕ}
use Rattle.ir_epochs.specs.declared.error.RegisterError.{RegisterError}
use Rattle.ir_epochs.specs.declared.error.RegisterError.TheVariants as register
use Rattle.ir_epochs.specs.declared.error.BoardError.{BoardError}
use Rattle.ir_epochs.specs.declared.error.BoardError.TheVariants as board

abbrev pub register_code : RegisterError → ℕ
register_code register.Used = 1
register_code register.NoMemory = 2

abbrev pub board_code : BoardError → ℕ
board_code board.TooManyReaders = 1
board_code board.NoMemory = 2

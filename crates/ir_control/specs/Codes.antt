-- The numbers of a live run's errors.
use Rattle.std.specs.Prelude.{ℕ}
use Rattle.ir_control.specs.declared.live.LiveError.{LiveError}
use Rattle.ir_control.specs.declared.live.LiveError.TheVariants.{Spent, NoThread, NoMemory, TooManyReaders}

abbrev pub live_code : LiveError → ℕ
live_code Spent = 1
live_code NoThread = 2
live_code NoMemory = 3
live_code TooManyReaders = 4

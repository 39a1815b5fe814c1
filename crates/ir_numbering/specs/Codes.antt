-- The numbers of the refusals.
use Rattle.std.specs.Prelude.{ℕ}
use Rattle.ir_numbering.specs.declared.error.NumberError.{NumberError}
use Rattle.ir_numbering.specs.declared.error.NumberError.TheVariants.{NoNode, Disconnected, NoMemory}

abbrev pub number_code : NumberError → ℕ
number_code NoNode = 1
number_code Disconnected = 2
number_code NoMemory = 3

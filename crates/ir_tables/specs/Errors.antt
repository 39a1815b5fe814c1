-- The numbers of the errors.
use Rattle.std.specs.Prelude.{ℕ}
use Rattle.ir_tables.specs.declared.table.TableError.{TableError}
use Rattle.ir_tables.specs.declared.table.TableError.TheVariants.{Empty, Disconnected, NoMemory}

abbrev pub table_code : TableError → ℕ
table_code Empty = 1
table_code Disconnected = 2
table_code NoMemory = 3

-- The numbers of the refusals.
use Rattle.std.specs.Prelude.{ℕ}
use Rattle.ir_compile.specs.declared.error.CompileError.{CompileError}
use Rattle.ir_compile.specs.declared.error.CompileError.TheVariants.{BadRow, NoMemory}

abbrev pub compile_code : CompileError → ℕ
compile_code BadRow = 1
compile_code NoMemory = 2

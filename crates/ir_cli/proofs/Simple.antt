-- The command line is one whose matches and refusals the parser's clauses give.
use Rattle.std.proofs.Common.{◌≡◌, true, refl}
use Rattle.clap.specs.Words.{is_simple, is_simple_and_free}
use Rattle.ir_cli.specs.declared.help.Called.{Called}
use Rattle.ir_cli.specs.declared.options.Choices.{Choices}
use Rattle.ir_cli.specs.CommandLine.{program}

pub program_is_simple : (choices : Choices) (called : Called) → is_simple (program choices called) ≡ true
program_is_simple choices called = refl

pub program_is_free : (choices : Choices) (called : Called) → is_simple_and_free (program choices called) ≡ true
program_is_free choices called = refl

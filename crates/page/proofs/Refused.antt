-- Why words are refused, in fewer words.
use Rattle.std.proofs.Common.{Result, Ok, Err, IfErr}
use Rattle.ir_cli.specs.declared.words.Words.{Words}
use Rattle.ir_cli.specs.declared.words.WordsError.{WordsError}
use Rattle.ir_cli.specs.declared.words.WordsError.TheVariants as errors
use Rattle.ir_cli.specs.Refusals.{FailsOn}

-- what a mistake leads to, and what words that ask for help lead to
pub refused_so : {A B C : Type 0} (result : Result Words WordsError) → (A → C) → (B → C) → IfErr result (FailsOn A B) → IfErr result (FailsOn C C)
refused_so (Ok words) mistake asked is = is
refused_so (Err (errors.Usage text)) mistake asked is = mistake is
refused_so (Err (errors.Help text)) mistake asked is = asked is
refused_so (Err errors.NoMemory) mistake asked is = is

-- When words are refused, and when help is asked for. Want of memory aside, nothing else gives no words to follow.
use Rattle.std.specs.Prelude.{◌≡◌, ◌≢◌, ◌⊎◌, List, [], Option}
use Rattle.clap.specs.Words.{IsAmong, Row, Text}
use Rattle.clap.specs.declared.error.kind.ErrorKind.{ErrorKind}
use Rattle.clap.specs.declared.error.kind.ErrorKind.TheVariants.{DisplayHelp, DisplayVersion}
use Rattle.ir_cli.specs.declared.help.Called.{Called}
use Rattle.ir_cli.specs.declared.help.Called.TheVariants.{Route}
use Rattle.ir_cli.specs.declared.options.Choices.{Choices}
use Rattle.ir_cli.specs.declared.words.Words.{Words}
use Rattle.ir_cli.specs.declared.words.WordsError.{WordsError}
use Rattle.ir_cli.specs.declared.words.WordsError.TheVariants as refused
use Rattle.ir_cli.specs.CommandLine.{AreTheirWords}
use Rattle.ir_cli.specs.Meaning.{MeansMet, faults, met}
use Rattle.ir_cli.specs.Words.{AreTaken, FitsItsKind}

-- what holds of an error that reports a mistake, and of one that says what was asked for
abbrev pub FailsOn : (mistake asked : Type 0) → WordsError → Type 0
FailsOn mistake asked (refused.Usage text) = mistake
FailsOn mistake asked (refused.Help text) = asked
FailsOn mistake asked refused.NoMemory = Unit {0}

-- Nothing is asked for that is taken: no words that the subcommand, with its options, flags and files, may mean keep its rules.
abbrev pub NoneAsked : Option (Text × List Row) → Type 0
NoneAsked subcommand = (words : Words) → MeansMet subcommand words → AreTaken words → FitsItsKind words → ⊥

-- what the parser finds is a mistake, and no call for help or the version
abbrev pub IsMistake : ErrorKind → Type 0
IsMistake kind = (kind ≢ DisplayHelp) × (kind ≢ DisplayVersion)

module _ (called : Called) where
  -- The words after the program's name are refused: the parser finds a mistake in them, or it finds nothing wrong, and nothing
  -- is asked for that is taken.
  abbrev pub RefusesAs : List Text → Type 0
  RefusesAs typed = (choices : Choices) × AreTheirWords choices
      × (((kind : ErrorKind) × IsAmong kind (faults called choices typed) × IsMistake kind)
      ⊎ ((faults called choices typed ≡ []) × NoneAsked (met called choices typed)))

  -- the words after the program's name ask for help or for the version
  abbrev pub AsksForHelpAs : List Text → Type 0
  AsksForHelpAs typed = (choices : Choices) × AreTheirWords choices
      × (IsAmong DisplayHelp (faults called choices typed) ⊎ IsAmong DisplayVersion (faults called choices typed))

-- the same where the program is called `route`
abbrev pub RefusesWords : List Text → Type 0
RefusesWords typed = RefusesAs Route typed

abbrev pub AsksForHelp : List Text → Type 0
AsksForHelp typed = AsksForHelpAs Route typed

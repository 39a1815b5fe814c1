-- What the words after the program's name ask for.
use Rattle.std.specs.Prelude.{◌≡◌, Bool, List, String, map, string_bytes}
use Rattle.std.specs.Global.{Global}
use Rattle.ir_cli.specs.declared.help.Called.{Called}
use Rattle.ir_cli.specs.declared.words.Words.{Words}
use Rattle.ir_cli.specs.Meaning.{AsksAs}
use Rattle.route.specs.Sentences.{are_wanted}

-- the words, with sentences or without
abbrev pub with_sentences : Words → Bool → Words
with_sentences words wanted = record words { explain = wanted }

-- The words are those that were read of what follows the program's name. Whether sentences are wanted also depends on
-- whether standard error is held for a terminal.
abbrev pub IsAskedBy : Called → List (String Global) → Words → Type 0
IsAskedBy called given words =
    (read : Words) × (is_terminal : Bool) × AsksAs called (map string_bytes given) read
    × (words ≡ with_sentences read (are_wanted read.explain is_terminal given))

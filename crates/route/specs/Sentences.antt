-- When sentences for people follow the lines of faults.
use Rattle.std.specs.Prelude.{ℕ, Bool, not, List, ◌||◌, ◌&&◌, String, bytes_eq, codes, string_bytes, take_while}
use Rattle.std.specs.Global.{Global}
use Rattle.std.specs.List.{list_any}

-- a word of the command line is this one
abbrev pub is_this_word : List ℕ → String Global → Bool
is_this_word option word = bytes_eq (string_bytes word) option

-- an option is among the words: before a word `--`, after which all are files
abbrev pub is_given : List ℕ → List (String Global) → Bool
is_given option words = list_any (is_this_word option) (take_while (λ word. not (is_this_word (codes "--") word)) words)

-- sentences are asked for, or standard error is a terminal and no word forbids them
abbrev pub are_wanted : Bool → Bool → List (String Global) → Bool
are_wanted are_asked is_terminal words = are_asked || is_terminal && not (is_given (codes "--no-explain") words)

-- What the words of a packed row say.
use Rattle.std.specs.Prelude.{ℕ, ◌/◌, ◌%◌, List, map}
use Rattle.ir_lookup.specs.declared.TheConstants.{WORD_BASE}
use Rattle.ir_model.specs.Row.{Start}

-- a word is the label of a start times WORD_BASE, and its port
abbrev pub start_of : ℕ → Start
start_of word = record { label = word / WORD_BASE; port = word % WORD_BASE }

abbrev pub starts_of : List ℕ → List Start
starts_of words = map start_of words

-- What an error says of a text.
use Rattle.std.specs.Prelude.{◌≡◌, ℕ, Option, Some}
use Rattle.ir_model.specs.declared.Fault.{Fault}
use Rattle.ir_model.specs.declared.Fault.TheVariants.{BadByte, BadName, BadRow, BadWeight, TooManyNodes, TooManyEdges, NoMemory}
use Rattle.ir_adjlist.specs.declared.TextError.{TextError}

abbrev pub TellsAt : ℕ → Fault → Option (ℕ × Fault) → Type 0
TellsAt line NoMemory first = line ≡ 0
TellsAt line kind first = first ≡ Some (line, kind)

-- The error is the first fault of the text, with its line. Want of memory has line 0
abbrev pub Tells : TextError → Option (ℕ × Fault) → Type 0
Tells e first = TellsAt e.line e.kind first

-- the error for a fault in a line
abbrev pub told_at : ℕ → Fault → TextError
told_at line NoMemory = record { line = 0; kind = NoMemory }
told_at line kind = record { line = line; kind = kind }

-- the number of a kind
abbrev pub text_code : Fault → ℕ
text_code BadByte = 1
text_code BadName = 2
text_code BadRow = 3
text_code BadWeight = 4
text_code TooManyNodes = 5
text_code TooManyEdges = 6
text_code NoMemory = 7

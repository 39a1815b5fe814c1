-- What the inputs come to: a text and the lines of what was refused on the way, or the line of a finding. Or it is the
-- line that says why an input is refused, or that a thread was not started.
use Rattle.std.specs.Prelude.{ℕ, List, Option, Some, None}

pub data Answer : Type 0 where
  Ran : List ℕ → List ℕ → Answer
  Found : List ℕ → Answer
  Refused : List ℕ → Answer
  NoThread : Answer

-- what is printed
abbrev pub printed : Answer → Option (List ℕ)
printed (Ran text refused) = Some text
printed (Found line) = Some line
printed (Refused line) = None
printed NoThread = None

-- The lines of a text by their numbers.
use Rattle.std.specs.Prelude.{ℕ, zero, suc, List, [], slice_index_or}
use Rattle.ir_model.specs.Text.{lines}

-- the line with this number, counted from 1; nothing where there is none
abbrev pub line_numbered : List ℕ → ℕ → List ℕ
line_numbered text zero = []
line_numbered text (suc n) = slice_index_or (lines text) n []

-- How a kept board is seen.
use Rattle.std.specs.Prelude.{◌≤◌, length}
use Rattle.ir_core.specs.declared.board.Board.{Board}
use Rattle.ir_core.specs.declared.board.KeptBoard.TheInside.{Inside}
use Rattle.ir_core.specs.declared.marks.TheConstants.{MARK_WORDS}
use Rattle.ir_core.specs.Marks.{marks_in, with_rest_up, EndsDown}

-- the links after its words are up, and heeded
abbrev pub kept_board : Inside → Board
kept_board k = record { version = k.version; current = k.epoch; floor = k.floor; up = marks_in (with_rest_up k.words.items); heeded = marks_in (with_rest_up k.heeded.items) }

-- no word is kept that says nothing
abbrev pub IsKeptBoard : Inside → Type 0
IsKeptBoard k = (length k.words.items ≤ MARK_WORDS) × EndsDown k.words.items × (length k.heeded.items ≤ MARK_WORDS) × EndsDown k.heeded.items

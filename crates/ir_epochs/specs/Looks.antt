-- The word for a look at a board.
use Rattle.std.specs.Prelude.{List}
use Rattle.logbook.specs.Pages.{Book}
use Rattle.ir_epochs.specs.declared.entry.Entry.{Entry}

-- who had this in hand looked at this board, by a reader that knew the first list, and from then on knows the second
abbrev pub Look : Type 0 → Type 1
Look X = X → Book → List Entry → List Entry → Type 0

-- What a clause reads of the board's handles: the list of entries that each knows, and of which board it is.
use Rattle.std.specs.Prelude.{List}
use Rattle.logbook.specs.Pages.{Book}
use Rattle.ir_epochs.specs.declared.entry.Entry.{Entry}
use Rattle.ir_epochs.specs.declared.handles.BoardWriter.{BoardWriter}
use Rattle.ir_epochs.specs.declared.handles.BoardReader.{BoardReader}
use Rattle.ir_epochs.specs.declared.handles.Receipt.{Receipt}

module _ {R : Type 0} where
  -- all entries that were published
  abbrev pub published : BoardWriter R → List Entry
  published w = w.writer.desk.shown.value.front.log

  -- which board it is
  abbrev pub writer_board : BoardWriter R → Book
  writer_board w = w.writer.desk.shown.value.front.book

-- the entries of the newest board that was read or learnt
abbrev pub known : BoardReader → List Entry
known r = r.newest.front.log

abbrev pub reader_board : BoardReader → Book
reader_board r = r.newest.front.book

-- the entries up to the receipt's change, which is the last
abbrev pub told : Receipt → List Entry
told t = t.published.front.log

abbrev pub receipt_board : Receipt → Book
receipt_board t = t.published.front.book

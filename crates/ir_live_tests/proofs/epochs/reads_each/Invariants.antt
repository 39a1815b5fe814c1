use Rattle.std.specs.Prelude.{◌≡◌}
use Rattle.ir_epochs.specs.Entries.{opening_links}
use Rattle.ir_epochs.specs.Handles.{published, reader_board, writer_board}
use Rattle.ir_live_tests.proofs.epochs.reads_each.Given as goal

abbrev pub invariant-loop-k : goal.invariant-loop-k
invariant-loop-k g l = (opening_links (published l.writer) ≡ 2) × (reader_board l.told ≡ writer_board l.writer)

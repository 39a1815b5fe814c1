use Rattle.std.proofs.Common.{◌≡◌, ◌≤◌, length, All, vec_capacity}
use Rattle.ir_epochs.specs.Handles.{published, known, writer_board, reader_board}
use Rattle.ir_epochs.proofs.opening.seats.Given as goal

abbrev pub invariant-loop : goal.invariant-loop
invariant-loop g l = (published l.writer ≡ published l.fn.writer) × (writer_board l.writer ≡ writer_board l.fn.writer) × (length l.seats.items ≡ l.counter) × (l.fn.readers ≤ vec_capacity l.seats)
    × All (λ x. (known x ≡ published l.fn.writer) × (reader_board x ≡ writer_board l.fn.writer)) l.seats.items

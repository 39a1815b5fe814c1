use Rattle.std.proofs.Common.{◌+◌, ◌≤◌}
use Rattle.std.specs.Prelude.{slice_index}
use Rattle.ir_bounds.proofs.Marks.{AreMarkedSo}
use Rattle.ir_bounds.proofs.rows.marks_within.Given as goal

abbrev pub invariant-loop-label : goal.invariant-loop-label
invariant-loop-label l =
    AreMarkedSo (λ d. l.weight + slice_index l.theirs (slice_index l.numbering.order d) ≤ slice_index l.own (slice_index l.numbering.order d)) l.label l.row.items l.marked.items

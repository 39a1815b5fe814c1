use Rattle.std.proofs.Common.{◌≡◌, ◌<◌}
use Rattle.ir_figures.specs.Arcs.{marks_of}
use Rattle.ir_figures.specs.Parts.{StandsAt, AreMarkedToo}
use Rattle.ir_figures.proofs.parts.mark_row.Given as goal

abbrev pub invariant-loop-k : goal.invariant-loop-k
invariant-loop-k l = AreMarkedToo (StandsAt l.begins l.inner (marks_of l.marks) l.numbers) (λ x y. (x ≡ l.a) × (y < l.k)) (marks_of l.fn.rows.items) (marks_of l.rows.items)

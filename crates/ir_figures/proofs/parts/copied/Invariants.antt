use Rattle.std.proofs.Common.{◌≡◌, take}
use Rattle.ir_figures.specs.Arcs.{marks_of}
use Rattle.ir_figures.proofs.parts.copied.Given as goal

abbrev pub invariant-loop-row : goal.invariant-loop-row
invariant-loop-row l = marks_of l.copy.items ≡ marks_of (take l.row-index l.rows)

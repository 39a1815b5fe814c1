use Rattle.std.proofs.Common.{◌+◌}
use Rattle.ir_figures.specs.Arcs.{marks_of}
use Rattle.ir_figures.specs.Exits.{exits_before, AreLinks, WaitsSoFar}
use Rattle.ir_figures.proofs.waits.push_links.Given as goal

abbrev pub invariant-loop-p : goal.invariant-loop-p
invariant-loop-p l = AreLinks l.plan.topology (WaitsSoFar l.plan 0 0) l.links.begins.items (marks_of l.links.marks.items) (exits_before l.plan.topology l.u + l.p)

use Rattle.ir_model.specs.Topology.{node_count}
use Rattle.ir_figures.specs.Arcs.{marks_of}
use Rattle.ir_figures.specs.Exits.{exits_before, AreLinks, WaitsSoFar}
use Rattle.ir_figures.proofs.waits.mark_column.Given as goal

abbrev pub invariant-loop-u : goal.invariant-loop-u
invariant-loop-u l = AreLinks l.plan.topology (WaitsSoFar l.plan l.a l.u) l.links.begins.items (marks_of l.links.marks.items) (exits_before l.plan.topology (node_count l.plan.topology))

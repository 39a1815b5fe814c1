use Rattle.std.proofs.Common.{◌≡◌, length}
use Rattle.ir_model.specs.Topology.{node_count}
use Rattle.ir_figures.specs.Arcs.{marks_of}
use Rattle.ir_figures.specs.Exits.{exits_before, AreLinks, ArePlacesAt, WaitsSoFar}
use Rattle.ir_figures.proofs.waits.links_of.Given as goal

abbrev pub invariant-loop-a : goal.invariant-loop-a
invariant-loop-a l = record {
  links : AreLinks l.plan.topology (WaitsSoFar l.plan l.a 0) l.links.begins.items (marks_of l.links.marks.items) (exits_before l.plan.topology (node_count l.plan.topology));
  places : ArePlacesAt l.plan l.a l.places.items;
  column : length l.column.items ≡ node_count l.plan.topology;
}

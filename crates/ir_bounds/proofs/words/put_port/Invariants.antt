use Rattle.std.proofs.Common.{◌↔◌}
use Rattle.std.specs.Prelude.{slice_index}
use Rattle.ir_model.specs.Topology.{node_count}
use Rattle.ir_model.specs.Landmark.{IsLandmarkBound}
use Rattle.ir_compile.specs.PortBits.{HasPortBit}
use Rattle.ir_bounds.specs.Near.{entry_node}
use Rattle.ir_bounds.specs.Words.{LeadsBy, AreSettled, HaveOthers}
use Rattle.ir_bounds.proofs.words.put_port.Given as goal

abbrev pub invariant-loop-j : goal.invariant-loop-j
invariant-loop-j l = record {
  others : HaveOthers (node_count l.topology) l.p l.fn.words l.words;
  settled : AreSettled (node_count l.topology) l.numbering.order (entry_node l.list l.begin) (slice_index l.list l.begin) l.j
      (λ a word. HasPortBit word l.p ↔ LeadsBy l.topology (IsLandmarkBound l.topology l.held.owners.landmarks.items l.held.stretch) (IsLandmarkBound l.topology l.held.owners.landmarks.items l.held.stretch) l.u (slice_index l.numbering.order a) l.p) l.words;
}

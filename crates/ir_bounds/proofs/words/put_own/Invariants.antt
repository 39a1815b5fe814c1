use Rattle.std.specs.Prelude.{slice_index}
use Rattle.ir_model.specs.Topology.{node_count}
use Rattle.ir_model.specs.Landmark.{IsLandmarkBound}
use Rattle.ir_bounds.specs.Near.{IsWayRound, entry_node}
use Rattle.ir_bounds.specs.Words.{IsLedWord, AreSettled}
use Rattle.ir_bounds.proofs.words.put_own.Given as goal

abbrev pub invariant-loop-j : goal.invariant-loop-j
invariant-loop-j l =
    AreSettled (node_count l.topology) l.numbering.order (entry_node l.list l.begin) (slice_index l.list l.begin) l.j
    (λ a word. IsLedWord l.topology (IsWayRound l.topology l.held.owners.landmarks.items) (IsLandmarkBound l.topology l.held.owners.landmarks.items l.held.stretch) l.u (slice_index l.numbering.order a) word) l.words

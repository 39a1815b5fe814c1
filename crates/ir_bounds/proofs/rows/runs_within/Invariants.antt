use Rattle.std.specs.Prelude.{slice_index}
use Rattle.ir_model.specs.Topology.{node_count}
use Rattle.ir_model.specs.Landmark.{IsLandmarkBound}
use Rattle.ir_bounds.specs.Rows.{MayTakePort}
use Rattle.ir_bounds.proofs.Runs.{AreBestRuns}
use Rattle.ir_bounds.proofs.rows.runs_within.Given as goal

abbrev pub invariant-loop-p : goal.invariant-loop-p
invariant-loop-p l =
    AreBestRuns (node_count l.topology) (slice_index l.numbering.labels l.u) (MayTakePort l.topology (IsLandmarkBound l.topology l.held.owners.landmarks.items l.held.stretch) l.numbering.order (slice_index l.numbering.labels l.u)) l.p l.counts.items l.ports.items

use Rattle.std.proofs.Common.{◌≡◌, ◌≤◌, ◌-◌, ◌*◌, string_bytes}
use Rattle.ir_model.specs.Graph.{names}
use Rattle.ir_model.specs.Plan.{Plan}
use Rattle.ir_show.specs.Plans.{IsPlanOver}
use Rattle.ir_show.proofs.Spans.{AreSoFar}
use Rattle.ir_show.proofs.span.lines_alone.Given as goal

abbrev pub invariant-loop-u : goal.invariant-loop-u
invariant-loop-u l = record {
  so : (plan : Plan) → IsPlanOver l.topology l.kind l.numbering plan → AreSoFar (names l.graph) plan l.fn.span.0 l.u (string_bytes l.text) l.starts;
  few : l.starts ≤ (l.u - l.fn.span.0) * 32768;
}

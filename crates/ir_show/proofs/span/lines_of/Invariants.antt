use Rattle.std.proofs.Common.{◌≡◌, ◌≤◌, ◌-◌, ◌*◌, string_bytes}
use Rattle.ir_model.specs.Graph.{names}
use Rattle.ir_show.proofs.Spans.{AreSoFar}
use Rattle.ir_show.proofs.span.lines_of.Given as goal

abbrev pub invariant-loop-u : goal.invariant-loop-u
invariant-loop-u l = record {
  so : AreSoFar (names l.graph) l.plan l.first l.u (string_bytes l.text) l.starts;
  few : l.starts ≤ (l.u - l.first) * 32768;
}

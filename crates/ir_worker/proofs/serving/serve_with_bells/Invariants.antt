use Rattle.std.specs.Prelude.{◌≡◌, List, length}
use Rattle.ir_worker.specs.declared.node.Turn.{Turn}
use Rattle.ir_worker.specs.Turns.{AreTurns}
use Rattle.ir_worker.specs.Same.{IsSameNode}
use Rattle.ir_worker.proofs.serving.serve_with_bells.Given as goal

abbrev pub invariant-loop : goal.invariant-loop
invariant-loop g l = record {
  turns : (turns : List Turn) × AreTurns g.R.Moments.was_full g.R.Moments.was_empty g.R.Looks.looked l.fn.node turns l.node × (length turns ≡ l.number);
  same : IsSameNode l.fn.node l.node;
}

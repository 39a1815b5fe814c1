use Rattle.std.specs.Prelude.{◌≡◌, ℕ, ◌<◌, slice_index_or}
use mathlib.Core.List.{IsPrefix}
use Rattle.ir_epochs.specs.Handles.{known, published, writer_board}
use Rattle.ir_worker.specs.declared.node.Node.{Node}
use Rattle.ir_control.proofs.running.lead_all.Given as goal

abbrev pub invariant-loop-k : goal.invariant-loop-k
invariant-loop-k g l = (published l.controller.writer ≡ published l.fn.controller.writer)
    × (writer_board l.controller.writer ≡ writer_board l.fn.controller.writer)
    × ((j : ℕ) (d : Node) → j < l.k → IsPrefix (known (slice_index_or l.nodes.items j d).reader) (published l.fn.controller.writer))

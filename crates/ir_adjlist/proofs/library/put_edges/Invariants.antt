use Rattle.std.proofs.Common.{◌≡◌, ◌++◌, take}
use Rattle.ir_model.specs.Graph.{neighbors}
use Rattle.ir_adjlist.specs.Writing.{node_edges}
use Rattle.ir_adjlist.proofs.library.put_edges.Given as goal

abbrev pub invariant-loop-place : goal.invariant-loop-place
invariant-loop-place l = l.text.items ≡ l.fn.text.items ++ node_edges l.graph l.count l.source (take l.place (neighbors l.graph l.source))

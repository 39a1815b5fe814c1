use Rattle.std.proofs.Common.{sym, subst, map, string_bytes}
use Rattle.ir_graph.specs.View.{row_view}
use Rattle.ir_graph.specs.Kept.{IsKept}
use Rattle.ir_graph.proofs.Removing.{kept-empty}
use Rattle.ir_graph.proofs.Graph.new.Goals as goal

pub invariant_of-result : goal.invariant_of-result
invariant_of-result c = subst (λ es. IsKept (map (λ e. (string_bytes e.0, row_view e.1)) es) 0) (sym c.new.ensures.empty) kept-empty

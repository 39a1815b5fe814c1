use Rattle.std.proofs.Common.{sym, subst}
use Rattle.ir_model.specs.Topology.{Topology, node_count}
use Rattle.ir_trace.specs.Checked.{AreRowsOver}
use Rattle.ir_tests.proofs.checks.is_clean.Goals as goal

pub check_trace-found-requires-clause-rows : goal.check_trace-found-requires-clause-rows
check_trace-found-requires-clause-rows c =
    subst (λ (n : Topology). AreRowsOver (node_count n) c.in-Ok.trace) (sym c.requires.over) c.in-Ok.ensures.within

pub check_trace_by-requires-clause-rows : goal.check_trace_by-requires-clause-rows
check_trace_by-requires-clause-rows c κs =
    subst (λ (n : Topology). AreRowsOver (node_count n) c.in-Ok.trace) (sym c.requires.over) c.in-Ok.ensures.within

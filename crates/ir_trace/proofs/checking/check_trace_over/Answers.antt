use Rattle.std.proofs.Common.{sym, subst}
use Rattle.ir_model.specs.Topology.{node_count}
use Rattle.ir_trace.specs.Checked.{AreRowsOver}
use Rattle.ir_trace.proofs.checking.check_trace_over.Goals as goal

pub check_rows-requires-clause-rows : goal.check_rows-requires-clause-rows
check_rows-requires-clause-rows c = subst (AreRowsOver (node_count c.args.topology.now)) (sym c.all.ensures) c.requires.rows

pub returns : goal.returns
returns c = record { fine = rw c.all.ensures at c.check_rows.ensures.fine; finding = rw c.all.ensures at c.check_rows.ensures.finding }

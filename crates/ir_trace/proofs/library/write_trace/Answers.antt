use Rattle.std.proofs.Common.{sym, subst}
use Rattle.ir_model.specs.Topology.{Topology}
use Rattle.ir_trace.specs.Written.{AreWritable}
use Rattle.ir_trace.proofs.library.write_trace.Goals as goal

pub trace_text-requires-clause-records : goal.trace_text-requires-clause-records
trace_text-requires-clause-records g c =
    let P : Topology → Type 0 = λ net. AreWritable net c.args.records.now in
    subst P (sym c.in_ok-topology.ensures) c.requires.records

use Rattle.std.proofs.Common.{sym, subst}
use Rattle.ir_model.specs.Topology.{Topology}
use Rattle.ir_trace.specs.Written.{HaveSegments}
use Rattle.ir_trace.proofs.library.write_trace_2.Goals as goal

pub trace_text_2-requires-clause-records : goal.trace_text_2-requires-clause-records
trace_text_2-requires-clause-records g c =
    let P : Topology → Type 0 = λ net. HaveSegments net c.args.records.now in
    subst P (sym c.in_ok-topology.ensures) c.requires.records

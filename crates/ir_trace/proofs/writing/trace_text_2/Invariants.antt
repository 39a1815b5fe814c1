use Rattle.std.proofs.Common.{◌≡◌, take, string_bytes}
use Rattle.ir_model.specs.Graph.{names}
use Rattle.ir_trace.specs.Written.{segments_text}
use Rattle.ir_trace.proofs.writing.trace_text_2.Given as goal

abbrev pub invariant-loop-record : goal.invariant-loop-record
invariant-loop-record l = string_bytes l.text ≡ segments_text (names l.graph) l.topology (take l.record-index l.records)

use Rattle.std.proofs.Common.{◌≡◌, ◌∙◌, ◌++◌, ◌∷◌, [], Some, ap, sym, arith, map, slice_get, take}
use Rattle.std.proofs.lemmas.List.{map-append, take_more}
use Rattle.std.proofs.lemmas.Option.{slice_get-get_or}
use Rattle.ir_model.specs.Graph.{names}
use Rattle.ir_trace.specs.declared.row.Version.TheVariants.{One}
use Rattle.ir_trace.specs.Rows.{row_line, trace_text}
use Rattle.ir_trace.specs.Written.{row_of}
use Rattle.ir_trace.proofs.ReadTexts.{trace_text-push}
use Rattle.ir_trace.proofs.writing.trace_text.Goals as goal

pub push_row-requires-clause-packet : goal.push_row-requires-clause-packet
push_row-requires-clause-packet c =
    let records = c.args.records.now in
    let i = c.loop-record.record-index in
    let at : slice_get records i ≡ Some c.record-item.result = slice_get-get_or records i c.record-item.result (omega arith) ∙ ap Some (sym c.record-item.is) in
    c.requires.records i c.record-item.result at

pub loop-record-preserved : goal.loop-record-preserved
loop-record-preserved c =
    let row = row_of (names c.args.graph.now) c.args.topology.now in
    let record_now = c.record-item.result in
    let before = take c.loop-record.record-index c.args.records.now in
    let more = ap (λ r. before ++ r ∷ []) c.record-item.is ∙ sym (take_more c.args.records.now c.loop-record.record-index record_now (omega arith)) in
    c.in_ok-push_row.ensures ∙ ap (λ t. t ++ row_line One (row record_now)) c.loop-record.invariant
    ∙ sym (trace_text-push One (map row before) (row record_now)) ∙ ap (trace_text One) (sym (map-append row before (record_now ∷ [])) ∙ ap (map row) more)

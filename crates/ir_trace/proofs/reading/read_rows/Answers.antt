use Rattle.std.proofs.Common.{◌∙◌, sym, length, arith}
use Rattle.std.proofs.lemmas.Bool.{eqb-false}
use Rattle.std.proofs.lemmas.Result.{err_from_is_err_and}
use Rattle.ir_trace.proofs.ReadTexts.{read_header, read_line, no_line, line_told}
use Rattle.ir_trace.proofs.reading.read_rows.Goals as goal

pub loop-rest-init : goal.loop-rest-init
loop-rest-init c = rw c.new-rows.ensures.items (read_header c.in-Some.version c.args.graph.now c.args.text.now c.in-Some.rest.now c.in-Some.ensures)

pub returns-in_err-read_row-clause-fault : goal.returns-in_err-read_row-clause-fault
returns-in_err-read_row-clause-fault c = let p = err_from_is_err_and c.from_residual.result c.from_residual.ensures.1 in rw (p.1, p.2)
    (line_told c.in-Some.version c.args.graph.now c.args.text.now c.loop-rest.rows.items c.loop-rest.line c.loop-rest.rest.now c.loop-rest.invariant (omega (arith, eqb-false (length c.loop-rest.rest.now) 0 (sym c.is_empty.ensures ∙ c.loop-rest-test.true))) c.in-Some-cut_line.current.now c.in-Some-cut_line.after.now c.in-Some-cut_line.ensures _ _ c.in_err-read_row.ensures.fault)

pub loop-rest-preserved : goal.loop-rest-preserved
loop-rest-preserved c =
    rw c.in_ok-push.ensures.items (read_line c.in-Some.version c.args.graph.now c.args.text.now c.loop-rest.rows.items c.loop-rest.line c.loop-rest.rest.now c.loop-rest.invariant c.in-Some-cut_line.current.now c.in-Some-cut_line.after.now c.in_ok-read_row.field-0 c.in-Some-cut_line.ensures c.in_ok-read_row.ensures.read)

pub returns-in_default-cut_line-clause-fault : goal.returns-in_default-cut_line-clause-fault
returns-in_default-cut_line-clause-fault c =
    no_line c.in-Some.version c.args.graph.now c.args.text.now c.loop-rest.rows.items c.loop-rest.line c.loop-rest.rest.now c.loop-rest.invariant (omega (arith, eqb-false (length c.loop-rest.rest.now) 0 (sym c.is_empty.ensures ∙ c.loop-rest-test.true))) c.in_default-cut_line.ensures

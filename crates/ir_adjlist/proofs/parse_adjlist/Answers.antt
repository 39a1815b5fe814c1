use Rattle.std.proofs.Common.{◌≡◌, ◌∙◌, sym, ap, subst, [], refl, ◌+◌}
use Rattle.std.proofs.lemmas.Bool.{eqb-true}
use Rattle.std.proofs.lemmas.List.{nil_from_length}
use Rattle.ir_model.specs.Text.{lines, first_fault}
use Rattle.ir_adjlist.specs.Steps.{line_run, text_run}
use Rattle.ir_adjlist.specs.Told.{Tells}
use Rattle.ir_adjlist.proofs.Meaning.{parsed, line_told}
use Rattle.ir_adjlist.proofs.parse_adjlist.Goals as goal

pub returns-in-Err-clause-fault : goal.returns-in-Err-clause-fault
returns-in-Err-clause-fault c =
    subst (λ e. Tells e (first_fault [] (lines c.args.text.now))) (sym c.error_at.ensures)
    (line_told c.args.text.now c.loop-rest.rest.now c.next_line.result.1.now c.next_line.result.0.now c.loop-rest.line (c.loop-rest.line + 1) c.loop-rest.graph c.in-Err.kind c.loop-rest.invariant.same c.next_line.ensures.lines refl c.in-Err.ensures.fault)

pub returns-clause-parsed : goal.returns-clause-parsed
returns-clause-parsed c =
    let empty : c.loop-rest.rest.now ≡ [] = nil_from_length c.loop-rest.rest.now (eqb-true _ _ (sym c.loop-rest-test.ensures)) in
    parsed (lines c.args.text.now) c.loop-rest.graph (c.loop-rest.invariant.same ∙ ap (λ s. text_run line_run c.loop-rest.line c.loop-rest.graph (lines s)) empty)

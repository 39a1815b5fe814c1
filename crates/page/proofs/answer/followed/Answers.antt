use Rattle.std.proofs.Common.{ℕ, List, ◌++◌, map, length, Some, Result, Bor, sym, ap, ◌∙◌, subst, refl}
use Rattle.std.proofs.lemmas.List.{length-map}
use Rattle.std.specs.Global.{Vec}
use Rattle.ir_streams.specs.declared.call.CallError.{CallError}
use Rattle.ir_streams.specs.Reading.{GivesFrom}
use Rattle.ir_cli.specs.declared.read.Source.{Source}
use Rattle.ir_answer.specs.Asked.{sources_of}
use Rattle.page.specs.Calls.{text_for, IsFollowed}
use Rattle.page.proofs.Followed.{followed_so}
use Rattle.page.proofs.answer.followed.Goals as goal

pub follow_by-outcome-requires-clause-inputs : goal.follow_by-outcome-requires-clause-inputs
follow_by-outcome-requires-clause-inputs c κs =
    let texts = c.in_ok-inputs.inputs.items in
    let text : Source → List ℕ = text_for c.args.topology.now c.args.script.now c.args.trace.now in
    let sources = sources_of c.args.words.now in
    let now : Bor (List ℕ) → List ℕ = λ text. text.now in
    ap length c.as_mut_slice-readers.ensures.value ∙ sym (length-map texts now) ∙ ap length c.in_ok-inputs.ensures ∙ length-map sources text

pub returns : goal.returns
returns c =
    let text : Source → List ℕ = text_for c.args.topology.now c.args.script.now c.args.trace.now in
    let now : Bor (List ℕ) → List ℕ = λ text. text.now in
    let faults = c.extend_from_slice.new.self.items in
    let written = c.follow_by-outcome.new.output in
    let told = c.follow_by-outcome.new.faults in
    let ends = followed_so (λ (r : Bor (List ℕ)). Some r.now)
    (λ (old : Bor (List ℕ)) (given : Result (List ℕ) CallError) (new : Bor (List ℕ)). GivesFrom (Some old.now) (Some new.now) given)
    now (λ r. refl)
    c.args.words.now text c.as_mut_slice-readers.result.now c.follow_by-outcome.new.inputs (ap (map now) c.as_mut_slice-readers.ensures.value ∙ c.in_ok-inputs.ensures)
    c.in_ok-written.written written c.in_ok-told.told told c.in_ok-written.ensures.bytes c.in_ok-told.ensures.bytes
    c.in_ok-output.ensures.whole c.in_ok-faults.ensures.whole
    c.status_of.result faults c.as_bytes.result.now
    (c.in_ok-extend_from_slice.ensures.items ∙ ap (λ (vec : Vec ℕ). vec.items ++ c.as_bytes.result.now) c.in_ok-faults.ensures.bytes)
    (λ off. c.as_bytes.ensures.value ∙ c.in_ok-text.ensures off)
    (c.follow_by-outcome.result.ending, c.status_of.ensures, c.follow_by-outcome.ensures.ends) in
    let whole = subst (λ (output : Vec ℕ). IsFollowed c.args.words.now text c.status_of.result output.items faults) (sym c.in_ok-output.ensures.bytes) ends in
    subst (λ (status : ℕ). IsFollowed c.args.words.now text status c.in_ok-output.output.items faults) (sym c.into.ensures) whole

use Rattle.std.proofs.Common.{Ok, Err, ◌≡◌, ◌∙◌, ◌++◌, ◌∷◌, [], ℕ, List, ap, subst, string_bytes, flat_map, decimal}
use Rattle.std.specs.Prelude.{OnOk, if◌then◌else◌}
use Rattle.std.specs.Result.{is_ok}
use Rattle.std.specs.declared.result.Result.{Result}
use Rattle.ir_diff.specs.declared.changes.Lead.{Lead}
use Rattle.ir_model.specs.Graph.{names}
use Rattle.ir_trace.specs.Rows.{spaced}
use Rattle.ir_show.specs.Words.{line_text}
use Rattle.ir_patches.specs.DiffText.{change_words, step_words}
use Rattle.ir_patches.specs.Sides.{changes_held}
use Rattle.ir_patches.proofs.Steps.{change_line_of, regroup}
use Rattle.ir_patches.proofs.lines.push_line.Goals as goal

-- what a call leaves where it goes well
when_ok : {A E : Type 0} (r : Result A E) (new a b : List ℕ) → new ≡ (if is_ok r then a else b) → OnOk r (new ≡ a)
when_ok (Ok v) new a b is = is
when_ok (Err e) new a b is = tt

pub returns : goal.returns
returns c =
    let nodes = names c.args.graph.now in
    let old = string_bytes c.args.text.now in
    let name = c.args.name.now in
    let was = spaced (decimal c.args.change.now.was) in
    let label = spaced (decimal c.args.change.now.label) in
    let steps : List ℕ → List Lead → List ℕ = λ removed put. flat_map spaced (step_words nodes removed put) in
    let removed = c.args.change.now.row.removed.items in
    let put = c.args.change.now.row.put.items in
    let whole : string_bytes c.push_steps.new.text ++ 10 ∷ [] ≡ old ++ line_text (change_words nodes name (changes_held c.args.change.now)) =
    ap (λ (t : List ℕ). t ++ 10 ∷ [])
    (c.in_ok-push_steps.ensures
    ∙ ap (λ (r : List ℕ). string_bytes c.push_next_number-2.new.text ++ steps r c.as_slice-2.result.now) c.as_slice.ensures.value
    ∙ ap (λ (q : List Lead). string_bytes c.push_next_number-2.new.text ++ steps removed q) c.as_slice-2.ensures.value
    ∙ ap (λ (t : List ℕ). t ++ steps removed put)
    (c.in_ok-push_next_number-2.ensures ∙ ap (λ (t : List ℕ). t ++ label) (c.in_ok-push_next_number.ensures ∙ ap (λ (t : List ℕ). t ++ was) c.in_ok-push_str.ensures.bytes)))
    ∙ regroup old name was label (steps removed put) (10 ∷ [])
    ∙ ap (λ (t : List ℕ). old ++ t) (change_line_of name (decimal c.args.change.now.was) (decimal c.args.change.now.label) (step_words nodes removed put)) in
    subst (λ (t : List ℕ). OnOk c.push_str-2.result (string_bytes c.push_str-2.new.self ≡ t)) whole (when_ok c.push_str-2.result _ _ _ c.push_str-2.ensures.bytes)

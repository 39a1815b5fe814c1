use Rattle.std.proofs.Common.{◌++◌, ◌∷◌, ◌∙◌, [], ℕ, List, Option, None, map, take, get_or, ap, sym, append_assoc}
use Rattle.std.specs.Prelude.{slice_index_or}
use Rattle.std.proofs.lemmas.List.{map_push, take_more}
use Rattle.ir_numbering.proofs.tree.push_by_node.Goals as goal

pub bounds-labels-label-index : goal.bounds-labels-label-index
bounds-labels-label-index c = c.loop-label-test.true

pub bounds-row-label : goal.bounds-row-label
bounds-row-label c = c.requires c.loop-label.label-index 0 c.loop-label-test.true

pub loop-label-preserved : goal.loop-label-preserved
loop-label-preserved c =
    let old : List (Option ℕ) = c.args.ports.now.items in
    let labels : List ℕ = c.args.labels.now in
    let i : ℕ = c.loop-label.label-index in
    let port : ℕ → Option ℕ = λ label. slice_index_or c.args.row.now label None in
    let last : List (Option ℕ) = port (get_or labels i 0) ∷ [] in
    c.in_ok-push.ensures.items ∙ ap (λ (xs : List (Option ℕ)). xs ++ last) c.loop-label.invariant ∙ append_assoc old (map port (take i labels)) last
    ∙ ap (λ (xs : List (Option ℕ)). old ++ xs) (sym (map_push port (take i labels) (get_or labels i 0)) ∙ ap (λ (xs : List ℕ). map port xs) (sym (take_more labels i 0 c.loop-label-test.true)))

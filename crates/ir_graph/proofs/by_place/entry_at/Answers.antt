use Rattle.std.proofs.Common.{◌∙◌, sym, ap, slice_get, Some, ℕ, List}
use Rattle.ir_graph.proofs.Views.{row_at-view, no_row_at-view, entry_at-view}
use Rattle.ir_graph.proofs.by_place.entry_at.Goals as goal

pub returns-in-Some-get_index : goal.returns-in-Some-get_index
returns-in-Some-get_index c =
    ap (λ (x : List ℕ). let e : List ℕ × ℕ = (x, c.in-Some-get_index.weight.now) in Some e) c.as_str.ensures.value
    ∙ entry_at-view c.in-Some.row.now c.args.place _ c.in-Some-get_index.ensures.entry
    ∙ sym (ap (λ es. slice_get es c.args.place) (row_at-view c.args.rows.now c.args.node _ c.in-Some.ensures.entry))

pub returns-in-None-get_index : goal.returns-in-None-get_index
returns-in-None-get_index c =
    entry_at-view c.in-Some.row.now c.args.place _ c.in-None-get_index.ensures.entry
    ∙ sym (ap (λ es. slice_get es c.args.place) (row_at-view c.args.rows.now c.args.node _ c.in-Some.ensures.entry))

pub returns-in-None : goal.returns-in-None
returns-in-None c = sym (ap (λ es. slice_get es c.args.place) (no_row_at-view c.args.rows.now c.args.node c.in-None.ensures.entry))

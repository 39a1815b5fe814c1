use Rattle.std.proofs.Common.{◌∙◌, sym, ap, Some, string_bytes, List, ℕ, slice_get}
use Rattle.std.specs.Map.{keys_of}
use Rattle.ir_graph.proofs.Views.{key_at-view, neighbors-view, no_neighbors-view}
use Rattle.ir_graph.proofs.rows.neighbor_at.Goals as goal

pub returns-in-Some-get_index : goal.returns-in-Some-get_index
returns-in-Some-get_index c =
    ap (λ (x : List ℕ). Some x) c.as_str.ensures.value ∙ key_at-view string_bytes (λ (w : ℕ). w) c.in-Some.row.now.entries c.args.place _ c.in-Some-get_index.ensures.entry
    ∙ sym (ap (λ es. slice_get (keys_of es) c.args.place) (neighbors-view c.args.rows.now c.args.name.now c.in-Some.row.now c.in-Some.ensures.value))

pub returns-in-None-get_index : goal.returns-in-None-get_index
returns-in-None-get_index c =
    key_at-view string_bytes (λ (w : ℕ). w) c.in-Some.row.now.entries c.args.place _ c.in-None-get_index.ensures.entry
    ∙ sym (ap (λ es. slice_get (keys_of es) c.args.place) (neighbors-view c.args.rows.now c.args.name.now c.in-Some.row.now c.in-Some.ensures.value))

pub returns-in-None : goal.returns-in-None
returns-in-None c = sym (ap (λ es. slice_get (keys_of es) c.args.place) (no_neighbors-view c.args.rows.now c.args.name.now c.in-None.ensures.value))

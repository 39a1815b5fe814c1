use Rattle.std.proofs.Common.{◌∙◌, sym, ap, string_bytes, map, bytes_eq, ℕ}
use Rattle.std.specs.Map.{lookup}
use Rattle.ir_model.specs.Graph.{without}
use Rattle.ir_graph.proofs.Views.{change_row-view, removed-filter, filter-view}
use Rattle.ir_graph.proofs.rows.cut_neighbor.Goals as goal

pub returns : goal.returns
returns c =
    let gone = sym (ap (lookup (λ k. bytes_eq c.args.name.now (string_bytes k))) c.shift_remove.ensures.entries) ∙ c.shift_remove.ensures.updates.1 in
    change_row-view c.args.rows.now.entries c.args.at c.index_mut-row.result.now c.shift_remove.new.self (λ es. without es c.args.name.now) c.index_mut-row.ensures.value
    (ap (map (λ e. (string_bytes e.0, e.1))) (c.shift_remove.ensures.entries ∙ removed-filter (λ k. bytes_eq c.args.name.now (string_bytes k)) c.index_mut-row.result.now.entries gone)
    ∙ sym (filter-view string_bytes (λ (w : ℕ). w) (bytes_eq c.args.name.now) c.index_mut-row.result.now.entries))

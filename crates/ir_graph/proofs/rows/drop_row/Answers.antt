use Rattle.std.proofs.Common.{◌<◌, ◌≤◌, ◌∙◌, ◌++◌, refl, sym, ap, arith, map, length, drop, string_bytes, bytes_eq}
use Rattle.std.specs.Map.{lookup}
use Rattle.std.proofs.lemmas.List.{length-map, take_all, drop_all, append-nil}
use Rattle.ir_model.specs.Graph.{without}
use Rattle.ir_model.proofs.Graphs.{each_row}
use Rattle.ir_graph.specs.View.{rows_view, row_view, change_row}
use Rattle.ir_graph.proofs.Views.{length-change_row, removed-filter, filter-view}
use Rattle.ir_graph.proofs.Joined.{next_row_cut}
use Rattle.ir_graph.proofs.rows.drop_row.Goals as goal

pub loop-i-preserved : goal.loop-i-preserved
loop-i-preserved c =
    let g = rows_view c.shift_remove.new.self in
    let within : c.loop-i.i < length g = omega (arith, c.loop-i.invariant.end, c.loop-i-test.true) in
    record {
      cut = c.cut_neighbor.ensures ∙ ap (λ h. change_row h c.loop-i.i (λ es. without es c.args.name.now)) c.loop-i.invariant.cut ∙ next_row_cut (λ es. without es c.args.name.now) g c.loop-i.i within;
      long = ap length c.cut_neighbor.ensures ∙ length-change_row _ _ _ ∙ c.loop-i.invariant.long;
      end = c.loop-i.invariant.end;
    }

pub returns-clause-dropped : goal.returns-clause-dropped
returns-clause-dropped c =
    let x = c.args.name.now in
    let g = rows_view c.shift_remove.new.self in
    let done : length g ≤ c.loop-i.i = omega (arith, c.loop-i.invariant.end, c.loop-i-test.false) in
    let gone = sym (ap (lookup (λ k. bytes_eq x (string_bytes k))) c.shift_remove.ensures.entries) ∙ c.shift_remove.ensures.updates.1 in
    c.loop-i.invariant.cut
    ∙ ap (λ h. each_row (λ _ es. without es x) h ++ drop c.loop-i.i g) (take_all c.loop-i.i g done)
    ∙ ap (λ h. each_row (λ _ es. without es x) g ++ h) (drop_all c.loop-i.i g done)
    ∙ append-nil _
    ∙ ap (each_row (λ _ es. without es x)) (ap (map (λ e. (string_bytes e.0, row_view e.1))) (c.shift_remove.ensures.entries ∙ removed-filter (λ k. bytes_eq x (string_bytes k)) c.args.rows.now.entries gone)
    ∙ sym (filter-view string_bytes row_view (bytes_eq x) c.args.rows.now.entries))

pub loop-i-init : goal.loop-i-init
loop-i-init c = record { cut = refl; long = refl; end = c.len-i-end.ensures.len ∙ sym (length-map c.shift_remove.new.self.entries (λ e. (string_bytes e.0, row_view e.1))) }

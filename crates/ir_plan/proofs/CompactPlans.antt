-- The rows of a compact plan are fewest over all choices of ports that lead nearer.
use Rattle.std.proofs.Common.{◌≡◌, ◌≢◌, ℕ, ◌<◌, length, map, ap, sym, ◌∙◌, subst}
use Rattle.std.specs.Prelude.{slice_index}
use Rattle.ir_model.specs.declared.Kind.{Kind}
use Rattle.ir_model.specs.declared.Kind.TheVariants.{Compact}
use Rattle.ir_model.specs.Topology.{node_count}
use Rattle.ir_model.specs.Table.{LeadsNearer}
use Rattle.ir_model.specs.Row.{intervals_of}
use Rattle.ir_model.specs.Choices.{AreChoices, AreChosen, FitsChoices, IsFewestOfChoices}
use Rattle.ir_model.specs.Compact.{IsTied, IsCompactTable}
use Rattle.ir_model.specs.Plan.{Plan, IsPlan, IsTableOf, table_port, label_in, by_label, row_in}
use Rattle.ir_model.proofs.Chosen.{chosen_fits, chosen_is_fewest}

module _ (s : Plan) (is : IsPlan s) (compact : s.kind ≡ Compact) (u : ℕ) (node : u < node_count s.topology) where
  table : IsCompactTable s.topology s.order (table_port s)
  table = subst (λ (k : Kind). IsTableOf k s.topology s.order is.parents (table_port s)) compact is.table

  tied : AreChoices (node_count s.topology) (label_in s u) (IsTied s.topology s.order (label_in s u))
  tied =
      let named = is.labels in
      record {
        has_own = named.label u node;
        some = λ d hd ne.
            let there = named.there u node in
            let other : u ≢ slice_index s.order d = λ e. ne (sym (ap (slice_index s.labels) e ∙ named.back d hd)) in
            let w = table.nearer.port u (slice_index s.order d) node (named.node d hd) other in
            (w.0, subst (λ (x : ℕ). LeadsNearer s.topology x (slice_index s.order d) w.0) (sym there) w.2);
      }

  chosen : AreChosen (node_count s.topology) (label_in s u) (IsTied s.topology s.order (label_in s u)) (by_label s u)
  chosen =
      let named = is.labels in
      subst (λ (x : ℕ). AreChosen (node_count s.topology) (label_in s u) (IsTied s.topology s.order (label_in s u)) (map (table_port s x) s.order)) (named.there u node)
      (table.chosen (label_in s u) (named.label u node))

  pub compact_row_fits : FitsChoices (node_count s.topology) (label_in s u) (IsTied s.topology s.order (label_in s u)) (intervals_of (row_in s u))
  compact_row_fits = chosen_fits (node_count s.topology) (label_in s u) (IsTied s.topology s.order (label_in s u)) tied (by_label s u) chosen (row_in s u) (is.rows u node)

  pub compact_row_fewest : IsFewestOfChoices (node_count s.topology) (label_in s u) (IsTied s.topology s.order (label_in s u)) (length (row_in s u))
  compact_row_fewest = chosen_is_fewest (node_count s.topology) (label_in s u) (IsTied s.topology s.order (label_in s u)) tied (by_label s u) chosen (row_in s u) (is.rows u node)

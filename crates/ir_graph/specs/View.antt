-- What contracts see of the maps that a graph is kept in.
use Rattle.std.specs.Prelude.{◌==◌, if◌then◌else◌, ℕ, zero, suc, [], ◌∷◌, map, String, string_bytes}
use Rattle.ir_model.specs.Graph.{Name, Adjacency, Neighbors, put}
use Rattle.indexmap.specs.IndexMap.{IndexMap}

module _ {Z S : Type 0} where
  -- the neighbours in a row
  abbrev pub row_view : IndexMap (String Z) ℕ S → Neighbors
  row_view row = map (λ e. (string_bytes e.0, e.1)) row.entries

  -- the rows
  abbrev pub rows_view : IndexMap (String Z) (IndexMap (String Z) ℕ S) S → Adjacency
  rows_view rows = map (λ e. (string_bytes e.0, row_view e.1)) rows.entries

-- with f of what the row at the index was
abbrev pub change_row : Adjacency → ℕ → (Neighbors → Neighbors) → Adjacency
change_row [] i f = []
change_row (r ∷ rs) zero f = (r.0, f r.1) ∷ rs
change_row (r ∷ rs) (suc i) f = r ∷ change_row rs i f

-- with u and v, which are at i and j, in each other's rows
abbrev pub linked_rows : Adjacency → ℕ → ℕ → Name → Name → ℕ → Adjacency
linked_rows g i j u v w =
    let half = change_row g i (λ es. put es v w) in
    if i == j then half else change_row half j (λ es. put es u w)

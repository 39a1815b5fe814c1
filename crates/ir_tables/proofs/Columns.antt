-- A table made of columns.
use Rattle.std.proofs.Common.{◌≡◌, ℕ, ◌+◌, ◌<◌, ◌≤◌, List, [], ◌∷◌, ◌++◌, length, map, Option, None, refl, ap, sym, subst, ◌∙◌, arith, ⊎_elim, slice_index_or}
use Rattle.std.proofs.lemmas.List.{get_or-map, length-map, length_push, get_or_append_left, get_or_push}
use Rattle.std.proofs.lemmas.Bool.{cases_lt}
use Rattle.ir_model.specs.Topology.{Topology, node_count, IsTopology}
use Rattle.ir_model.specs.Walk.{IsConnected}
use Rattle.ir_model.specs.Table.{Table, table_size, port_in, weight_in, IsSquare, IsShortest, IsRouted}
use Rattle.ir_tables.specs.declared.table.Column.{Column}
use Rattle.ir_tables.specs.Relaxation.{IsColumn}
use Rattle.ir_tables.specs.Listed.{listed_port, IsPortList, IsListed, IsWay, IsListedColumn}
use Rattle.ir_tables.proofs.Ways.{continues_agree, continues_short}

-- the full table of its columns
abbrev pub of_columns : List Column → Table
of_columns cols = record { ports = map (λ c. c.ports.items) cols; weights = map (λ c. c.weights.items) cols }

-- a list within which k lies has an element to stand for one past its end
some_column : (cols : List Column) (k : ℕ) → k < length cols → Column
some_column [] k lt = absurd (omega arith)
some_column (c ∷ cols) k lt = c

-- the rows of a table, by its columns
pub port_row : (cols : List Column) (k : ℕ) (e : Column) → k < length cols → slice_index_or (of_columns cols).ports k [] ≡ (slice_index_or cols k e).ports.items
port_row cols k e lt = get_or-map (λ (c : Column). c.ports.items) cols k e [] lt

pub weight_row : (cols : List Column) (k : ℕ) (e : Column) → k < length cols → slice_index_or (of_columns cols).weights k [] ≡ (slice_index_or cols k e).weights.items
weight_row cols k e lt = get_or-map (λ (c : Column). c.weights.items) cols k e [] lt

-- each column is the shortest table's
pub record AreColumns (net : Topology) (cols : List Column) : Type 0 where
  pub len : length cols ≡ node_count net
  pub columns : (k : ℕ) (e : Column) → k < length cols → IsColumn net k (slice_index_or cols k e).ports.items (slice_index_or cols k e).weights.items

-- the column for d, in the words of a table
column_of : (net : Topology) (cols : List Column) → AreColumns net cols → (d : ℕ) → d < length cols → IsColumn net d (slice_index_or (of_columns cols).ports d []) (slice_index_or (of_columns cols).weights d [])
column_of net cols are d lt =
    let e : Column = some_column cols d lt in
    rw (port_row cols d e lt, weight_row cols d e lt) (are.columns d e lt)

pub size_of_columns : (cols : List Column) → table_size (of_columns cols) ≡ length cols
size_of_columns cols = length-map cols (λ c. c.ports.items)

pub columns_square : (net : Topology) (cols : List Column) → AreColumns net cols → IsSquare (of_columns cols)
columns_square net cols are =
    let size : table_size (of_columns cols) ≡ length cols = size_of_columns cols in
    let weights : length (of_columns cols).weights ≡ length cols = length-map cols (λ c. c.weights.items) in
    record {
      weights_len = weights ∙ sym size;
      port_rows = λ d lt. (column_of net cols are d (omega (arith, size, lt))).ports_len ∙ (sym are.len ∙ sym size);
      weight_rows = λ d lt. (column_of net cols are d (omega (arith, size, lt))).weights_len ∙ (sym are.len ∙ sym size);
    }

pub columns_shortest : (net : Topology) (cols : List Column) → AreColumns net cols → IsShortest net (of_columns cols)
columns_shortest net cols are = record {
  size = size_of_columns cols ∙ are.len;
  ports = record {
    own = λ d d_in. (column_of net cols are d (omega (arith, are.len))).own;
    port = λ u d u_in d_in other. (column_of net cols are d (omega (arith, are.len))).port u u_in other;
  };
  weights = λ u d u_in d_in. (column_of net cols are d (omega (arith, are.len))).weight u u_in;
}

pub columns_connected : (net : Topology) (cols : List Column) → AreColumns net cols → IsConnected net
columns_connected net cols are u d u_in d_in =
    let far = (columns_shortest net cols are).weights u d u_in d_in in (far.reached.0, far.reached.1)

-- one more column
pub columns_push : (P : ℕ → List (Option ℕ) → List ℕ → Type 0) (cols : List Column) (d : ℕ) (column : Column) → length cols ≡ d
    → ((k : ℕ) (e : Column) → k < d → P k (slice_index_or cols k e).ports.items (slice_index_or cols k e).weights.items)
    → P d column.ports.items column.weights.items
    → (k : ℕ) (e : Column) → k < d + 1 → P k (slice_index_or (cols ++ column ∷ []) k e).ports.items (slice_index_or (cols ++ column ∷ []) k e).weights.items
columns_push P cols d column len before here k e lt =
    let Q : ℕ → Column → Type 0 = λ j c. P j c.ports.items c.weights.items in
    ⊎_elim (λ (less : k < d). let left : slice_index_or (cols ++ column ∷ []) k e ≡ slice_index_or cols k e = get_or_append_left cols (column ∷ []) e k (omega (arith, less, len)) in
    subst (Q k) (sym left) (before k e less))
    (λ (ge : d ≤ k). let same : k ≡ d = omega (arith, lt, ge) in
    let right : slice_index_or (cols ++ column ∷ []) k e ≡ column = get_or_push cols column e k (omega (arith, same, len)) in
    let R : ℕ → Type 0 = λ j. Q j column in
    subst (Q k) (sym right) (subst R (sym same) here)) (cases_lt k d)

-- ---- columns of listed ports

-- one more port after those of the first nodes
pub read_next : (f : ℕ → Option ℕ) (k : ℕ) (held more : List (Option ℕ)) (x : Option ℕ) → length held ≡ k → ((v : ℕ) → v < k → slice_index_or held v None ≡ f v) → more ≡ held ++ x ∷ [] → x ≡ f k
    → (length more ≡ k + 1) × ((v : ℕ) → v < k + 1 → slice_index_or more v None ≡ f v)
read_next f k held more x len before is own = (ap (λ (xs : List (Option ℕ)). length xs) is ∙ length_push held x ∙ ap (λ (j : ℕ). j + 1) len, at)
  where
    at : (v : ℕ) → v < k + 1 → slice_index_or more v None ≡ f v
    at v lt =
        ap (λ (xs : List (Option ℕ)). slice_index_or xs v None) is
        ∙ ⊎_elim (λ (less : v < k). get_or_append_left held (x ∷ []) None v (omega (arith, less, len)) ∙ before v less)
        (λ (ge : k ≤ v). let same : v ≡ k = omega (arith, lt, ge) in get_or_push held x None v (len ∙ sym same) ∙ own ∙ ap f (sym same)) (cases_lt v k)

-- each column is that of the listed ports
pub record AreListed (net : Topology) (list : List (Option ℕ)) (cols : List Column) : Type 0 where
  pub len : length cols ≡ node_count net
  pub columns : (k : ℕ) (e : Column) → k < length cols → IsListedColumn net list k (slice_index_or cols k e).ports.items (slice_index_or cols k e).weights.items

listed_of : (net : Topology) (list : List (Option ℕ)) (cols : List Column) → AreListed net list cols → (d : ℕ) → d < length cols → IsListedColumn net list d (slice_index_or (of_columns cols).ports d []) (slice_index_or (of_columns cols).weights d [])
listed_of net list cols are d lt =
    let e : Column = some_column cols d lt in
    rw (port_row cols d e lt, weight_row cols d e lt) (are.columns d e lt)

pub listed_square : (net : Topology) (list : List (Option ℕ)) (cols : List Column) → AreListed net list cols → IsSquare (of_columns cols)
listed_square net list cols are =
    let size : table_size (of_columns cols) ≡ length cols = size_of_columns cols in
    let weights : length (of_columns cols).weights ≡ length cols = length-map cols (λ c. c.weights.items) in
    record {
      weights_len = weights ∙ sym size;
      port_rows = λ d lt. (listed_of net list cols are d (omega (arith, size, lt))).ports_len ∙ (sym are.len ∙ sym size);
      weight_rows = λ d lt. (listed_of net list cols are d (omega (arith, size, lt))).weights_are.len ∙ (sym are.len ∙ sym size);
    }

pub listed_table : (net : Topology) (list : List (Option ℕ)) (cols : List Column) → AreListed net list cols → IsListed net list (of_columns cols)
listed_table net list cols are = record {
  size = size_of_columns cols ∙ are.len;
  held = λ u d u_in d_in. (listed_of net list cols are d (omega (arith, are.len))).held u u_in;
}

pub listed_routed : (net : Topology) → IsTopology net → (list : List (Option ℕ)) (cols : List Column) → IsPortList net list → AreListed net list cols → IsRouted net (of_columns cols)
listed_routed net ok list cols is are =
    let table : IsListed net list (of_columns cols) = listed_table net list cols are in
    record {
      size = table.size;
      own = λ d d_in. table.held d d d_in d_in ∙ is.own d d_in;
      walks = λ u d u_in d_in.
          let way : IsWay net (listed_port (node_count net) list) d u (weight_in (of_columns cols) u d) = (listed_of net list cols are d (omega (arith, are.len))).weights_are.ways u u_in in
          let same = continues_agree net ok (listed_port (node_count net) list) (port_in (of_columns cols)) d (λ x x_in. sym (table.held x d x_in d_in)) u u_in way.rest way.continues in
          (u ∷ way.rest, (refl, same), continues_short net ok (listed_port (node_count net) list) d u u_in way.rest way.continues, way.weighs);
    }

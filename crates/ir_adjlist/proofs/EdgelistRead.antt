-- A weighted edge list that is written is read again.
use Rattle.std.proofs.Common.{◌≡◌, ◌≤◌, ◌+◌, ℕ, Bool, true, false, not, cond, ◌&&◌, List, [], ◌∷◌, ◌++◌, map, filter, length, Some, None, is_some, refl, sym, ap, ◌∙◌, arith, decimal, length-append}
use Rattle.std.specs.List.{list_all}
use Rattle.std.specs.Map.{keys_of}
use Rattle.std.proofs.lemmas.Bool.{and_parts, and_from}
use Rattle.std.proofs.lemmas.List.Folds.{list_all-append, flat_map-map}
use Rattle.ir_model.specs.declared.TheConstants.{MAX_EDGES}
use Rattle.ir_model.specs.Graph.{Name, Neighbors, Adjacency, names, among, has_node, weight_of, edges, edges_after, is_name, is_weight, is_row, IsGraph}
use Rattle.ir_model.specs.Made.{Pair}
use Rattle.ir_model.specs.Text.{lines, words, or_later, edges_pass}
use Rattle.ir_model.specs.declared.Fault.TheVariants.{BadByte, BadName, TooManyNodes, TooManyEdges}
use Rattle.ir_graph.proofs.Joined.{has_node-weight_of}
use Rattle.ir_model.specs.Edgelist.{spelled_weight, weighted, row_edges, edges_in, ends_of, graph_of_edges, limit_fault, weight_fault, edge_row_fault, edge_line_fault, first_fault_by}
use Rattle.ir_adjlist.specs.Written.{row_text, edgelist_text}
use Rattle.ir_adjlist.specs.RoundTrip.{IsReadAsEdgelist}
use Rattle.ir_adjlist.proofs.EdgeMeaning.{edges_in-push, Covered-ends}
use Rattle.ir_adjlist.proofs.Spelling.{Row, is_row_of_names, line_of, text_of, lines_of_rows, row_plain, row_words, name_len, weight_in-decimal, decimal_is_name}
use Rattle.ir_adjlist.proofs.Found.{has_node-graph_of, weight_of-graph_of}
use Rattle.ir_adjlist.proofs.EdgesFound.{RowsAreOf, rows_of, edges_found}
use Rattle.ir_adjlist.proofs.Fitting.{nodes_fit, edges_fit}
use Rattle.ir_adjlist.proofs.Sound.{same_bool, among_holds, node_is_name, row_neighbors, row_nodes}

-- the row of an edge
abbrev row_of : Pair → Row
row_of e = (e.0, e.1 ∷ decimal e.2 ∷ [])

abbrev line_at : Pair → List ℕ
line_at e = line_of (row_of e)

-- an edge between nodes, with a weight
abbrev is_sound : Adjacency → Pair → Bool
is_sound g e = has_node g e.0 && has_node g e.1 && is_weight e.2

module _ (g : Adjacency) (kept : IsGraph g) where
  row_sound : (z : Name) (q : Name × ℕ → Bool) (es : Neighbors) → has_node g z ≡ true → list_all (has_node g) (keys_of es) ≡ true → list_all (λ (e : Name × ℕ). is_weight e.1) es ≡ true → list_all (is_sound g) (map {B = Pair} (λ e. (z, e.0, e.1)) (filter q es)) ≡ true
  row_sound z q [] hz hk hw = refl
  row_sound z q (e ∷ es) hz hk hw =
      let k = and_parts (has_node g e.0) (list_all (has_node g) (keys_of es)) hk in
      let w = and_parts (is_weight e.1) (list_all (λ (e : Name × ℕ). is_weight e.1) es) hw in
      elim (q e) as (λ b. list_all (is_sound g) (map {B = Pair} (λ e. (z, e.0, e.1)) (cond b (e ∷ filter q es) (filter q es))) ≡ true)
      [ true ↦ and_from _ _ (and_from _ _ (and_from _ _ hz k.0) w.0) (row_sound z q es hz k.1 w.1) | false ↦ row_sound z q es hz k.1 w.1 ]

  edges_sound : (walked : List Name) (rs : Adjacency) → RowsAreOf g rs → list_all is_row rs ≡ true → list_all (has_node g) (names rs) ≡ true → list_all (is_sound g) (edges_after walked rs) ≡ true
  edges_sound walked [] rows hr hn = refl
  edges_sound walked (r ∷ rs) rows hr hn =
      let a = and_parts (is_row r) (list_all is_row rs) hr in
      let w = and_parts (is_name r.0) (list_all (λ (e : Name × ℕ). is_weight e.1) r.1) a.0 in
      let n = and_parts (has_node g r.0) (list_all (has_node g) (names rs)) hn in
      list_all-append (is_sound g) (map {B = Pair} (λ e. (r.0, e.0, e.1)) (filter (λ e. not (among walked e.0)) r.1)) (edges_after (r.0 ∷ walked) rs)
      ∙ and_from _ _ (row_sound r.0 (λ e. not (among walked e.0)) r.1 n.0 (row_neighbors g kept r rows.0) w.1) (edges_sound (r.0 ∷ walked) rs rows.1 a.1 n.1)

  row_named : (e : Pair) → is_sound g e ≡ true → is_row_of_names (row_of e) ≡ true
  row_named e h =
      let a = and_parts (has_node g e.0 && has_node g e.1) (is_weight e.2) h in
      let n = and_parts (has_node g e.0) (has_node g e.1) a.0 in
      and_from _ _ (node_is_name g kept e.0 n.0) (and_from _ _ (node_is_name g kept e.1 n.1) (and_from _ _ (decimal_is_name e.2 a.1) refl))

  rows_named : (es : List Pair) → list_all (is_sound g) es ≡ true → list_all is_row_of_names (map row_of es) ≡ true
  rows_named [] h = refl
  rows_named (e ∷ es) h = let a = and_parts (is_sound g e) (list_all (is_sound g) es) h in and_from _ _ (row_named e a.0) (rows_named es a.1)

  words_at : (e : Pair) → is_sound g e ≡ true → words (line_at e) ≡ e.0 ∷ e.1 ∷ decimal e.2 ∷ []
  words_at e h = let n = and_parts (is_name e.0) (list_all is_name (e.1 ∷ decimal e.2 ∷ [])) (row_named e h) in row_words e.0 (e.1 ∷ decimal e.2 ∷ []) n.0 n.1

  weight_at : (e : Pair) → is_sound g e ≡ true → spelled_weight (decimal e.2) ≡ Some e.2
  weight_at e h = weight_in-decimal e.2 (and_parts (has_node g e.0 && has_node g e.1) (is_weight e.2) h).1

  edge_at : (e : Pair) → is_sound g e ≡ true → row_edges (words (line_at e)) ≡ e ∷ []
  edge_at e h = ap row_edges (words_at e h) ∙ ap (weighted e.0 e.1) (weight_at e h)

  edges_read : (es : List Pair) → list_all (is_sound g) es ≡ true → edges_in (map line_of (map row_of es)) ≡ es
  edges_read [] h = refl
  edges_read (e ∷ es) h =
      let a = and_parts (is_sound g e) (list_all (is_sound g) es) h in
      ap (λ t. t ++ edges_in (map line_of (map row_of es))) (edge_at e a.0) ∙ ap (λ t. e ∷ t) (edges_read es a.1)

  ends_nodes : (es : List Pair) → list_all (is_sound g) es ≡ true → list_all (has_node g) (ends_of es) ≡ true
  ends_nodes [] h = refl
  ends_nodes (e ∷ es) h =
      let a = and_parts (is_sound g e) (list_all (is_sound g) es) h in
      let n = and_parts (has_node g e.0) (has_node g e.1) (and_parts (has_node g e.0 && has_node g e.1) (is_weight e.2) a.0).0 in
      and_from _ _ n.0 (and_from _ _ n.1 (ends_nodes es a.1))

  -- ---- no line has a fault

  limits_fit : (ps : List Pair) → list_all (is_sound g) ps ≡ true → length ps ≤ MAX_EDGES → limit_fault ps ≡ None
  limits_fit ps h le =
      ap (λ b. cond b (Some TooManyNodes) (cond (edges_pass (ends_of ps) ps) (Some TooManyEdges) None)) (nodes_fit g (ends_of ps) kept.node_limit (ends_nodes ps h))
      ∙ ap (λ b. cond b (Some TooManyEdges) None) (edges_fit (ends_of ps) ps (Covered-ends ps) le)

  line_fits : (before : List (List ℕ)) (e : Pair) → is_sound g e ≡ true → list_all (is_sound g) (edges_in before) ≡ true → length (edges_in before) + 1 ≤ MAX_EDGES → edge_line_fault before (line_at e) ≡ None
  line_fits before e h hb le =
      let n = and_parts (is_name e.0) (list_all is_name (e.1 ∷ decimal e.2 ∷ [])) (row_named e h) in
      let m = and_parts (is_name e.1) (is_name (decimal e.2) && true) n.1 in
      let pushed : list_all (is_sound g) (edges_in before ++ e ∷ []) ≡ true = list_all-append (is_sound g) (edges_in before) (e ∷ []) ∙ and_from _ _ hb (and_from _ _ h refl) in
      ap (λ b. cond (not b) (Some BadByte) (edge_row_fault (edges_in before) (words (line_at e)))) (row_plain e.0 (e.1 ∷ decimal e.2 ∷ []) n.0 n.1)
      ∙ ap (edge_row_fault (edges_in before)) (words_at e h)
      ∙ ap (λ b. cond (not b) (Some BadName) (weight_fault (edges_in before) e.0 e.1 (spelled_weight (decimal e.2)))) (and_from _ _ (name_len e.0 n.0) (name_len e.1 m.0))
      ∙ ap (weight_fault (edges_in before) e.0 e.1) (weight_at e h)
      ∙ limits_fit (edges_in before ++ e ∷ []) pushed (omega (arith, length-append (edges_in before) (e ∷ [])))

  lines_fit : (before : List (List ℕ)) (es : List Pair) → list_all (is_sound g) es ≡ true → list_all (is_sound g) (edges_in before) ≡ true → length (edges_in before) + length es ≤ MAX_EDGES → first_fault_by edge_line_fault before (map line_of (map row_of es)) ≡ None
  lines_fit before [] h hb le = refl
  lines_fit before (e ∷ es) h hb le =
      let a = and_parts (is_sound g e) (list_all (is_sound g) es) h in
      let pushed : edges_in (before ++ line_at e ∷ []) ≡ edges_in before ++ e ∷ [] = edges_in-push before (line_at e) ∙ ap (λ t. edges_in before ++ t) (edge_at e a.0) in
      let count : length (edges_in (before ++ line_at e ∷ [])) ≡ length (edges_in before) + 1 = ap length pushed ∙ length-append (edges_in before) (e ∷ []) in
      ap (λ o. or_later (length before + 1) o (first_fault_by edge_line_fault (before ++ line_at e ∷ []) (map line_of (map row_of es)))) (line_fits before e a.0 hb (omega arith))
      ∙ lines_fit (before ++ line_at e ∷ []) es a.1 (ap (list_all (is_sound g)) pushed ∙ list_all-append (is_sound g) (edges_in before) (e ∷ []) ∙ and_from _ _ hb (and_from _ _ a.0 refl)) (omega arith)

  pub edgelist_read : IsReadAsEdgelist g (edgelist_text g)
  edgelist_read =
      let sound : list_all (is_sound g) (edges g) ≡ true = edges_sound [] g (rows_of g kept.nodes_differ) kept.rows (row_nodes g kept) in
      let text : edgelist_text g ≡ text_of (map row_of (edges g)) = sym (flat_map-map (λ (r : Row). row_text r.0 r.1) row_of (edges g)) in
      let split : lines (edgelist_text g) ≡ map line_of (map row_of (edges g)) = ap lines text ∙ lines_of_rows (map row_of (edges g)) (rows_named (edges g) sound) in
      let read : edges_in (lines (edgelist_text g)) ≡ edges g = ap edges_in split ∙ edges_read (edges g) sound in
      let limit = kept.edge_limit in
      let same : (x y : Name) → weight_of (graph_of_edges (edges_in (lines (edgelist_text g)))) x y ≡ weight_of g x y = λ x y.
      ap (λ ps. weight_of (graph_of_edges ps) x y) read ∙ weight_of-graph_of (ends_of (edges g)) (edges g) x y (Covered-ends (edges g)) ∙ edges_found g kept x y in
      record {
        no_fault = ap (first_fault_by edge_line_fault []) split ∙ lines_fit [] (edges g) sound refl (omega arith);
        same_edges = same;
        same_nodes = λ each x. same_bool (has_node (graph_of_edges (edges_in (lines (edgelist_text g)))) x) (has_node g x)
            (λ h. among_holds (has_node g) (ends_of (edges g)) x (ends_nodes (edges g) sound) (sym (has_node-graph_of (ends_of (edges g)) (edges g) x) ∙ ap (λ ps. has_node (graph_of_edges ps) x) (sym read) ∙ h))
            (λ h. let w = each x h in has_node-weight_of (graph_of_edges (edges_in (lines (edgelist_text g)))) x w.0 (ap is_some (same x w.0) ∙ w.1));
      }

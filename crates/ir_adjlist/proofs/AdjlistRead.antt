-- An adjacency list that is written is read again.
use Rattle.std.proofs.Common.{◌≡◌, ◌≤◌, ◌+◌, ℕ, Bool, true, false, not, cond, ◌||◌, List, [], ◌∷◌, ◌++◌, map, filter, flat_map, length, Option, Some, None, option_map, refl, sym, ap, subst, ◌∙◌, arith, bytes_eq, nat_le, length-append, append_assoc, append-nil}
use Rattle.std.specs.List.{list_all}
use Rattle.std.specs.Map.{keys_of}
use Rattle.std.proofs.lemmas.Bool.{and_parts, and_from}
use Rattle.std.proofs.lemmas.List.{length-map, map-append}
use Rattle.std.proofs.lemmas.List.Folds.{list_all-append, list_any-append}
use Rattle.std.proofs.Math.Bool.{or-true}
use Rattle.ir_model.specs.declared.TheConstants.{MAX_NODES, MAX_EDGES, MAX_NAME_BYTES}
use Rattle.ir_model.specs.Graph.{Name, Neighbors, Adjacency, names, among, has_node, edges, edges_after, is_name, IsGraph}
use Rattle.ir_model.specs.Made.{Pair, joins}
use Rattle.ir_model.specs.Text.{lines, words, row_pairs, names_in, pairs_in, edges_pass, targets_fault, row_fault, line_fault, or_later, first_fault}
use Rattle.ir_model.specs.declared.Fault.TheVariants.{BadByte, BadName, TooManyNodes, TooManyEdges}
use Rattle.ir_model.proofs.MadeLemmas.{Covered, Covered-push, Covered-pair, among-pushed, among-push}
use Rattle.ir_adjlist.specs.Written.{row_text, targets_behind, adjlist_behind, adjlist_text}
use Rattle.ir_adjlist.specs.RoundTrip.{IsReadAsAdjlist}
use Rattle.ir_adjlist.proofs.Names.{list_all-imp}
use Rattle.ir_adjlist.proofs.Meaning.{CoveredIn, CoveredIn-push, names_in-push, pairs_in-push}
use Rattle.ir_adjlist.proofs.Spelling.{Row, is_row_of_names, line_of, text_of, lines_of_rows, row_plain, row_words, name_len}
use Rattle.ir_adjlist.proofs.Found.{or_else, found, has_node-graph_of, weight_of-graph_of}
use Rattle.ir_adjlist.proofs.EdgesFound.{RowsAreOf, rows_of, is_some-among, edges_found}
use Rattle.ir_adjlist.proofs.Fitting.{nodes_fit, edges_fit}
use Rattle.ir_adjlist.proofs.Sound.{same_bool, among_holds, all_kept, node_names, node_is_name, row_neighbors, row_nodes}

-- ---- the rows of the text

abbrev rows_behind : List Name → Adjacency → List Row
rows_behind written [] = []
rows_behind written (r ∷ rs) = (r.0, targets_behind written r.1) ∷ rows_behind (r.0 ∷ written) rs

text_is : (written : List Name) (rs : Adjacency) → adjlist_behind written rs ≡ text_of (rows_behind written rs)
text_is written [] = refl
text_is written (r ∷ rs) = ap (λ t. row_text r.0 (targets_behind written r.1) ++ t) (text_is (r.0 ∷ written) rs)

-- the names and the links of rows
abbrev row_names : List Row → List Name
row_names rows = flat_map (λ r. r.0 ∷ r.1) rows

abbrev row_links : List Row → List Pair
row_links rows = flat_map (λ r. row_pairs (r.0 ∷ r.1)) rows

names_read : (rows : List Row) → list_all is_row_of_names rows ≡ true → names_in (map line_of rows) ≡ row_names rows
names_read [] h = refl
names_read (r ∷ rows) h =
    let a = and_parts (is_row_of_names r) (list_all is_row_of_names rows) h in
    let n = and_parts (is_name r.0) (list_all is_name r.1) a.0 in
    ap (λ ws. ws ++ names_in (map line_of rows)) (row_words r.0 r.1 n.0 n.1) ∙ ap (λ t. (r.0 ∷ r.1) ++ t) (names_read rows a.1)

pairs_read : (rows : List Row) → list_all is_row_of_names rows ≡ true → pairs_in (map line_of rows) ≡ row_links rows
pairs_read [] h = refl
pairs_read (r ∷ rows) h =
    let a = and_parts (is_row_of_names r) (list_all is_row_of_names rows) h in
    let n = and_parts (is_name r.0) (list_all is_name r.1) a.0 in
    ap (λ ws. row_pairs ws ++ pairs_in (map line_of rows)) (row_words r.0 r.1 n.0 n.1) ∙ ap (λ t. row_pairs (r.0 ∷ r.1) ++ t) (pairs_read rows a.1)

-- ---- no line has a fault

module _ (g : Adjacency) (few : length g ≤ MAX_NODES) where
  pushed_nodes : (ns : List Name) (t : Name) → list_all (has_node g) ns ≡ true → has_node g t ≡ true → list_all (has_node g) (ns ++ t ∷ []) ≡ true
  pushed_nodes ns t hs h = list_all-append (has_node g) ns (t ∷ []) ∙ and_from _ _ hs (and_from _ _ h refl)

  targets_fit : (ns : List Name) (ps : List Pair) (s : Name) (ts : List Name) → Covered ns ps → among ns s ≡ true → list_all (has_node g) ns ≡ true → list_all (has_node g) ts ≡ true → length ps + length ts ≤ MAX_EDGES → targets_fault ns ps s ts ≡ None
  targets_fit ns ps s [] c m hs ht le = refl
  targets_fit ns ps s (t ∷ ts) c m hs ht le =
      let a = and_parts (has_node g t) (list_all (has_node g) ts) ht in
      let more : list_all (has_node g) (ns ++ t ∷ []) ≡ true = pushed_nodes ns t hs a.0 in
      let known : among (ns ++ t ∷ []) s ≡ true = among-push ns t s m in
      let covered : Covered (ns ++ t ∷ []) (ps ++ (s, t, 1) ∷ []) = Covered-pair (ns ++ t ∷ []) ps (s, t, 1) (Covered-push ns t ps c) known (among-pushed ns t) in
      ap (λ b. cond b (Some TooManyNodes) (cond (edges_pass (ns ++ t ∷ []) (ps ++ (s, t, 1) ∷ [])) (Some TooManyEdges) (targets_fault (ns ++ t ∷ []) (ps ++ (s, t, 1) ∷ []) s ts))) (nodes_fit g (ns ++ t ∷ []) few more)
      ∙ ap (λ b. cond b (Some TooManyEdges) (targets_fault (ns ++ t ∷ []) (ps ++ (s, t, 1) ∷ []) s ts)) (edges_fit (ns ++ t ∷ []) (ps ++ (s, t, 1) ∷ []) covered (omega (arith, length-append ps ((s, t, 1) ∷ []))))
      ∙ targets_fit (ns ++ t ∷ []) (ps ++ (s, t, 1) ∷ []) s ts covered known more a.1 (omega (arith, length-append ps ((s, t, 1) ∷ [])))

  row_fits : (ns : List Name) (ps : List Pair) (s : Name) (ts : List Name) → Covered ns ps → list_all (has_node g) ns ≡ true → list_all (has_node g) (s ∷ ts) ≡ true → length ps + length ts ≤ MAX_EDGES → row_fault ns ps (s ∷ ts) ≡ None
  row_fits ns ps s ts c hs h le =
      let a = and_parts (has_node g s) (list_all (has_node g) ts) h in
      ap (λ b. cond b (Some TooManyNodes) (targets_fault (ns ++ s ∷ []) ps s ts)) (nodes_fit g (ns ++ s ∷ []) few (pushed_nodes ns s hs a.0))
      ∙ targets_fit (ns ++ s ∷ []) ps s ts (Covered-push ns s ps c) (among-pushed ns s) (pushed_nodes ns s hs a.0) a.1 le

  line_fits : (before : List (List ℕ)) (r : Row) → is_row_of_names r ≡ true → CoveredIn before → list_all (has_node g) (names_in before) ≡ true → list_all (has_node g) (r.0 ∷ r.1) ≡ true → length (pairs_in before) + length r.1 ≤ MAX_EDGES
      → line_fault before (line_of r) ≡ None
  line_fits before r named c hs h le =
      let n = and_parts (is_name r.0) (list_all is_name r.1) named in
      let short : list_all (λ (w : Name). nat_le (length w) MAX_NAME_BYTES) (r.0 ∷ r.1) ≡ true = and_from _ _ (name_len r.0 n.0) (list_all-imp is_name (λ (w : Name). nat_le (length w) MAX_NAME_BYTES) name_len r.1 n.1) in
      ap (λ b. cond (not b) (Some BadByte) (cond (not (list_all (λ (w : Name). nat_le (length w) MAX_NAME_BYTES) (words (line_of r)))) (Some BadName) (row_fault (names_in before) (pairs_in before) (words (line_of r))))) (row_plain r.0 r.1 n.0 n.1)
      ∙ ap (λ ws. cond (not (list_all (λ (w : Name). nat_le (length w) MAX_NAME_BYTES) ws)) (Some BadName) (row_fault (names_in before) (pairs_in before) ws)) (row_words r.0 r.1 n.0 n.1)
      ∙ ap (λ b. cond (not b) (Some BadName) (row_fault (names_in before) (pairs_in before) (r.0 ∷ r.1))) short
      ∙ row_fits (names_in before) (pairs_in before) r.0 r.1 c hs h le

  rows_fit : (before : List (List ℕ)) (rows : List Row) → list_all is_row_of_names rows ≡ true → CoveredIn before → list_all (has_node g) (names_in before) ≡ true → list_all (has_node g) (row_names rows) ≡ true
      → length (pairs_in before) + length (row_links rows) ≤ MAX_EDGES → first_fault before (map line_of rows) ≡ None
  rows_fit before [] named c hs h le = refl
  rows_fit before (r ∷ rows) named c hs h le =
      let a = and_parts (is_row_of_names r) (list_all is_row_of_names rows) named in
      let n = and_parts (is_name r.0) (list_all is_name r.1) a.0 in
      let l = line_of r in
      let nodes = and_parts (list_all (has_node g) (r.0 ∷ r.1)) (list_all (has_node g) (row_names rows)) (sym (list_all-append (has_node g) (r.0 ∷ r.1) (row_names rows)) ∙ h) in
      let links : length (row_links (r ∷ rows)) ≡ length (row_pairs (r.0 ∷ r.1)) + length (row_links rows) = length-append (row_pairs (r.0 ∷ r.1)) (row_links rows) in
      let targets : length (row_pairs (r.0 ∷ r.1)) ≡ length r.1 = length-map r.1 (λ t. (r.0, t, 1)) in
      let ws : names_in (before ++ l ∷ []) ≡ names_in before ++ (r.0 ∷ r.1) = names_in-push before l ∙ ap (λ ws. names_in before ++ ws) (row_words r.0 r.1 n.0 n.1) in
      let ps : pairs_in (before ++ l ∷ []) ≡ pairs_in before ++ row_pairs (r.0 ∷ r.1) = pairs_in-push before l ∙ ap (λ ws. pairs_in before ++ row_pairs ws) (row_words r.0 r.1 n.0 n.1) in
      let count : length (pairs_in (before ++ l ∷ [])) ≡ length (pairs_in before) + length (row_pairs (r.0 ∷ r.1)) = ap length ps ∙ length-append (pairs_in before) (row_pairs (r.0 ∷ r.1)) in
      ap (λ o. or_later (length before + 1) o (first_fault (before ++ l ∷ []) (map line_of rows))) (line_fits before r a.0 c hs nodes.0 (omega arith))
      ∙ rows_fit (before ++ l ∷ []) rows a.1 (CoveredIn-push before l c) (ap (list_all (has_node g)) ws ∙ list_all-append (has_node g) (names_in before) (r.0 ∷ r.1) ∙ and_from _ _ hs nodes.0) nodes.1 (omega arith)

covered_lines : (before ls : List (List ℕ)) → CoveredIn before → CoveredIn (before ++ ls)
covered_lines before [] c = subst CoveredIn (sym (append-nil before)) c
covered_lines before (l ∷ ls) c = subst CoveredIn (append_assoc before (l ∷ []) ls) (covered_lines (before ++ l ∷ []) ls (CoveredIn-push before l c))

-- ---- the links are the edges

abbrev lightened : Pair → Pair
lightened p = (p.0, p.1, 1)

targets_are : (written : List Name) (z : Name) (es : Neighbors) → map {B = Pair} (λ t. (z, t, 1)) (targets_behind written es) ≡ map lightened (map {B = Pair} (λ e. (z, e.0, e.1)) (filter (λ e. not (among written e.0)) es))
targets_are written z [] = refl
targets_are written z (e ∷ es) = by (among written e.0) (targets_are written z es)
  where
    by : (b : Bool) → map {B = Pair} (λ t. (z, t, 1)) (targets_behind written es) ≡ map lightened (map {B = Pair} (λ e. (z, e.0, e.1)) (filter (λ e. not (among written e.0)) es))
        → map {B = Pair} (λ t. (z, t, 1)) (cond (not b) (e.0 ∷ targets_behind written es) (targets_behind written es)) ≡ map lightened (map {B = Pair} (λ e. (z, e.0, e.1)) (cond (not b) (e ∷ filter (λ e. not (among written e.0)) es) (filter (λ e. not (among written e.0)) es)))
    by true later = later
    by false later = ap (λ ps. (z, e.0, 1) ∷ ps) later

links_are : (written : List Name) (rs : Adjacency) → row_links (rows_behind written rs) ≡ map lightened (edges_after written rs)
links_are written [] = refl
links_are written (r ∷ rs) =
    ap (λ ps. ps ++ row_links (rows_behind (r.0 ∷ written) rs)) (targets_are written r.0 r.1)
    ∙ ap (λ ps. map lightened (map {B = Pair} (λ e. (r.0, e.0, e.1)) (filter (λ e. not (among written e.0)) r.1)) ++ ps) (links_are (r.0 ∷ written) rs)
    ∙ sym (map-append lightened (map {B = Pair} (λ e. (r.0, e.0, e.1)) (filter (λ e. not (among written e.0)) r.1)) (edges_after (r.0 ∷ written) rs))

found-lightened : (x y : Name) (ps : List Pair) → found x y (map lightened ps) ≡ option_map (λ w. 1) (found x y ps)
found-lightened x y [] = refl
found-lightened x y (p ∷ ps) = ap (λ o. or_else o (cond (joins x y p) (Some 1) None)) (found-lightened x y ps) ∙ by (found x y ps) (joins x y p)
  where
    by : (o : Option ℕ) (b : Bool) → or_else (option_map (λ w. 1) o) (cond b (Some 1) None) ≡ option_map (λ w. 1) (or_else o (cond b (Some p.2) None))
    by (Some w) b = refl
    by None true = refl
    by None false = refl

-- ---- the names are the nodes

names_cover : (written : List Name) (rs : Adjacency) (x : Name) → among (names rs) x ≡ true → among (row_names (rows_behind written rs)) x ≡ true
names_cover written [] x h = cc
names_cover written (r ∷ rs) x h = by (bytes_eq x r.0) h (names_cover (r.0 ∷ written) rs x)
  where
    by : (b : Bool) → (b || among (names rs) x) ≡ true → (among (names rs) x ≡ true → among (row_names (rows_behind (r.0 ∷ written) rs)) x ≡ true)
        → (b || among (targets_behind written r.1 ++ row_names (rows_behind (r.0 ∷ written) rs)) x) ≡ true
    by true h later = refl
    by false h later =
        list_any-append (bytes_eq x) (targets_behind written r.1) (row_names (rows_behind (r.0 ∷ written) rs))
        ∙ ap (λ b. among (targets_behind written r.1) x || b) (later h) ∙ or-true (among (targets_behind written r.1) x)

module _ (g : Adjacency) (kept : IsGraph g) where
  rows_named : (written : List Name) (rs : Adjacency) → RowsAreOf g rs → list_all is_name (names rs) ≡ true → list_all is_row_of_names (rows_behind written rs) ≡ true
  rows_named written [] rows h = refl
  rows_named written (r ∷ rs) rows h =
      let a = and_parts (is_name r.0) (list_all is_name (names rs)) h in
      let targets : list_all is_name (targets_behind written r.1) ≡ true =
      all_kept is_name (λ y. not (among written y)) (keys_of r.1) (list_all-imp (has_node g) is_name (node_is_name g kept) (keys_of r.1) (row_neighbors g kept r rows.0)) in
      and_from _ _ (and_from _ _ a.0 targets) (rows_named (r.0 ∷ written) rs rows.1 a.1)

  names_nodes : (written : List Name) (rs : Adjacency) → RowsAreOf g rs → list_all (has_node g) (names rs) ≡ true → list_all (has_node g) (row_names (rows_behind written rs)) ≡ true
  names_nodes written [] rows h = refl
  names_nodes written (r ∷ rs) rows h =
      let a = and_parts (has_node g r.0) (list_all (has_node g) (names rs)) h in
      let targets : list_all (has_node g) (targets_behind written r.1) ≡ true = all_kept (has_node g) (λ y. not (among written y)) (keys_of r.1) (row_neighbors g kept r rows.0) in
      list_all-append (has_node g) (r.0 ∷ targets_behind written r.1) (row_names (rows_behind (r.0 ∷ written) rs)) ∙ and_from _ _ (and_from _ _ a.0 targets) (names_nodes (r.0 ∷ written) rs rows.1 a.1)

  pub adjlist_read : IsReadAsAdjlist g (adjlist_text g)
  adjlist_read =
      let rows = rows_behind [] g in
      let are = rows_of g kept.nodes_differ in
      let named : list_all is_row_of_names rows ≡ true = rows_named [] g are (node_names g kept) in
      let nodes : list_all (has_node g) (row_names rows) ≡ true = names_nodes [] g are (row_nodes g kept) in
      let split : lines (adjlist_text g) ≡ map line_of rows = ap lines (text_is [] g) ∙ lines_of_rows rows named in
      let ns : names_in (lines (adjlist_text g)) ≡ row_names rows = ap names_in split ∙ names_read rows named in
      let ps : pairs_in (lines (adjlist_text g)) ≡ map lightened (edges g) = ap pairs_in split ∙ pairs_read rows named ∙ links_are [] g in
      let few : length (row_links rows) ≡ length (edges g) = ap length (links_are [] g) ∙ length-map (edges g) lightened in
      let limit = kept.edge_limit in
      record {
        no_fault = ap (first_fault []) split ∙ rows_fit g kept.node_limit [] rows named tt refl nodes (omega arith);
        same_nodes = λ x.
            has_node-graph_of (names_in (lines (adjlist_text g))) (pairs_in (lines (adjlist_text g))) x ∙ ap (λ ns. among ns x) ns
            ∙ same_bool (among (row_names rows) x) (has_node g x) (among_holds (has_node g) (row_names rows) x nodes) (λ h. names_cover [] g x (sym (is_some-among g x) ∙ h));
        same_edges = λ x y.
            weight_of-graph_of (names_in (lines (adjlist_text g))) (pairs_in (lines (adjlist_text g))) x y (covered_lines [] (lines (adjlist_text g)) tt)
            ∙ ap (found x y) ps ∙ found-lightened x y (edges g) ∙ ap (option_map (λ w. 1)) (edges_found g kept x y);
      }

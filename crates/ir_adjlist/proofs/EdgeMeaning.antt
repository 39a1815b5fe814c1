-- What the reader of an edge list does to a graph is what the text means.
use Rattle.std.proofs.Common.{◌≡◌, ℕ, ◌+◌, Bool, true, false, not, cond, ◌||◌, ◌&&◌, List, [], ◌∷◌, ◌++◌, length, Option, Some, None, Ok, Err, refl, sym, ap, ◌∙◌, nat_lt, nat_le, bytes_eq}
use Rattle.std.specs.List.{list_all}
use Rattle.std.proofs.lemmas.List.{append_assoc, append-nil}
use Rattle.std.proofs.lemmas.Grind.{flat_map-append}
use Rattle.std.proofs.lemmas.Bool.{or_right}
use Rattle.ir_model.specs.declared.TheConstants.{MAX_NODES, MAX_EDGES, MAX_NAME_BYTES}
use Rattle.ir_model.specs.Graph.{Name, Adjacency, among, edges, with_node, with_edge}
use Rattle.ir_model.specs.Made.{Pair, graph_of}
use Rattle.ir_model.specs.Text.{lines, content, words, is_plain, nodes_pass, edges_pass}
use Rattle.ir_model.specs.declared.Fault.{Fault}
use Rattle.ir_model.specs.declared.Fault.TheVariants.{BadByte, BadName, TooManyNodes, TooManyEdges}
use Rattle.ir_model.proofs.Names.{bytes_eq-same}
use Rattle.ir_model.specs.Graph.{linked}
use Rattle.ir_model.proofs.Graphs.{each_row}
use Rattle.ir_model.proofs.MadeLemmas.{Covered, Covered-push, among-pushed, with_node-known, with_node-graph_of, with_edge-graph_of}
use Rattle.ir_model.specs.Edgelist.{spelled_weight, weighted, row_edges, edges_in, ends_of, graph_of_edges, limit_fault, weight_fault, ending_fault, edge_row_fault, edge_line_fault, first_edge_fault}
use Rattle.ir_adjlist.specs.Steps.{edge_run, weight_run, ending_run, edge_row_run, edge_line_run, text_run, Fails}
use Rattle.ir_adjlist.specs.Told.{Tells, told_at}
use Rattle.ir_adjlist.proofs.Reading.{or_graph, or_graph-cond, or_graph-ok, length-graph_of, lines_mean, told_by}

-- ---- the ends of pairs are among the ends

Covered-more : (x : Name) (ns : List Name) (pairs : List Pair) → Covered ns pairs → Covered (x ∷ ns) pairs
Covered-more x ns [] c = tt
Covered-more x ns (p ∷ pairs) c = ((or_right (bytes_eq p.0 x) (among ns p.0) c.0.0, or_right (bytes_eq p.1 x) (among ns p.1) c.0.1), Covered-more x ns pairs c.1)

pub Covered-ends : (pairs : List Pair) → Covered (ends_of pairs) pairs
Covered-ends [] = tt
Covered-ends (p ∷ pairs) =
    ((ap (λ b. b || (bytes_eq p.0 p.1 || among (ends_of pairs) p.0)) (bytes_eq-same p.0), second (bytes_eq p.1 p.0)), Covered-more p.0 (p.1 ∷ ends_of pairs) pairs (Covered-more p.1 (ends_of pairs) pairs (Covered-ends pairs)))
  where
    second : (a : Bool) → (a || (bytes_eq p.1 p.1 || among (ends_of pairs) p.1)) ≡ true
    second true = refl
    second false = ap (λ b. b || among (ends_of pairs) p.1) (bytes_eq-same p.1)

pub ends_of-push : (pairs : List Pair) (p : Pair) → (ends_of pairs ++ p.0 ∷ []) ++ p.1 ∷ [] ≡ ends_of (pairs ++ p ∷ [])
ends_of-push pairs p = append_assoc (ends_of pairs) (p.0 ∷ []) (p.1 ∷ []) ∙ sym (flat_map-append (λ (q : Pair). q.0 ∷ q.1 ∷ []) pairs (p ∷ []))

-- ---- one more pair is one more edge

module _ (pairs : List Pair) (u v : Name) where
  with_ends : with_node (with_node (graph_of_edges pairs) u) v ≡ graph_of ((ends_of pairs ++ u ∷ []) ++ v ∷ []) pairs
  with_ends =
      ap (λ g. with_node g v) (with_node-graph_of (ends_of pairs) pairs u (Covered-ends pairs))
      ∙ with_node-graph_of (ends_of pairs ++ u ∷ []) pairs v (Covered-push (ends_of pairs) u pairs (Covered-ends pairs))

  pub with_edge-graph_of_edges : (w : ℕ) → with_edge (graph_of_edges pairs) u v w ≡ graph_of_edges (pairs ++ (u, v, w) ∷ [])
  with_edge-graph_of_edges w =
      let first : with_node (graph_of_edges pairs) u ≡ graph_of (ends_of pairs ++ u ∷ []) pairs = with_node-graph_of (ends_of pairs) pairs u (Covered-ends pairs) in
      let known : with_node (graph_of (ends_of pairs ++ u ∷ []) pairs) u ≡ graph_of (ends_of pairs ++ u ∷ []) pairs = with_node-known (ends_of pairs ++ u ∷ []) pairs u (among-pushed (ends_of pairs) u) in
      ap (each_row (linked u v w)) (ap (λ g. with_node g v) (first ∙ sym known))
      ∙ with_edge-graph_of (ends_of pairs ++ u ∷ []) pairs u v w (Covered-push (ends_of pairs) u pairs (Covered-ends pairs)) (among-pushed (ends_of pairs) u)
      ∙ ap (λ ns. graph_of ns (pairs ++ (u, v, w) ∷ [])) (ends_of-push pairs (u, v, w))

  edge_means : (w : ℕ) → edge_run (graph_of_edges pairs) u v w ≡ or_graph (limit_fault (pairs ++ (u, v, w) ∷ [])) (graph_of_edges (pairs ++ (u, v, w) ∷ []))
  edge_means w =
      let p : Pair = (u, v, w) in
      ap (λ k. cond (nat_lt MAX_NODES k) (Err TooManyNodes) (cond (nat_lt MAX_EDGES (length (edges (with_edge (graph_of_edges pairs) u v w)))) (Err TooManyEdges) (Ok (with_edge (graph_of_edges pairs) u v w))))
      (ap length with_ends ∙ length-graph_of ((ends_of pairs ++ u ∷ []) ++ v ∷ []) pairs)
      ∙ ap (λ ns. cond (nodes_pass ns) (Err TooManyNodes) (cond (nat_lt MAX_EDGES (length (edges (with_edge (graph_of_edges pairs) u v w)))) (Err TooManyEdges) (Ok (with_edge (graph_of_edges pairs) u v w)))) (ends_of-push pairs p)
      ∙ ap (λ g. cond (nodes_pass (ends_of (pairs ++ p ∷ []))) (Err TooManyNodes) (cond (nat_lt MAX_EDGES (length (edges g))) (Err TooManyEdges) (Ok g))) (with_edge-graph_of_edges w)
      ∙ ap (cond (nodes_pass (ends_of (pairs ++ p ∷ []))) (Err TooManyNodes)) (or_graph-cond (edges_pass (ends_of (pairs ++ p ∷ [])) (pairs ++ p ∷ [])) TooManyEdges None (graph_of_edges (pairs ++ p ∷ [])))
      ∙ or_graph-cond (nodes_pass (ends_of (pairs ++ p ∷ []))) TooManyNodes _ _

  weight_means : (o : Option ℕ) → weight_run (graph_of_edges pairs) u v o ≡ or_graph (weight_fault pairs u v o) (graph_of_edges (pairs ++ weighted u v o))
  weight_means None = refl
  weight_means (Some w) = edge_means w

  ending_means : (ws : List Name) → ending_run (graph_of_edges pairs) u v ws ≡ or_graph (ending_fault pairs u v ws) (graph_of_edges (pairs ++ row_edges (u ∷ v ∷ ws)))
  ending_means [] = refl
  ending_means (word ∷ []) = weight_means (spelled_weight word)
  ending_means (word ∷ more ∷ ws) = refl

row_means : (pairs : List Pair) (ws : List Name) → edge_row_run (graph_of_edges pairs) ws ≡ or_graph (edge_row_fault pairs ws) (graph_of_edges (pairs ++ row_edges ws))
row_means pairs [] = ap (λ ps. Ok (graph_of_edges ps)) (sym (append-nil pairs))
row_means pairs (u ∷ []) = ap (λ ps. Ok (graph_of_edges ps)) (sym (append-nil pairs))
row_means pairs (u ∷ v ∷ ws) =
    ap (cond (not (nat_le (length u) MAX_NAME_BYTES && nat_le (length v) MAX_NAME_BYTES)) (Err BadName)) (ending_means pairs u v ws)
    ∙ or_graph-cond (not (nat_le (length u) MAX_NAME_BYTES && nat_le (length v) MAX_NAME_BYTES)) BadName _ _

-- ---- lines

-- the graph of lines
abbrev pub edge_graph_in : List (List ℕ) → Adjacency
edge_graph_in ls = graph_of_edges (edges_in ls)

pub edges_in-push : (ls : List (List ℕ)) (l : List ℕ) → edges_in (ls ++ l ∷ []) ≡ edges_in ls ++ row_edges (words l)
edges_in-push ls l = flat_map-append (λ l. row_edges (words l)) ls (l ∷ []) ∙ ap (λ t. edges_in ls ++ t) (append-nil (row_edges (words l)))

line_means : (before : List (List ℕ)) (l : List ℕ) → Unit {0} → edge_line_run (edge_graph_in before) l ≡ or_graph (edge_line_fault before l) (edge_graph_in (before ++ l ∷ []))
line_means before l c =
    ap (cond (not (list_all is_plain (content l))) (Err BadByte)) (row_means (edges_in before) (words l))
    ∙ or_graph-cond (not (list_all is_plain (content l))) BadByte _ _
    ∙ ap (λ ps. or_graph (edge_line_fault before l) (graph_of_edges ps)) (sym (edges_in-push before l))

text_means : (ls : List (List ℕ)) → text_run edge_line_run 0 [] ls ≡ or_graph (first_edge_fault ls) (edge_graph_in ls)
text_means ls = lines_mean edge_line_run edge_line_fault edge_graph_in (λ ls. Unit {0}) (λ ls l u. tt) line_means [] ls tt

pub parsed : (ls : List (List ℕ)) (g : Adjacency) → text_run edge_line_run 0 [] ls ≡ Ok g → (first_edge_fault ls ≡ None) × (g ≡ edge_graph_in ls)
parsed ls g e = or_graph-ok (first_edge_fault ls) (edge_graph_in ls) g (sym (text_means ls) ∙ e)

pub line_told : (text rest after current : List ℕ) (n line : ℕ) (g : Adjacency) (kind : Fault) → text_run edge_line_run 0 [] (lines text) ≡ text_run edge_line_run n g (lines rest) → lines rest ≡ current ∷ lines after → n + 1 ≡ line → Fails kind (edge_line_run g current)
    → Tells (told_at line kind) (first_edge_fault (lines text))
line_told text rest after current n line g kind same split e h = told_by edge_line_run (first_edge_fault (lines text)) (edge_graph_in (lines text)) (lines rest) (lines after) current n line g kind (sym (text_means (lines text)) ∙ same) split e h

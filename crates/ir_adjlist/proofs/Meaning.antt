-- What the reader does to a graph is what the text means.
use Rattle.std.proofs.Common.{◌≡◌, ℕ, ◌+◌, true, not, cond, List, [], ◌∷◌, ◌++◌, map, length, None, Ok, Err, refl, sym, ap, subst, ◌∙◌, nat_lt, nat_le}
use Rattle.std.specs.List.{list_all}
use Rattle.std.proofs.lemmas.List.{append_assoc, append-nil}
use Rattle.std.proofs.lemmas.Grind.{flat_map-append}
use Rattle.ir_model.specs.declared.TheConstants.{MAX_NODES, MAX_EDGES, MAX_NAME_BYTES}
use Rattle.ir_model.specs.Graph.{Name, Adjacency, among, edges, with_node, with_edge}
use Rattle.ir_model.specs.Made.{Pair, graph_of}
use Rattle.ir_model.specs.Text.{lines, content, words, is_plain, row_pairs, names_in, pairs_in, nodes_pass, edges_pass, targets_fault, row_fault, line_fault, or_later, first_fault}
use Rattle.ir_model.specs.declared.Fault.{Fault}
use Rattle.ir_model.specs.declared.Fault.TheVariants.{BadByte, BadName, TooManyNodes, TooManyEdges}
use Rattle.ir_model.proofs.MadeLemmas.{Covered, Covered-push, Covered-pair, among-pushed, among-push, with_node-known, with_node-graph_of, with_edge-graph_of}
use Rattle.ir_adjlist.specs.Steps.{targets_run, row_run, line_run, text_run, Fails}
use Rattle.ir_adjlist.specs.Told.{Tells, told_at}
use Rattle.ir_model.specs.Edgelist.{first_fault_by}
use Rattle.ir_adjlist.proofs.Reading.{or_graph, or_graph-cond, length-graph_of, lines_mean, or_graph-ok, told_by}

abbrev pub linked_to : Name → List Name → List Pair
linked_to s ts = map (λ t. (s, t, 1)) ts

targets_mean : (ns : List Name) (pairs : List Pair) (s : Name) (ts : List Name) → Covered ns pairs → among ns s ≡ true
    → targets_run (graph_of ns pairs) s ts ≡ or_graph (targets_fault ns pairs s ts) (graph_of (ns ++ ts) (pairs ++ linked_to s ts))
targets_mean ns pairs s [] c h = ap Ok (sym (ap (λ m. graph_of m (pairs ++ [])) (append-nil ns) ∙ ap (graph_of ns) (append-nil pairs)))
targets_mean ns pairs s (t ∷ ts) c h =
    let edge : with_edge (graph_of ns pairs) s t 1 ≡ graph_of (ns ++ t ∷ []) (pairs ++ (s, t, 1) ∷ []) = with_edge-graph_of ns pairs s t 1 c h in
    let nodes : with_node (with_node (graph_of ns pairs) s) t ≡ graph_of (ns ++ t ∷ []) pairs = ap (λ g. with_node g t) (with_node-known ns pairs s h) ∙ with_node-graph_of ns pairs t c in
    let known : among (ns ++ t ∷ []) s ≡ true = among-push ns t s h in
    let later = targets_mean (ns ++ t ∷ []) (pairs ++ (s, t, 1) ∷ []) s ts (Covered-pair (ns ++ t ∷ []) pairs (s, t, 1) (Covered-push ns t pairs c) known (among-pushed ns t)) known in
    ap (λ k. cond (nat_lt MAX_NODES k) (Err TooManyNodes) (cond (nat_lt MAX_EDGES (length (edges (with_edge (graph_of ns pairs) s t 1)))) (Err TooManyEdges) (targets_run (with_edge (graph_of ns pairs) s t 1) s ts)))
    (ap length nodes ∙ length-graph_of (ns ++ t ∷ []) pairs)
    ∙ ap (λ g. cond (nodes_pass (ns ++ t ∷ [])) (Err TooManyNodes) (cond (nat_lt MAX_EDGES (length (edges g))) (Err TooManyEdges) (targets_run g s ts))) edge
    ∙ ap (λ r. cond (nodes_pass (ns ++ t ∷ [])) (Err TooManyNodes) (cond (edges_pass (ns ++ t ∷ []) (pairs ++ (s, t, 1) ∷ [])) (Err TooManyEdges) r)) later
    ∙ ap (cond (nodes_pass (ns ++ t ∷ [])) (Err TooManyNodes)) (or_graph-cond (edges_pass (ns ++ t ∷ []) (pairs ++ (s, t, 1) ∷ [])) TooManyEdges (targets_fault (ns ++ t ∷ []) (pairs ++ (s, t, 1) ∷ []) s ts) (graph_of ((ns ++ t ∷ []) ++ ts) ((pairs ++ (s, t, 1) ∷ []) ++ linked_to s ts)))
    ∙ or_graph-cond (nodes_pass (ns ++ t ∷ [])) TooManyNodes _ _
    ∙ ap (or_graph (targets_fault ns pairs s (t ∷ ts))) (ap (λ m. graph_of m ((pairs ++ (s, t, 1) ∷ []) ++ linked_to s ts)) (append_assoc ns (t ∷ []) ts) ∙ ap (graph_of (ns ++ t ∷ ts)) (append_assoc pairs ((s, t, 1) ∷ []) (linked_to s ts)))

row_mean : (ns : List Name) (pairs : List Pair) (ws : List Name) → Covered ns pairs → row_run (graph_of ns pairs) ws ≡ or_graph (row_fault ns pairs ws) (graph_of (ns ++ ws) (pairs ++ row_pairs ws))
row_mean ns pairs [] c = ap Ok (sym (ap (λ m. graph_of m (pairs ++ [])) (append-nil ns) ∙ ap (graph_of ns) (append-nil pairs)))
row_mean ns pairs (s ∷ ts) c =
    let node : with_node (graph_of ns pairs) s ≡ graph_of (ns ++ s ∷ []) pairs = with_node-graph_of ns pairs s c in
    ap (λ g. cond (nat_lt MAX_NODES (length g)) (Err TooManyNodes) (targets_run g s ts)) node
    ∙ ap (λ k. cond (nat_lt MAX_NODES k) (Err TooManyNodes) (targets_run (graph_of (ns ++ s ∷ []) pairs) s ts)) (length-graph_of (ns ++ s ∷ []) pairs)
    ∙ ap (cond (nodes_pass (ns ++ s ∷ [])) (Err TooManyNodes)) (targets_mean (ns ++ s ∷ []) pairs s ts (Covered-push ns s pairs c) (among-pushed ns s))
    ∙ or_graph-cond (nodes_pass (ns ++ s ∷ [])) TooManyNodes _ _
    ∙ ap (or_graph (row_fault ns pairs (s ∷ ts))) (ap (λ m. graph_of m (pairs ++ linked_to s ts)) (append_assoc ns (s ∷ []) ts))

-- ---- lines

abbrev pub CoveredIn : List (List ℕ) → Type 0
CoveredIn ls = Covered (names_in ls) (pairs_in ls)

pub names_in-push : (ls : List (List ℕ)) (l : List ℕ) → names_in (ls ++ l ∷ []) ≡ names_in ls ++ words l
names_in-push ls l = flat_map-append words ls (l ∷ []) ∙ ap (λ t. names_in ls ++ t) (append-nil (words l))

pub pairs_in-push : (ls : List (List ℕ)) (l : List ℕ) → pairs_in (ls ++ l ∷ []) ≡ pairs_in ls ++ row_pairs (words l)
pairs_in-push ls l = flat_map-append (λ l. row_pairs (words l)) ls (l ∷ []) ∙ ap (λ t. pairs_in ls ++ t) (append-nil (row_pairs (words l)))

Covered-targets : (ns : List Name) (pairs : List Pair) (s : Name) (ts : List Name) → Covered ns pairs → among ns s ≡ true → Covered (ns ++ ts) (pairs ++ linked_to s ts)
Covered-targets ns pairs s [] c h = subst (λ m. Covered m (pairs ++ [])) (sym (append-nil ns)) (subst (Covered ns) (sym (append-nil pairs)) c)
Covered-targets ns pairs s (t ∷ ts) c h =
    let known : among (ns ++ t ∷ []) s ≡ true = among-push ns t s h in
    let later = Covered-targets (ns ++ t ∷ []) (pairs ++ (s, t, 1) ∷ []) s ts (Covered-pair (ns ++ t ∷ []) pairs (s, t, 1) (Covered-push ns t pairs c) known (among-pushed ns t)) known in
    subst (λ m. Covered m (pairs ++ linked_to s (t ∷ ts))) (append_assoc ns (t ∷ []) ts) (subst (Covered ((ns ++ t ∷ []) ++ ts)) (append_assoc pairs ((s, t, 1) ∷ []) (linked_to s ts)) later)

Covered-row : (ns : List Name) (pairs : List Pair) (ws : List Name) → Covered ns pairs → Covered (ns ++ ws) (pairs ++ row_pairs ws)
Covered-row ns pairs [] c = subst (λ m. Covered m (pairs ++ [])) (sym (append-nil ns)) (subst (Covered ns) (sym (append-nil pairs)) c)
Covered-row ns pairs (s ∷ ts) c = subst (λ m. Covered m (pairs ++ linked_to s ts)) (append_assoc ns (s ∷ []) ts) (Covered-targets (ns ++ s ∷ []) pairs s ts (Covered-push ns s pairs c) (among-pushed ns s))

pub CoveredIn-push : (ls : List (List ℕ)) (l : List ℕ) → CoveredIn ls → CoveredIn (ls ++ l ∷ [])
CoveredIn-push ls l c = subst (λ m. Covered m (pairs_in (ls ++ l ∷ []))) (sym (names_in-push ls l)) (subst (Covered (names_in ls ++ words l)) (sym (pairs_in-push ls l)) (Covered-row (names_in ls) (pairs_in ls) (words l) c))

-- the graph of lines
abbrev pub graph_in : List (List ℕ) → Adjacency
graph_in ls = graph_of (names_in ls) (pairs_in ls)

line_mean : (before : List (List ℕ)) (l : List ℕ) → CoveredIn before → line_run (graph_in before) l ≡ or_graph (line_fault before l) (graph_in (before ++ l ∷ []))
line_mean before l c =
    ap (λ r. cond (not (list_all is_plain (content l))) (Err BadByte) (cond (not (list_all (λ (w : Name). nat_le (length w) MAX_NAME_BYTES) (words l))) (Err BadName) r)) (row_mean (names_in before) (pairs_in before) (words l) c)
    ∙ ap (cond (not (list_all is_plain (content l))) (Err BadByte)) (or_graph-cond (not (list_all (λ (w : Name). nat_le (length w) MAX_NAME_BYTES) (words l))) BadName _ _)
    ∙ or_graph-cond (not (list_all is_plain (content l))) BadByte _ _
    ∙ ap (or_graph (line_fault before l)) (sym (ap (λ m. graph_of m (pairs_in (before ++ l ∷ []))) (names_in-push before l) ∙ ap (graph_of (names_in before ++ words l)) (pairs_in-push before l)))

by_line : (before ls : List (List ℕ)) → first_fault_by line_fault before ls ≡ first_fault before ls
by_line before [] = refl
by_line before (l ∷ ls) = ap (or_later (length before + 1) (line_fault before l)) (by_line (before ++ l ∷ []) ls)

text_means : (ls : List (List ℕ)) → text_run line_run 0 [] ls ≡ or_graph (first_fault [] ls) (graph_in ls)
text_means ls = lines_mean line_run line_fault graph_in CoveredIn CoveredIn-push line_mean [] ls tt ∙ ap (λ f. or_graph f (graph_in ls)) (by_line [] ls)

pub parsed : (ls : List (List ℕ)) (g : Adjacency) → text_run line_run 0 [] ls ≡ Ok g → (first_fault [] ls ≡ None) × (g ≡ graph_in ls)
parsed ls g e = or_graph-ok (first_fault [] ls) (graph_in ls) g (sym (text_means ls) ∙ e)

pub line_told : (text rest after current : List ℕ) (n line : ℕ) (g : Adjacency) (kind : Fault) → text_run line_run 0 [] (lines text) ≡ text_run line_run n g (lines rest) → lines rest ≡ current ∷ lines after → n + 1 ≡ line → Fails kind (line_run g current)
    → Tells (told_at line kind) (first_fault [] (lines text))
line_told text rest after current n line g kind same split e h = told_by line_run (first_fault [] (lines text)) (graph_in (lines text)) (lines rest) (lines after) current n line g kind (sym (text_means (lines text)) ∙ same) split e h

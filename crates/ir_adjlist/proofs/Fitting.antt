-- The graph of few names and few pairs keeps to the limits.
use Rattle.std.proofs.Common.{◌≡◌, ◌<◌, ◌≤◌, ◌+◌, ℕ, Bool, true, false, not, cond, ◌||◌, List, [], ◌∷◌, ◌++◌, map, filter, length, Option, Some, None, is_some, refl, sym, ap, subst, ◌∙◌, arith, bytes_eq, length-append, append_assoc, append-nil}
use Rattle.std.specs.List.{list_all, AllByRecursion, IsDistinct}
use Rattle.std.specs.Map.{keys_of}
use Rattle.std.proofs.lemmas.Map.Keys.{IsDistinct-head, IsDistinct-tail}
use Rattle.std.proofs.lemmas.Map.Views.{any-filter_same}
use Rattle.std.proofs.lemmas.Bool.{and_parts, and_from, le-ltb}
use Rattle.std.proofs.lemmas.List.{length-map}
use Rattle.ir_model.specs.declared.TheConstants.{MAX_NODES, MAX_EDGES}
use Rattle.ir_model.specs.Graph.{Name, Neighbors, Adjacency, names, among, has_node, weight_of, edges, edges_after, with_edge}
use Rattle.ir_model.specs.Made.{Pair, distinct, neighbors_in, graph_of}
use Rattle.ir_model.specs.Text.{nodes_pass, edges_pass}
use Rattle.ir_model.proofs.Names.{same_names}
use Rattle.ir_model.proofs.MadeLemmas.{Covered, Covered-pair, distinct-push, IsDistinct-distinct, with_edge-graph_of}
use Rattle.ir_graph.proofs.Keeping.{length-edges-new, length-edges-old}
use Rattle.ir_adjlist.proofs.Found.{found-swap, weight_of-graph_of}
use Rattle.ir_adjlist.proofs.EdgesFound.{all_and, is_some-among}
use Rattle.ir_adjlist.proofs.Sound.{all_kept}

-- ---- different names among others are no more than these

length-filter-le : (p : Name → Bool) (ks : List Name) → length (filter p ks) ≤ length ks
length-filter-le p [] = omega arith
length-filter-le p (k ∷ ks) = elim (p k) as (λ b. length (cond b (k ∷ filter p ks) (filter p ks)) ≤ length (k ∷ ks)) [ true ↦ omega (arith, length-filter-le p ks) | false ↦ omega (arith, length-filter-le p ks) ]

one_fewer : (d : Name) (ks : List Name) → among ks d ≡ true → length (filter (λ k. not (bytes_eq d k)) ks) < length ks
one_fewer d [] h = cc
one_fewer d (k ∷ ks) h = by (bytes_eq d k) h (one_fewer d ks)
  where
    by : (b : Bool) → (b || among ks d) ≡ true → (among ks d ≡ true → length (filter (λ k. not (bytes_eq d k)) ks) < length ks) → length (cond (not b) (k ∷ filter (λ k. not (bytes_eq d k)) ks) (filter (λ k. not (bytes_eq d k)) ks)) < length (k ∷ ks)
    by true h later = omega (arith, length-filter-le (λ k. not (bytes_eq d k)) ks)
    by false h later = omega (arith, later h)

still_among : (d x : Name) (ks : List Name) → bytes_eq d x ≡ false → among ks x ≡ true → among (filter (λ k. not (bytes_eq d k)) ks) x ≡ true
still_among d x ks e h = any-filter_same (bytes_eq x) (λ k. not (bytes_eq d k)) true (λ k t. ap not (ap (bytes_eq d) (sym (same_names x k t)) ∙ e)) ks ∙ h

pub no_more_names : (ds ks : List Name) → IsDistinct bytes_eq ds → AllByRecursion (λ d. among ks d ≡ true) ds → length ds ≤ length ks
no_more_names [] ks d h = omega arith
no_more_names (x ∷ ds) ks d h =
    let rest = no_more_names ds (filter (λ k. not (bytes_eq x k)) ks) (IsDistinct-tail bytes_eq x ds d)
    (all_and (λ y. bytes_eq x y ≡ false) (λ y. among ks y ≡ true) (λ y. among (filter (λ k. not (bytes_eq x k)) ks) y ≡ true) (λ y a b. still_among x y ks a b) ds (IsDistinct-head bytes_eq x ds d) h.1) in
    omega (arith, rest, one_fewer x ks h.0)

-- ---- nodes

module _ (p : Name → Bool) where
  all_distinct : (ks : List Name) → list_all p ks ≡ true → list_all p (distinct ks) ≡ true
  all_distinct [] h = refl
  all_distinct (k ∷ ks) h = let a = and_parts (p k) (list_all p ks) h in and_from _ _ a.0 (all_kept p (λ y. not (bytes_eq k y)) (distinct ks) (all_distinct ks a.1))

all_among : (g : Adjacency) (ks : List Name) → list_all (has_node g) ks ≡ true → AllByRecursion (λ k. among (names g) k ≡ true) ks
all_among g [] h = tt
all_among g (k ∷ ks) h = let a = and_parts (has_node g k) (list_all (has_node g) ks) h in (sym (is_some-among g k) ∙ a.0, all_among g ks a.1)

-- names of nodes are no more than the nodes
pub nodes_fit : (g : Adjacency) (ns : List Name) → length g ≤ MAX_NODES → list_all (has_node g) ns ≡ true → nodes_pass ns ≡ false
nodes_fit g ns few h =
    let le : length (distinct ns) ≤ length (names g) = no_more_names (distinct ns) (names g) (IsDistinct-distinct ns) (all_among g (distinct ns) (all_distinct (has_node g) ns h)) in
    le-ltb MAX_NODES (length (distinct ns)) (omega (arith, le, length-map g (λ (r : Name × Neighbors). r.0)))

-- ---- edges

no_edges : (walked ds : List Name) → edges_after walked (map {B = Name × Neighbors} (λ x. (x, neighbors_in [] x)) ds) ≡ []
no_edges walked [] = refl
no_edges walked (d ∷ ds) = no_edges (d ∷ walked) ds

names-table : (f : Name → Neighbors) (ds : List Name) → keys_of (map {B = Name × Neighbors} (λ x. (x, f x)) ds) ≡ ds
names-table f [] = refl
names-table f (d ∷ ds) = ap (λ t. d ∷ t) (names-table f ds)

one_pair : (ns : List Name) (ps : List Pair) (p : Pair) → Covered ns ps → among ns p.0 ≡ true → among ns p.1 ≡ true → length (edges (graph_of ns (ps ++ p ∷ []))) ≤ length (edges (graph_of ns ps)) + 1
one_pair ns ps p c a b =
    let g = graph_of ns ps in
    let made : with_edge g p.0 p.1 p.2 ≡ graph_of ns (ps ++ p ∷ []) =
    with_edge-graph_of ns ps p.0 p.1 p.2 c a ∙ ap (map {B = Name × Neighbors} (λ x. (x, neighbors_in (ps ++ p ∷ []) x))) (distinct-push ns p.1 ∙ ap (λ t. cond t (distinct ns) (distinct ns ++ p.1 ∷ [])) b) in
    let differ : IsDistinct bytes_eq (names g) = subst (IsDistinct bytes_eq) (sym (names-table (neighbors_in ps) (distinct ns))) (IsDistinct-distinct ns) in
    subst (λ h. length (edges h) ≤ length (edges g) + 1) made (by differ (weight_of g p.0 p.1) refl)
  where
    ways : (x y : Name) → weight_of (graph_of ns ps) x y ≡ weight_of (graph_of ns ps) y x
    ways x y = weight_of-graph_of ns ps x y c ∙ found-swap x y ps ∙ sym (weight_of-graph_of ns ps y x c)

    by : IsDistinct bytes_eq (names (graph_of ns ps)) → (o : Option ℕ) → weight_of (graph_of ns ps) p.0 p.1 ≡ o → length (edges (with_edge (graph_of ns ps) p.0 p.1 p.2)) ≤ length (edges (graph_of ns ps)) + 1
    by differ None e = omega (arith, length-edges-new (graph_of ns ps) p.0 p.1 p.2 differ ways e)
    by differ (Some w) e = omega (arith, length-edges-old (graph_of ns ps) p.0 p.1 p.2 differ ways (ap is_some e))

more_pairs : (ns : List Name) (qs ps : List Pair) → Covered ns ps → Covered ns qs → length (edges (graph_of ns ps)) ≤ length ps → length (edges (graph_of ns (ps ++ qs))) ≤ length (ps ++ qs)
more_pairs ns [] ps c d h = subst (λ t. length (edges (graph_of ns t)) ≤ length t) (sym (append-nil ps)) h
more_pairs ns (q ∷ qs) ps c d h =
    let one : length (edges (graph_of ns (ps ++ q ∷ []))) ≤ length (ps ++ q ∷ []) = omega (arith, h, one_pair ns ps q c d.0.0 d.0.1, length-append ps (q ∷ [])) in
    subst (λ t. length (edges (graph_of ns t)) ≤ length t) (append_assoc ps (q ∷ []) qs) (more_pairs ns qs (ps ++ q ∷ []) (Covered-pair ns ps q c d.0.0 d.0.1) d.1 one)

-- the graph of pairs has no more edges than pairs
pub edges_fit : (ns : List Name) (ps : List Pair) → Covered ns ps → length ps ≤ MAX_EDGES → edges_pass ns ps ≡ false
edges_fit ns ps c few =
    let none : length (edges (graph_of ns [])) ≤ 0 = omega (arith, ap length (no_edges [] (distinct ns))) in
    let le : length (edges (graph_of ns ps)) ≤ length ps = more_pairs ns ps [] tt c none in
    le-ltb MAX_EDGES (length (edges (graph_of ns ps))) (omega arith)

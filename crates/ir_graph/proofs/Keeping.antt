-- What is true of each graph stays true.
use Rattle.std.proofs.Common.{◌≡◌, ◌<◌, ◌≤◌, ◌+◌, ℕ, Bool, true, false, not, cond, ◌||◌, ◌&&◌, List, [], ◌∷◌, ◌++◌, map, filter, length, Option, Some, None, is_some, option_map, unwrap_or, refl, sym, ap, subst, ◌∙◌, bytes_eq, true≢false, arith, length-append, nat_lt}
use Rattle.std.specs.Map.{lookup, keys_of}
use Rattle.std.specs.List.{AllByRecursion, IsDistinct, list_all}
use Rattle.std.proofs.lemmas.List.{length-map, map-append}
use Rattle.std.specs.Cmp.Lexicographic.{nat_list_eq_equiv}
use Rattle.std.proofs.lemmas.Map.Keys.{IsDistinct-head, IsDistinct-tail, IsDistinct-push, IsDistinct-cons}
use Rattle.std.proofs.lemmas.Option.{none-some}
use Rattle.std.proofs.lemmas.Bool.{and_parts, and_from, or_right, le-ltb, lt-ltb}
use Rattle.ir_model.specs.Graph.{Name, Neighbors, Adjacency, names, among, neighbors, weight_of, has_node, edges, edges_after, put, linked, with_node, with_edge, is_name, is_weight, is_row, IsGraph}
use Rattle.ir_model.proofs.Names.{same_names, bytes_eq-same, bytes_eq-swap}
use Rattle.ir_model.proofs.Graphs.{each_row, neighbors-with_node, has_node-with_node, both_ways-linked, lookup-each_row}
use Rattle.ir_model.specs.declared.TheConstants.{MAX_NODES, MAX_EDGES}
use Rattle.ir_graph.specs.Kept.{IsKept}
use Rattle.ir_graph.specs.Faults.{edge_fault}
use Rattle.ir_graph.specs.declared.error.GraphError.TheVariants.{TooManyEdges}
use Rattle.ir_graph.proofs.Places.{among-has_node}
use Rattle.ir_graph.proofs.Joined.{with_edge-there, has_node-weight_of}

-- ---- a new node

edges_after-push : (walked : List Name) (g : Adjacency) (x : Name) → edges_after walked (g ++ (x, []) ∷ []) ≡ edges_after walked g
edges_after-push walked [] x = refl
edges_after-push walked (r ∷ rs) x = ap (λ t. map (λ e. (r.0, e.0, e.1)) (filter (λ e. not (among walked e.0)) r.1) ++ t) (edges_after-push (r.0 ∷ walked) rs x)

pub edges-with_node : (g : Adjacency) (x : Name) → edges (with_node g x) ≡ edges g
edges-with_node g x = elim (has_node g x) as (λ b. edges (cond b g (g ++ (x, []) ∷ [])) ≡ edges g) [ true ↦ refl | false ↦ edges_after-push [] g x ]

list_all-push : {X : Type 0} (p : X → Bool) (xs : List X) (x : X) → list_all p xs ≡ true → p x ≡ true → list_all p (xs ++ x ∷ []) ≡ true
list_all-push p [] x h hx = and_from _ _ hx refl
list_all-push p (y ∷ ys) x h hx = let b = and_parts _ _ h in and_from _ _ b.0 (list_all-push p ys x b.1 hx)

rows-with_node : (g : Adjacency) (x : Name) → is_name x ≡ true → list_all is_row g ≡ true → list_all is_row (with_node g x) ≡ true
rows-with_node g x hx h = elim (has_node g x) as (λ b. list_all is_row (cond b g (g ++ (x, []) ∷ [])) ≡ true) [ true ↦ h | false ↦ list_all-push is_row g (x, []) h (and_from _ _ hx refl) ]

both_ways-with_node : (g : Adjacency) (x : Name) → ((a b : Name) → weight_of g a b ≡ weight_of g b a) → (a b : Name) → weight_of (with_node g x) a b ≡ weight_of (with_node g x) b a
both_ways-with_node g x h a b = ap (lookup (bytes_eq b)) (neighbors-with_node g x a) ∙ h a b ∙ sym (ap (lookup (bytes_eq a)) (neighbors-with_node g x b))

-- ---- neighbours differ

all_put : (x y : Name) (w : ℕ) (es : Neighbors) → AllByRecursion (λ k. bytes_eq x k ≡ false) (keys_of es) → bytes_eq x y ≡ false → AllByRecursion (λ k. bytes_eq x k ≡ false) (keys_of (put es y w))
all_put x y w [] h a = (a, tt)
all_put x y w (e ∷ es) h a = elim (bytes_eq y e.0) as (λ b. AllByRecursion (λ k. bytes_eq x k ≡ false) (keys_of {K = Name} {X = ℕ} (cond b ((e.0, w) ∷ es) (e ∷ put es y w)))) [ true ↦ h | false ↦ (h.0, all_put x y w es h.1 a) ]

IsDistinct-put : (es : Neighbors) (y : Name) (w : ℕ) → IsDistinct bytes_eq (keys_of es) → IsDistinct bytes_eq (keys_of (put es y w))
IsDistinct-put [] y w h = IsDistinct-cons bytes_eq y [] tt h
IsDistinct-put (e ∷ es) y w h = by (IsDistinct-put es y w (IsDistinct-tail bytes_eq e.0 (keys_of es) h)) (bytes_eq y e.0) refl
  where
    by : IsDistinct bytes_eq (keys_of (put es y w)) → (b : Bool) → bytes_eq y e.0 ≡ b → IsDistinct bytes_eq (keys_of {K = Name} {X = ℕ} (cond b ((e.0, w) ∷ es) (e ∷ put es y w)))
    by later true t = h
    by later false t = IsDistinct-cons bytes_eq e.0 (keys_of (put es y w)) (all_put e.0 y w es (IsDistinct-head bytes_eq e.0 (keys_of es) h) (bytes_eq-swap e.0 y ∙ t)) later

IsDistinct-linked : (u v : Name) (w : ℕ) (x : Name) (es : Neighbors) → IsDistinct bytes_eq (keys_of es) → IsDistinct bytes_eq (keys_of (linked u v w x es))
IsDistinct-linked u v w x es h = by (bytes_eq x u) (bytes_eq x v)
  where
    by : (p q : Bool) → IsDistinct bytes_eq (keys_of (cond p (put es v w) (cond q (put es u w) es)))
    by true q = IsDistinct-put es v w h
    by false true = IsDistinct-put es u w h
    by false false = h

pub differ-each_row : (f : Name → Neighbors → Neighbors) (g : Adjacency) → ((x : Name) (es : Neighbors) → IsDistinct bytes_eq (keys_of es) → IsDistinct bytes_eq (keys_of (f x es)))
    → ((x : Name) → IsDistinct bytes_eq (keys_of (neighbors g x))) → (x : Name) → IsDistinct bytes_eq (keys_of (neighbors (each_row f g) x))
differ-each_row f g keeps h x = subst (λ o. IsDistinct bytes_eq (keys_of (unwrap_or o []))) (sym (lookup-each_row f g x)) (by (lookup (bytes_eq x) g) (h x))
  where
    by : (o : Option Neighbors) → IsDistinct bytes_eq (keys_of (unwrap_or o [])) → IsDistinct bytes_eq (keys_of (unwrap_or (option_map (f x) o) []))
    by None d = d
    by (Some es) d = keeps x es d

differ-with_node : (g : Adjacency) (y : Name) → ((x : Name) → IsDistinct bytes_eq (keys_of (neighbors g x))) → (x : Name) → IsDistinct bytes_eq (keys_of (neighbors (with_node g y) x))
differ-with_node g y h x = subst (λ es. IsDistinct bytes_eq (keys_of es)) (sym (neighbors-with_node g y x)) (h x)

pub kept-with_node : (g : Adjacency) (n : ℕ) (x : Name) → is_name x ≡ true → length (with_node g x) ≤ MAX_NODES → IsKept g n → IsKept (with_node g x) n
kept-with_node g n x hx room kept = record {
  both_ways = both_ways-with_node g x kept.both_ways;
  neighbors_differ = differ-with_node g x kept.neighbors_differ;
  rows = rows-with_node g x hx kept.rows;
  node_limit = room;
  counted = kept.counted ∙ sym (ap length (edges-with_node g x));
  edge_limit = kept.edge_limit;
}

-- ---- a link

weights-put : (es : Neighbors) (y : Name) (w : ℕ) → is_weight w ≡ true → list_all (λ (e : Name × ℕ). is_weight e.1) es ≡ true → list_all (λ (e : Name × ℕ). is_weight e.1) (put es y w) ≡ true
weights-put [] y w hw h = and_from _ _ hw refl
weights-put (e ∷ es) y w hw h = let b = and_parts (is_weight e.1) (list_all (λ (e : Name × ℕ). is_weight e.1) es) h in
    elim (bytes_eq y e.0) as (λ c. list_all (λ (e : Name × ℕ). is_weight e.1) (cond c ((e.0, w) ∷ es) (e ∷ put es y w)) ≡ true) [ true ↦ and_from _ _ hw b.1 | false ↦ and_from _ _ b.0 (weights-put es y w hw b.1) ]

module _ (u v : Name) (w : ℕ) where
  rows-linked : is_weight w ≡ true → (g : Adjacency) → list_all is_row g ≡ true → list_all is_row (each_row (linked u v w) g) ≡ true
  rows-linked hw [] h = refl
  rows-linked hw (r ∷ rs) h =
      let b = and_parts (is_row r) (list_all is_row rs) h in
      let n = and_parts (is_name r.0) (list_all (λ (e : Name × ℕ). is_weight e.1) r.1) b.0 in
      and_from _ _ (and_from _ _ n.0 (by (bytes_eq r.0 u) (bytes_eq r.0 v) n.1)) (rows-linked hw rs b.1)
    where
      by : (p q : Bool) → list_all (λ (e : Name × ℕ). is_weight e.1) r.1 ≡ true → list_all (λ (e : Name × ℕ). is_weight e.1) (cond p (put r.1 v w) (cond q (put r.1 u w) r.1)) ≡ true
      by true q h = weights-put r.1 v w hw h
      by false true h = weights-put r.1 u w hw h
      by false false h = h

  -- a neighbour that was walked as a node is left out
  filter-put-walked : (walked : List Name) (es : Neighbors) (y : Name) → among walked y ≡ true → filter (λ e. not (among walked e.0)) (put es y w) ≡ filter (λ e. not (among walked e.0)) es
  filter-put-walked walked [] y h = ap (λ b. cond (not b) ((y, w) ∷ []) []) h
  filter-put-walked walked (e ∷ es) y h = by (filter-put-walked walked es y h) (bytes_eq y e.0) refl
    where
      by : filter (λ e. not (among walked e.0)) (put es y w) ≡ filter (λ e. not (among walked e.0)) es → (b : Bool) → bytes_eq y e.0 ≡ b
          → filter (λ e. not (among walked e.0)) (cond b ((e.0, w) ∷ es) (e ∷ put es y w)) ≡ cond (not (among walked e.0)) (e ∷ filter (λ e. not (among walked e.0)) es) (filter (λ e. not (among walked e.0)) es)
      by later true t =
          let there : among walked e.0 ≡ true = subst (λ n. among walked n ≡ true) (same_names y e.0 t) h in
          ap (λ b. cond (not b) ((e.0, w) ∷ filter (λ e. not (among walked e.0)) es) (filter (λ e. not (among walked e.0)) es)) there
          ∙ sym (ap (λ b. cond (not b) (e ∷ filter (λ e. not (among walked e.0)) es) (filter (λ e. not (among walked e.0)) es)) there)
      by later false t = ap (λ es'. cond (not (among walked e.0)) (e ∷ es') es') later

  -- a new neighbour that was not walked is one edge more
  length-filter-put : (walked : List Name) (es : Neighbors) (y : Name) → among walked y ≡ false → lookup (bytes_eq y) es ≡ None → length (filter (λ e. not (among walked e.0)) (put es y w)) ≡ length (filter (λ e. not (among walked e.0)) es) + 1
  length-filter-put walked [] y h absent = ap (λ b. length {A = Name × ℕ} (cond (not b) ((y, w) ∷ []) [])) h
  length-filter-put walked (e ∷ es) y h absent = by (length-filter-put walked es y h) (bytes_eq y e.0) absent
    where
      count : (b : Bool) → length (filter (λ e. not (among walked e.0)) (put es y w)) ≡ length (filter (λ e. not (among walked e.0)) es) + 1 → length (cond (not b) (e ∷ filter (λ e. not (among walked e.0)) (put es y w)) (filter (λ e. not (among walked e.0)) (put es y w))) ≡ length (cond (not b) (e ∷ filter (λ e. not (among walked e.0)) es) (filter (λ e. not (among walked e.0)) es)) + 1
      count true p = p
      count false p = omega (arith, p)

      by : (lookup (bytes_eq y) es ≡ None → length (filter (λ e. not (among walked e.0)) (put es y w)) ≡ length (filter (λ e. not (among walked e.0)) es) + 1) → (b : Bool) → cond b (Some e.1) (lookup (bytes_eq y) es) ≡ None
          → length (filter (λ e. not (among walked e.0)) (cond b ((e.0, w) ∷ es) (e ∷ put es y w))) ≡ length (cond (not (among walked e.0)) (e ∷ filter (λ e. not (among walked e.0)) es) (filter (λ e. not (among walked e.0)) es)) + 1
      by later true a = absurd (none-some e.1 (sym a))
      by later false a = count (among walked e.0) (later a)

  -- a neighbour that is there keeps the number of edges
  length-filter-put-there : (walked : List Name) (es : Neighbors) (y : Name) → is_some (lookup (bytes_eq y) es) ≡ true → length (filter (λ e. not (among walked e.0)) (put es y w)) ≡ length (filter (λ e. not (among walked e.0)) es)
  length-filter-put-there walked [] y there = cc
  length-filter-put-there walked (e ∷ es) y there = by (length-filter-put-there walked es y) (bytes_eq y e.0) there
    where
      count : (b : Bool) → length (filter (λ e. not (among walked e.0)) (put es y w)) ≡ length (filter (λ e. not (among walked e.0)) es) → length (cond (not b) (e ∷ filter (λ e. not (among walked e.0)) (put es y w)) (filter (λ e. not (among walked e.0)) (put es y w))) ≡ length (cond (not b) (e ∷ filter (λ e. not (among walked e.0)) es) (filter (λ e. not (among walked e.0)) es))
      count true p = p
      count false p = omega (arith, p)

      swapped : (b : Bool) → length (cond (not b) ((e.0, w) ∷ filter (λ e. not (among walked e.0)) es) (filter (λ e. not (among walked e.0)) es)) ≡ length (cond (not b) (e ∷ filter (λ e. not (among walked e.0)) es) (filter (λ e. not (among walked e.0)) es))
      swapped true = refl
      swapped false = refl

      by : (is_some (lookup (bytes_eq y) es) ≡ true → length (filter (λ e. not (among walked e.0)) (put es y w)) ≡ length (filter (λ e. not (among walked e.0)) es)) → (b : Bool) → is_some (cond b (Some e.1) (lookup (bytes_eq y) es)) ≡ true
          → length (filter (λ e. not (among walked e.0)) (cond b ((e.0, w) ∷ es) (e ∷ put es y w))) ≡ length (cond (not (among walked e.0)) (e ∷ filter (λ e. not (among walked e.0)) es) (filter (λ e. not (among walked e.0)) es))
      by later true a = swapped (among walked e.0)
      by later false a = count (among walked e.0) (later a)

abbrev pub at_row : List Name → Name → Neighbors → List (Name × Name × ℕ)
at_row walked x es = map (λ e. (x, e.0, e.1)) (filter (λ e. not (among walked e.0)) es)

pub length-at_row : (walked : List Name) (x : Name) (es fs : Neighbors) (ts : List (Name × Name × ℕ)) → length (filter (λ e. not (among walked e.0)) fs) ≡ length (filter (λ e. not (among walked e.0)) es) + 1 → length (at_row walked x fs ++ ts) ≡ length (at_row walked x es ++ ts) + 1
length-at_row walked x es fs ts h =
    omega (arith, length-append (at_row walked x fs) ts, length-append (at_row walked x es) ts, length-map {B = Name × Name × ℕ} (filter (λ (e : Name × ℕ). not (among walked e.0)) fs) (λ (e : Name × ℕ). (x, e.0, e.1)), length-map {B = Name × Name × ℕ} (filter (λ (e : Name × ℕ). not (among walked e.0)) es) (λ (e : Name × ℕ). (x, e.0, e.1)), h)

-- after a row whose name was walked nothing comes
module _ (u v : Name) (w : ℕ) where
  walked_first : (walked : List Name) (g : Adjacency) → among walked u ≡ true → AllByRecursion (λ n. bytes_eq u n ≡ false) (names g) → edges_after walked (each_row (linked u v w) g) ≡ edges_after walked g
  walked_first walked [] h apart = refl
  walked_first walked (r ∷ rs) h apart =
      ap (λ t. at_row walked r.0 (linked u v w r.0 r.1) ++ t) (walked_first (r.0 ∷ walked) rs (or_right (bytes_eq u r.0) (among walked u) h) apart.1)
      ∙ ap (λ es. map (λ e. (r.0, e.0, e.1)) es ++ edges_after (r.0 ∷ walked) rs) (by (bytes_eq r.0 u) (bytes_eq r.0 v) refl)
    where
      by : (p q : Bool) → bytes_eq r.0 u ≡ p → filter (λ e. not (among walked e.0)) (cond p (put r.1 v w) (cond q (put r.1 u w) r.1)) ≡ filter (λ e. not (among walked e.0)) r.1
      by true q s = absurd (true≢false (sym s ∙ bytes_eq-swap r.0 u ∙ apart.0))
      by false true s = filter-put-walked u v w walked r.1 u h
      by false false s = refl

  walked_second : (walked : List Name) (g : Adjacency) → among walked v ≡ true → AllByRecursion (λ n. bytes_eq v n ≡ false) (names g) → edges_after walked (each_row (linked u v w) g) ≡ edges_after walked g
  walked_second walked [] h apart = refl
  walked_second walked (r ∷ rs) h apart =
      ap (λ t. at_row walked r.0 (linked u v w r.0 r.1) ++ t) (walked_second (r.0 ∷ walked) rs (or_right (bytes_eq v r.0) (among walked v) h) apart.1)
      ∙ ap (λ es. map (λ e. (r.0, e.0, e.1)) es ++ edges_after (r.0 ∷ walked) rs) (by (bytes_eq r.0 u) (bytes_eq r.0 v) refl)
    where
      by : (p q : Bool) → bytes_eq r.0 v ≡ q → filter (λ e. not (among walked e.0)) (cond p (put r.1 v w) (cond q (put r.1 u w) r.1)) ≡ filter (λ e. not (among walked e.0)) r.1
      by true q s = filter-put-walked u v w walked r.1 v h
      by false true s = absurd (true≢false (sym s ∙ bytes_eq-swap r.0 v ∙ apart.0))
      by false false s = refl

  pub one_edge_more : (walked : List Name) (g : Adjacency) → among walked u ≡ false → among walked v ≡ false → has_node g u ≡ true → has_node g v ≡ true → IsDistinct bytes_eq (names g) → weight_of g u v ≡ None → weight_of g v u ≡ None
      → length (edges_after walked (each_row (linked u v w) g)) ≡ length (edges_after walked g) + 1
  one_edge_more walked [] nu nv hu hv differ auv avu = cc
  one_edge_more walked (r ∷ rs) nu nv hu hv differ auv avu =
      by (one_edge_more (r.0 ∷ walked) rs) (bytes_eq u r.0) (bytes_eq v r.0) refl refl hu hv auv avu
    where
      by : (among (r.0 ∷ walked) u ≡ false → among (r.0 ∷ walked) v ≡ false → has_node rs u ≡ true → has_node rs v ≡ true → IsDistinct bytes_eq (names rs) → weight_of rs u v ≡ None → weight_of rs v u ≡ None → length (edges_after (r.0 ∷ walked) (each_row (linked u v w) rs)) ≡ length (edges_after (r.0 ∷ walked) rs) + 1)
          → (p q : Bool) → bytes_eq u r.0 ≡ p → bytes_eq v r.0 ≡ q → is_some (cond p (Some r.1) (lookup (bytes_eq u) rs)) ≡ true → is_some (cond q (Some r.1) (lookup (bytes_eq v) rs)) ≡ true
          → lookup (bytes_eq v) (unwrap_or (cond p (Some r.1) (lookup (bytes_eq u) rs)) []) ≡ None → lookup (bytes_eq u) (unwrap_or (cond q (Some r.1) (lookup (bytes_eq v) rs)) []) ≡ None
          → length (at_row walked r.0 (linked u v w r.0 r.1) ++ edges_after (r.0 ∷ walked) (each_row (linked u v w) rs)) ≡ length (at_row walked r.0 r.1 ++ edges_after (r.0 ∷ walked) rs) + 1
      by later true q s t hu hv auv avu =
          let here : linked u v w r.0 r.1 ≡ put r.1 v w = ap (λ b. cond b (put r.1 v w) (cond (bytes_eq r.0 v) (put r.1 u w) r.1)) (bytes_eq-swap r.0 u ∙ s) in
          let behind = walked_first (r.0 ∷ walked) rs (ap (λ b. b || among walked u) s) (subst (λ n. AllByRecursion (λ m. bytes_eq n m ≡ false) (names rs)) (sym (same_names u r.0 s)) (IsDistinct-head bytes_eq r.0 (names rs) differ)) in
          ap length (ap (λ es. at_row walked r.0 es ++ edges_after (r.0 ∷ walked) (each_row (linked u v w) rs)) here ∙ ap (λ t. at_row walked r.0 (put r.1 v w) ++ t) behind)
          ∙ length-at_row walked r.0 r.1 (put r.1 v w) (edges_after (r.0 ∷ walked) rs) (length-filter-put u v w walked r.1 v nv auv)
      by later false true s t hu hv auv avu =
          let here : linked u v w r.0 r.1 ≡ put r.1 u w = ap (λ b. cond b (put r.1 v w) (cond (bytes_eq r.0 v) (put r.1 u w) r.1)) (bytes_eq-swap r.0 u ∙ s) ∙ ap (λ b. cond b (put r.1 u w) r.1) (bytes_eq-swap r.0 v ∙ t) in
          let behind = walked_second (r.0 ∷ walked) rs (ap (λ b. b || among walked v) t) (subst (λ n. AllByRecursion (λ m. bytes_eq n m ≡ false) (names rs)) (sym (same_names v r.0 t)) (IsDistinct-head bytes_eq r.0 (names rs) differ)) in
          ap length (ap (λ es. at_row walked r.0 es ++ edges_after (r.0 ∷ walked) (each_row (linked u v w) rs)) here ∙ ap (λ t. at_row walked r.0 (put r.1 u w) ++ t) behind)
          ∙ length-at_row walked r.0 r.1 (put r.1 u w) (edges_after (r.0 ∷ walked) rs) (length-filter-put u v w walked r.1 u nu avu)
      by later false false s t hu hv auv avu =
          let here : linked u v w r.0 r.1 ≡ r.1 = ap (λ b. cond b (put r.1 v w) (cond (bytes_eq r.0 v) (put r.1 u w) r.1)) (bytes_eq-swap r.0 u ∙ s) ∙ ap (λ b. cond b (put r.1 u w) r.1) (bytes_eq-swap r.0 v ∙ t) in
          let behind = later (ap (λ b. b || among walked u) s ∙ nu) (ap (λ b. b || among walked v) t ∙ nv) hu hv (IsDistinct-tail bytes_eq r.0 (names rs) differ) auv avu in
          ap length (ap (λ es. at_row walked r.0 es ++ edges_after (r.0 ∷ walked) (each_row (linked u v w) rs)) here)
          ∙ omega (arith, behind, length-append (at_row walked r.0 r.1) (edges_after (r.0 ∷ walked) (each_row (linked u v w) rs)), length-append (at_row walked r.0 r.1) (edges_after (r.0 ∷ walked) rs))

-- ---- how many nodes there are

pub length-with_node_is : (g : Adjacency) (x : Name) → length (with_node g x) ≡ length g + cond (has_node g x) 0 1
length-with_node_is g x = elim (has_node g x) as (λ b. length (cond b g (g ++ (x, []) ∷ [])) ≡ length g + cond b 0 1) [ true ↦ omega arith | false ↦ omega (arith, length-append g ((x, []) ∷ [])) ]

pub length-with_same : (g : Adjacency) (u v : Name) → u ≡ v → length (with_node (with_node g u) v) ≡ length g + cond (has_node g u) 0 1
length-with_same g u v e =
    length-with_node_is (with_node g u) v ∙ ap (λ b. length (with_node g u) + cond b 0 1) (has_node-with_node g u v ∙ or_right (has_node g v) (bytes_eq v u) (ap (bytes_eq v) e ∙ bytes_eq-same v)) ∙ omega (arith, length-with_node_is g u)

pub length-with_two : (g : Adjacency) (u v : Name) → bytes_eq v u ≡ false → length (with_node (with_node g u) v) ≡ length g + cond (has_node g u) 0 1 + cond (has_node g v) 0 1
length-with_two g u v e =
    length-with_node_is (with_node g u) v ∙ ap (λ b. length (with_node g u) + cond b 0 1) (has_node-with_node g u v ∙ or_no (has_node g v) (bytes_eq v u) e) ∙ ap (λ n. n + cond (has_node g v) 0 1) (length-with_node_is g u)
  where
    or_no : (a b : Bool) → b ≡ false → (a || b) ≡ a
    or_no true b h = refl
    or_no false b h = h

pub distinct-with_node : (g : Adjacency) (x : Name) → IsDistinct bytes_eq (names g) → IsDistinct bytes_eq (names (with_node g x))
distinct-with_node g x h = by (has_node g x) refl
  where
    by : (b : Bool) → has_node g x ≡ b → IsDistinct bytes_eq (names (cond b g (g ++ (x, []) ∷ [])))
    by true e = h
    by false e = rw (map-append (λ (r : Name × Neighbors). r.0) g ((x, []) ∷ [])) (IsDistinct-push nat_list_eq_equiv (names g) x h (among-has_node g x ∙ e))

-- ---- a link, new or there

-- the row named u has v
abbrev pub RowsHave : Name → Name → Adjacency → Type 0
RowsHave u v g = AllByRecursion (λ (r : Name × Neighbors). bytes_eq r.0 u ≡ true → is_some (lookup (bytes_eq v) r.1) ≡ true) g

no_row : (u v : Name) (g : Adjacency) → AllByRecursion (λ n. bytes_eq u n ≡ false) (names g) → RowsHave u v g
no_row u v [] h = tt
no_row u v (r ∷ rs) h = (λ e. absurd (true≢false (sym e ∙ bytes_eq-swap r.0 u ∙ h.0)), no_row u v rs h.1)

rows_have : (u v : Name) (g : Adjacency) → IsDistinct bytes_eq (names g) → is_some (weight_of g u v) ≡ true → RowsHave u v g
rows_have u v [] differ h = tt
rows_have u v (r ∷ rs) differ h = by (rows_have u v rs (IsDistinct-tail bytes_eq r.0 (names rs) differ)) (bytes_eq u r.0) refl h
  where
    by : (is_some (weight_of rs u v) ≡ true → RowsHave u v rs) → (b : Bool) → bytes_eq u r.0 ≡ b → is_some (lookup (bytes_eq v) (unwrap_or (cond b (Some r.1) (lookup (bytes_eq u) rs)) [])) ≡ true → RowsHave u v (r ∷ rs)
    by later true t h = (λ _. h, no_row u v rs (subst (λ n. AllByRecursion (λ m. bytes_eq n m ≡ false) (names rs)) (sym (same_names u r.0 t)) (IsDistinct-head bytes_eq r.0 (names rs) differ)))
    by later false t h = (λ e. absurd (true≢false (sym e ∙ bytes_eq-swap r.0 u ∙ t)), later h)

same_edges : (u v : Name) (w : ℕ) (walked : List Name) (g : Adjacency) → RowsHave u v g → RowsHave v u g → length (edges_after walked (each_row (linked u v w) g)) ≡ length (edges_after walked g)
same_edges u v w walked [] a b = refl
same_edges u v w walked (r ∷ rs) a b =
    let here : length (filter (λ (e : Name × ℕ). not (among walked e.0)) (linked u v w r.0 r.1)) ≡ length (filter (λ (e : Name × ℕ). not (among walked e.0)) r.1) = by (bytes_eq r.0 u) (bytes_eq r.0 v) refl refl in
    omega (
      arith,
      length-append (at_row walked r.0 (linked u v w r.0 r.1)) (edges_after (r.0 ∷ walked) (each_row (linked u v w) rs)),
      length-append (at_row walked r.0 r.1) (edges_after (r.0 ∷ walked) rs),
      same_edges u v w (r.0 ∷ walked) rs a.1 b.1,
      length-map {B = Name × Name × ℕ} (filter (λ (e : Name × ℕ). not (among walked e.0)) (linked u v w r.0 r.1)) (λ (e : Name × ℕ). (r.0, e.0, e.1)),
      length-map {B = Name × Name × ℕ} (filter (λ (e : Name × ℕ). not (among walked e.0)) r.1) (λ (e : Name × ℕ). (r.0, e.0, e.1)),
      here,
    )
  where
    by : (p q : Bool) → bytes_eq r.0 u ≡ p → bytes_eq r.0 v ≡ q → length (filter (λ (e : Name × ℕ). not (among walked e.0)) (cond p (put r.1 v w) (cond q (put r.1 u w) r.1))) ≡ length (filter (λ (e : Name × ℕ). not (among walked e.0)) r.1)
    by true q s t = length-filter-put-there u v w walked r.1 v (a.0 s)
    by false true s t = length-filter-put-there u v w walked r.1 u (b.0 t)
    by false false s t = refl

pub length-edges-new : (g : Adjacency) (u v : Name) (w : ℕ) → IsDistinct bytes_eq (names g) → ((a b : Name) → weight_of g a b ≡ weight_of g b a) → weight_of g u v ≡ None → length (edges (with_edge g u v w)) ≡ length (edges g) + 1
length-edges-new g u v w differ both absent =
    let h : Adjacency = with_node (with_node g u) v in
    let has_v : has_node h v ≡ true = has_node-with_node (with_node g u) v v ∙ or_right (has_node (with_node g u) v) (bytes_eq v v) (bytes_eq-same v) in
    let has_u : has_node h u ≡ true = has_node-with_node (with_node g u) v u ∙ ap (λ b. b || bytes_eq u v) (has_node-with_node g u u ∙ or_right (has_node g u) (bytes_eq u u) (bytes_eq-same u)) in
    let before : (a b : Name) → weight_of h a b ≡ weight_of h b a = both_ways-with_node (with_node g u) v (both_ways-with_node g u both) in
    let apart : weight_of h u v ≡ None = ap (lookup (bytes_eq v)) (neighbors-with_node (with_node g u) v u ∙ neighbors-with_node g u u) ∙ absent in
    one_edge_more u v w [] h refl refl has_u has_v (distinct-with_node (with_node g u) v (distinct-with_node g u differ)) apart (before v u ∙ apart)
    ∙ ap (λ k. k + 1) (ap length (edges-with_node (with_node g u) v ∙ edges-with_node g u))

pub length-edges-old : (g : Adjacency) (u v : Name) (w : ℕ) → IsDistinct bytes_eq (names g) → ((a b : Name) → weight_of g a b ≡ weight_of g b a) → is_some (weight_of g u v) ≡ true → length (edges (with_edge g u v w)) ≡ length (edges g)
length-edges-old g u v w differ both there =
    let back : is_some (weight_of g v u) ≡ true = ap is_some (both v u) ∙ there in
    ap (λ h. length (edges h)) (with_edge-there g u v w (has_node-weight_of g u v there) (has_node-weight_of g v u back))
    ∙ same_edges u v w [] g (rows_have u v g differ there) (rows_have v u g differ back)

module _ (g : Adjacency) (n : ℕ) (u v : Name) (w : ℕ) where
  pub kept-new_edge : IsDistinct bytes_eq (names g) → is_name u ≡ true → is_name v ≡ true → is_weight w ≡ true → weight_of g u v ≡ None → length (with_node (with_node g u) v) ≤ MAX_NODES → n < MAX_EDGES → IsKept g n → IsKept (with_edge g u v w) (n + 1)
  kept-new_edge differ hu hv hw absent room fits kept =
      let h : Adjacency = with_node (with_node g u) v in
      let has_v : has_node h v ≡ true = has_node-with_node (with_node g u) v v ∙ or_right (has_node (with_node g u) v) (bytes_eq v v) (bytes_eq-same v) in
      let has_u : has_node h u ≡ true = has_node-with_node (with_node g u) v u ∙ ap (λ b. b || bytes_eq u v) (has_node-with_node g u u ∙ or_right (has_node g u) (bytes_eq u u) (bytes_eq-same u)) in
      let before : (a b : Name) → weight_of h a b ≡ weight_of h b a = both_ways-with_node (with_node g u) v (both_ways-with_node g u kept.both_ways) in
      let apart : weight_of h u v ≡ None = ap (lookup (bytes_eq v)) (neighbors-with_node (with_node g u) v u ∙ neighbors-with_node g u u) ∙ absent in
      let counted : length (edges (each_row (linked u v w) h)) ≡ length (edges h) + 1 = one_edge_more u v w [] h refl refl has_u has_v (distinct-with_node (with_node g u) v (distinct-with_node g u differ)) apart (before v u ∙ apart) in
      record {
        both_ways = both_ways-linked h u v w has_u has_v before;
        neighbors_differ = differ-each_row (linked u v w) h (IsDistinct-linked u v w) (differ-with_node (with_node g u) v (differ-with_node g u kept.neighbors_differ));
        rows = rows-linked u v w hw h (rows-with_node (with_node g u) v hv (rows-with_node g u hu kept.rows));
        node_limit = subst (λ k. k ≤ MAX_NODES) (sym (length-map h (λ (r : Name × Neighbors). (r.0, linked u v w r.0 r.1)))) room;
        counted = ap (λ k. k + 1) (kept.counted ∙ ap length (sym (edges-with_node (with_node g u) v ∙ edges-with_node g u))) ∙ sym counted;
        edge_limit = omega arith;
      }

  -- a link that is there
  pub kept-old_edge : IsDistinct bytes_eq (names g) → is_weight w ≡ true → is_some (weight_of g u v) ≡ true → IsKept g n → IsKept (with_edge g u v w) n
  kept-old_edge differ hw there kept =
      let back : is_some (weight_of g v u) ≡ true = ap is_some (kept.both_ways v u) ∙ there in
      let has_u = has_node-weight_of g u v there in
      let has_v = has_node-weight_of g v u back in
      let same : with_edge g u v w ≡ each_row (linked u v w) g = with_edge-there g u v w has_u has_v in
      subst (λ h. IsKept h n) (sym same) (record {
        both_ways = both_ways-linked g u v w has_u has_v kept.both_ways;
        neighbors_differ = differ-each_row (linked u v w) g (IsDistinct-linked u v w) kept.neighbors_differ;
        rows = rows-linked u v w hw g kept.rows;
        node_limit = subst (λ k. k ≤ MAX_NODES) (sym (length-map g (λ (r : Name × Neighbors). (r.0, linked u v w r.0 r.1)))) kept.node_limit;
        counted = kept.counted ∙ sym (same_edges u v w [] g (rows_have u v g differ there) (rows_have v u g differ back));
        edge_limit = kept.edge_limit;
      })

-- ---- which refusal

module _ (g : Adjacency) (u v : Name) (w : ℕ) (named_u : is_name u ≡ true) (named_v : is_name v ≡ true) (weighed : is_weight w ≡ true) (room : length (with_node (with_node g u) v) ≤ MAX_NODES) where
  past : {A : Type 0} (a b c d : A) → cond (not (is_name u && is_name v)) a (cond (not (is_weight w)) b (cond (nat_lt MAX_NODES (length (with_node (with_node g u) v))) c d)) ≡ d
  past a b c d =
      ap (λ t. cond (not t) a (cond (not (is_weight w)) b (cond (nat_lt MAX_NODES (length (with_node (with_node g u) v))) c d))) (and_from _ _ named_u named_v)
      ∙ ap (λ t. cond (not t) b (cond (nat_lt MAX_NODES (length (with_node (with_node g u) v))) c d)) weighed
      ∙ ap (λ t. cond t c d) (le-ltb MAX_NODES (length (with_node (with_node g u) v)) room)

  pub edge_fault-none : length (edges (with_edge g u v w)) ≤ MAX_EDGES → edge_fault g u v w ≡ None
  edge_fault-none fits = past _ _ _ _ ∙ ap (λ t. cond t (Some TooManyEdges) None) (le-ltb MAX_EDGES (length (edges (with_edge g u v w))) fits)

  pub edge_fault-edges : MAX_EDGES < length (edges (with_edge g u v w)) → edge_fault g u v w ≡ Some TooManyEdges
  edge_fault-edges over = past _ _ _ _ ∙ ap (λ t. cond t (Some TooManyEdges) None) (lt-ltb MAX_EDGES (length (edges (with_edge g u v w))) over)

pub with_nodes-there : (g : Adjacency) (u v : Name) → has_node g u ≡ true → has_node g v ≡ true → with_node (with_node g u) v ≡ g
with_nodes-there g u v has_u has_v = ap (λ h. with_node h v) (ap (λ b. cond b g (g ++ (u, []) ∷ [])) has_u) ∙ ap (λ b. cond b g (g ++ (v, []) ∷ [])) has_v

-- what a caller learns of it
pub graph_from : (g : Adjacency) (n : ℕ) → IsDistinct bytes_eq (names g) → IsKept g n → IsGraph g
graph_from g n differ kept = record {
  nodes_differ = differ;
  neighbors_differ = kept.neighbors_differ;
  both_ways = kept.both_ways;
  rows = kept.rows;
  node_limit = kept.node_limit;
  edge_limit = omega (arith, kept.counted, kept.edge_limit);
}

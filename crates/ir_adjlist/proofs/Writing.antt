-- The writers, element by element.
use Rattle.std.proofs.Common.{◌≡◌, length, ◌≤◌, ◌+◌, ℕ, zero, suc, Bool, true, false, not, ◌||◌, List, [], ◌∷◌, ◌++◌, map, flat_map, take, drop, Option, Some, None, option_map, slice_get, unwrap_or, refl, sym, ap, ◌∙◌, bytes_eq, add-one, append_assoc, append-nil}
use Rattle.std.specs.List.{IsDistinct}
use Rattle.std.proofs.Common.{arith, nat_lt, position, true≢false, take_all, ◌<◌}
use Rattle.std.specs.List.{position_or_len}
use Rattle.std.proofs.lemmas.Bool.{ltb-true, ltb-false, lt-ltb, le-ltb}
use Rattle.ir_graph.proofs.Places.{among-take, place_found, place_missing}
use Rattle.ir_graph.proofs.Edges.{edges_after-agree, walked_more}
use Rattle.std.specs.Option.{option_to_list}
use Rattle.std.specs.Map.{keys_of, lookup}
use Rattle.std.specs.Cmp.Lexicographic.{nat_list_eq_equiv}
use Rattle.std.proofs.lemmas.Map.Entries.{lookup_from_place}
use Rattle.std.proofs.lemmas.Option.{slice_get-map, none-some, cond_some}
use Rattle.std.proofs.lemmas.List.{drop_all}
use Rattle.std.proofs.lemmas.List.Elements.{filter-append, filter_agree}
use Rattle.std.proofs.lemmas.List.Folds.{flat_map-map}
use Rattle.std.proofs.Math.Seq.{take-nil, drop-nil}
use Rattle.std.proofs.lemmas.Grind.{flat_map-append}
use Rattle.ir_model.specs.Graph.{Name, Neighbors, Adjacency, among, names, neighbors, weight_of, edges_after}
use Rattle.ir_model.specs.Made.{Pair}
use Rattle.ir_adjlist.specs.Written.{row_text, adjlist_behind, targets_behind, edge_text}
use Rattle.ir_adjlist.specs.Writing.{spaced_words, unwritten, node_row, unwritten_links, node_edges}

module _ {X : Type 0} where
  take_next : (xs : List X) (n : ℕ) → take (suc n) xs ≡ take n xs ++ option_to_list (slice_get xs n)
  take_next [] n = sym (append-nil (take n []) ∙ take-nil n)
  take_next (x ∷ xs) zero = refl
  take_next (x ∷ xs) (suc n) = ap (λ t. x ∷ t) (take_next xs n)

  -- one element more
  pub take_one : (xs : List X) (n : ℕ) → take (n + 1) xs ≡ take n xs ++ option_to_list (slice_get xs n)
  take_one xs n = ap (λ m. take m xs) (add-one n) ∙ take_next xs n

  drop_next : (xs : List X) (n : ℕ) → drop n xs ≡ option_to_list (slice_get xs n) ++ drop (suc n) xs
  drop_next [] n = drop-nil n
  drop_next (x ∷ xs) zero = refl
  drop_next (x ∷ xs) (suc n) = drop_next xs n

  pub drop_one : (xs : List X) (n : ℕ) → drop n xs ≡ option_to_list (slice_get xs n) ++ drop (n + 1) xs
  drop_one xs n = drop_next xs n ∙ ap (λ m. option_to_list (slice_get xs n) ++ drop m xs) (sym (add-one n))

among-front : (xs : List Name) (x : Name) (n : ℕ) → among (take n xs) x ≡ true → among xs x ≡ true
among-front [] x n h = ap (λ t. among t x) (sym (take-nil n)) ∙ h
among-front (y ∷ xs) x zero h = cc
among-front (y ∷ xs) x (suc n) h = by (bytes_eq x y) (among-front xs x n) h
  where
    by : (b : Bool) → (among (take n xs) x ≡ true → among xs x ≡ true) → (b || among (take n xs) x) ≡ true → (b || among xs x) ≡ true
    by true later h = refl
    by false later h = later h

-- a name is among the first by its place
pub place_among_first : (ks : List Name) (x : Name) (n i : ℕ) → Some i ≡ position (bytes_eq x) ks → among (take n ks) x ≡ nat_lt i n
place_among_first ks x n i e = by (nat_lt (length ks) n) refl
  where
    by : (b : Bool) → nat_lt (length ks) n ≡ b → among (take n ks) x ≡ nat_lt i n
    by false t = among-take ks x n (ltb-false (length ks) n t) ∙ ap (λ k. nat_lt k n) (sym (place_found ks x i e))
    by true t =
        let past : length ks < n = ltb-true (length ks) n t in
        let here : position_or_len (bytes_eq x) ks < length ks = ltb-true _ _ (cond_some _ _ _ (sym e)).0 in
        let place : i ≡ position_or_len (bytes_eq x) ks = place_found ks x i e in
        ap (λ t. among t x) (take_all n ks (omega arith) ∙ sym (take_all (length ks) ks (omega arith))) ∙ among-take ks x (length ks) (omega arith)
        ∙ lt-ltb (position_or_len (bytes_eq x) ks) (length ks) here ∙ sym (lt-ltb i n (omega arith))

pub no_place_among_first : (ks : List Name) (x : Name) (n : ℕ) → None ≡ position (bytes_eq x) ks → among (take n ks) x ≡ false
no_place_among_first ks x n e = by (among (take n ks) x) refl
  where
    nowhere : among ks x ≡ false
    nowhere =
        ap (λ t. among t x) (sym (take_all (length ks) ks (omega arith))) ∙ among-take ks x (length ks) (omega arith)
        ∙ le-ltb (position_or_len (bytes_eq x) ks) (length ks) (place_missing ks x e)

    by : (b : Bool) → among (take n ks) x ≡ b → among (take n ks) x ≡ false
    by true t = absurd (true≢false (sym (among-front ks x n t) ∙ nowhere))
    by false t = t

-- ---- one element more after a text

pub spaced-one : (g : Adjacency) (count : ℕ) (ks : List Name) (n : ℕ) → spaced_words (unwritten g count (take (n + 1) ks)) ≡ spaced_words (unwritten g count (take n ks)) ++ spaced_words (unwritten g count (option_to_list (slice_get ks n)))
spaced-one g count ks n =
    ap (λ xs. spaced_words (unwritten g count xs)) (take_one ks n)
    ∙ ap spaced_words (filter-append (λ y. not (among (take count (names g)) y)) (take n ks) (option_to_list (slice_get ks n)))
    ∙ flat_map-append (λ (word : Name). 32 ∷ word) (unwritten g count (take n ks)) (unwritten g count (option_to_list (slice_get ks n)))

pub node_edges-one : (g : Adjacency) (count : ℕ) (x : Name) (es : Neighbors) (n : ℕ) → node_edges g count x (take (n + 1) es) ≡ node_edges g count x (take n es) ++ node_edges g count x (option_to_list (slice_get es n))
node_edges-one g count x es n =
    ap (node_edges g count x) (take_one es n)
    ∙ ap (flat_map (λ (e : Name × ℕ). edge_text (x, e.0, e.1))) (filter-append (λ (e : Name × ℕ). not (among (take count (names g)) e.0)) (take n es) (option_to_list (slice_get es n)))
    ∙ flat_map-append (λ (e : Name × ℕ). edge_text (x, e.0, e.1)) (unwritten_links g count (take n es)) (unwritten_links g count (option_to_list (slice_get es n)))

-- what was put, and what is put after it
pub put_more : (start done new before after : List ℕ) → before ≡ start ++ done → after ≡ before ++ new → after ≡ start ++ (done ++ new)
put_more start done new before after b a = a ∙ ap (λ t. t ++ new) b ∙ append_assoc start done new

-- what is written and what is to be written stays the whole
pub put_through : (before new after rest later whole : List ℕ) → after ≡ before ++ new → rest ≡ new ++ later → before ++ rest ≡ whole → after ++ later ≡ whole
put_through before new after rest later whole a r w = ap (λ t. t ++ later) a ∙ append_assoc before new later ∙ ap (λ t. before ++ t) (sym r) ∙ w

-- ---- a node more after a text

adjlist_behind-same : (rs : Adjacency) (before after : List Name) → ((y : Name) → among before y ≡ among after y) → adjlist_behind before rs ≡ adjlist_behind after rs
adjlist_behind-same [] before after h = refl
adjlist_behind-same (r ∷ rs) before after h =
    ap (λ ts. row_text r.0 ts ++ adjlist_behind (r.0 ∷ before) rs) (filter_agree (λ y. not (among before y)) (λ y. not (among after y)) (λ y. ap not (h y)) (keys_of r.1))
    ∙ ap (λ t. row_text r.0 (targets_behind after r.1) ++ t) (adjlist_behind-same rs (r.0 ∷ before) (r.0 ∷ after) (λ y. ap (λ b. bytes_eq y r.0 || b) (h y)))

-- the text of the nodes from a place on
abbrev pub rows_text : Adjacency → ℕ → List ℕ
rows_text g i = adjlist_behind (take i (names g)) (drop i g)

-- the text of their edges
abbrev pub edges_text : Adjacency → ℕ → List ℕ
edges_text g i = flat_map edge_text (edges_after (take i (names g)) (drop i g))

module _ (g : Adjacency) (differ : IsDistinct bytes_eq (names g)) (i : ℕ) where
  pub row_at : (r : Name × Neighbors) → slice_get g i ≡ Some r → neighbors g r.0 ≡ r.1
  row_at r e = ap (λ o. unwrap_or o []) (lookup_from_place nat_list_eq_equiv g i r.0 r.1 differ e)

  name_at : (o : Option (Name × Neighbors)) → slice_get g i ≡ o → slice_get (names g) i ≡ option_map (λ r. r.0) o
  name_at o e = slice_get-map (λ (r : Name × Neighbors). r.0) g i ∙ ap (option_map (λ (r : Name × Neighbors). r.0)) e

  rest_at : (o : Option (Name × Neighbors)) → slice_get g i ≡ o → drop i g ≡ option_to_list o ++ drop (i + 1) g
  rest_at o e = drop_one g i ∙ ap (λ o. option_to_list o ++ drop (i + 1) g) e

  none_at : slice_get g i ≡ None → take (i + 1) (names g) ≡ take i (names g)
  none_at e = take_one (names g) i ∙ ap (λ o. take i (names g) ++ option_to_list o) (name_at None e) ∙ append-nil (take i (names g))

  pub rows_text-one : rows_text g i ≡ flat_map (node_row g i) (option_to_list (slice_get (names g) i)) ++ rows_text g (i + 1)
  rows_text-one = by (slice_get g i) refl
    where
      by : (o : Option (Name × Neighbors)) → slice_get g i ≡ o → rows_text g i ≡ flat_map (node_row g i) (option_to_list (slice_get (names g) i)) ++ rows_text g (i + 1)
      by None e =
          ap (λ ns. adjlist_behind ns (drop i g)) (sym (none_at e)) ∙ ap (adjlist_behind (take (i + 1) (names g))) (rest_at None e)
          ∙ ap (λ o. flat_map (node_row g i) (option_to_list o) ++ rows_text g (i + 1)) (sym (name_at None e))
      by (Some r) e =
          ap (adjlist_behind (take i (names g))) (rest_at (Some r) e)
          ∙ ap (λ es. row_text r.0 (targets_behind (take i (names g)) es) ++ adjlist_behind (r.0 ∷ take i (names g)) (drop (i + 1) g)) (sym (row_at r e))
          ∙ ap (λ t. node_row g i r.0 ++ t) (adjlist_behind-same (drop (i + 1) g) (r.0 ∷ take i (names g)) (take (i + 1) (names g)) (walked_more g i r e))
          ∙ ap (λ t. t ++ rows_text g (i + 1)) (sym (append-nil (node_row g i r.0)))
          ∙ ap (λ o. flat_map (node_row g i) (option_to_list o) ++ rows_text g (i + 1)) (sym (name_at (Some r) e))

  pub edges_text-one : edges_text g i ≡ flat_map (λ x. node_edges g i x (neighbors g x)) (option_to_list (slice_get (names g) i)) ++ edges_text g (i + 1)
  edges_text-one = by (slice_get g i) refl
    where
      by : (o : Option (Name × Neighbors)) → slice_get g i ≡ o → edges_text g i ≡ flat_map (λ x. node_edges g i x (neighbors g x)) (option_to_list (slice_get (names g) i)) ++ edges_text g (i + 1)
      by None e =
          ap (λ ns. flat_map edge_text (edges_after ns (drop i g))) (sym (none_at e)) ∙ ap (λ rs. flat_map edge_text (edges_after (take (i + 1) (names g)) rs)) (rest_at None e)
          ∙ ap (λ o. flat_map (λ x. node_edges g i x (neighbors g x)) (option_to_list o) ++ edges_text g (i + 1)) (sym (name_at None e))
      by (Some r) e =
          ap (λ rs. flat_map edge_text (edges_after (take i (names g)) rs)) (rest_at (Some r) e)
          ∙ flat_map-append edge_text (map {B = Pair} (λ e. (r.0, e.0, e.1)) (unwritten_links g i r.1)) (edges_after (r.0 ∷ take i (names g)) (drop (i + 1) g))
          ∙ ap (λ t. t ++ flat_map edge_text (edges_after (r.0 ∷ take i (names g)) (drop (i + 1) g))) (flat_map-map {B = Pair} edge_text (λ (e : Name × ℕ). (r.0, e.0, e.1)) (unwritten_links g i r.1))
          ∙ ap (λ es. node_edges g i r.0 es ++ flat_map edge_text (edges_after (r.0 ∷ take i (names g)) (drop (i + 1) g))) (sym (row_at r e))
          ∙ ap (λ t. node_edges g i r.0 (neighbors g r.0) ++ flat_map edge_text t) (edges_after-agree (r.0 ∷ take i (names g)) (take (i + 1) (names g)) (drop (i + 1) g) (walked_more g i r e))
          ∙ ap (λ t. t ++ edges_text g (i + 1)) (sym (append-nil (node_edges g i r.0 (neighbors g r.0))))
          ∙ ap (λ o. flat_map (λ x. node_edges g i x (neighbors g x)) (option_to_list o) ++ edges_text g (i + 1)) (sym (name_at (Some r) e))

-- ---- the weight to a neighbour at a place

pub link_found : (g : Adjacency) (x y : Name) (n : ℕ) → IsDistinct bytes_eq (keys_of (neighbors g x)) → Some y ≡ slice_get (keys_of (neighbors g x)) n → slice_get (neighbors g x) n ≡ option_map {U = Name × ℕ} (λ w. (y, w)) (weight_of g x y)
link_found g x y n differ e = by (slice_get (neighbors g x) n) refl
  where
    by : (o : Option (Name × ℕ)) → slice_get (neighbors g x) n ≡ o → slice_get (neighbors g x) n ≡ option_map {U = Name × ℕ} (λ w. (y, w)) (weight_of g x y)
    by None h = absurd (none-some _ (sym (e ∙ slice_get-map (λ (l : Name × ℕ). l.0) (neighbors g x) n ∙ ap (option_map (λ (l : Name × ℕ). l.0)) h)))
    by (Some l) h =
        let same : y ≡ l.0 = ap (λ o. unwrap_or o y) (e ∙ slice_get-map (λ (l : Name × ℕ). l.0) (neighbors g x) n ∙ ap (option_map (λ (l : Name × ℕ). l.0)) h) in
        let found : lookup (bytes_eq l.0) (neighbors g x) ≡ Some l.1 = lookup_from_place nat_list_eq_equiv (neighbors g x) n l.0 l.1 differ h in
        h ∙ ap (λ (z : Name). Some (z, l.1)) (sym same) ∙ ap (option_map {U = Name × ℕ} (λ w. (y, w))) (sym (ap (λ z. weight_of g x z) same ∙ found))

pub no_link_found : (es : Neighbors) (n : ℕ) → None ≡ slice_get (keys_of es) n → slice_get es n ≡ None
no_link_found es n e = by (slice_get es n) refl
  where
    by : (o : Option (Name × ℕ)) → slice_get es n ≡ o → slice_get es n ≡ None
    by None h = h
    by (Some l) h = absurd (none-some _ (e ∙ slice_get-map (λ (l : Name × ℕ). l.0) es n ∙ ap (option_map (λ (l : Name × ℕ). l.0)) h))

-- ---- after the last node nothing is left to write

pub rows_written : (g : Adjacency) (i : ℕ) (text whole : List ℕ) → length g ≤ i → text ++ rows_text g i ≡ whole → text ≡ whole
rows_written g i text whole h e = sym (ap (λ rs. text ++ adjlist_behind (take i (names g)) rs) (drop_all i g h) ∙ append-nil text) ∙ e

pub edges_written : (g : Adjacency) (i : ℕ) (text whole : List ℕ) → length g ≤ i → text ++ edges_text g i ≡ whole → text ≡ whole
edges_written g i text whole h e = sym (ap (λ rs. text ++ flat_map edge_text (edges_after (take i (names g)) rs)) (drop_all i g h) ∙ append-nil text) ∙ e

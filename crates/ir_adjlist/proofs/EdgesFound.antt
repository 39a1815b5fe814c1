-- The edges of a graph give its weights.
use Rattle.std.proofs.Common.{◌≡◌, ℕ, suc, Bool, true, false, cond, ◌||◌, ◌&&◌, List, [], ◌∷◌, Option, Some, None, is_some, unwrap_or, slice_get, refl, sym, ap, subst, ◌∙◌, bytes_eq}
use Rattle.std.specs.List.{AllByRecursion, IsDistinct}
use Rattle.std.specs.Map.{lookup, keys_of}
use Rattle.std.proofs.lemmas.Map.Keys.{IsDistinct-head, IsDistinct-tail}
use Rattle.std.proofs.lemmas.Bool.{or_parts, or_from}
use Rattle.std.proofs.Math.Bool.{or-true, or-false, and-true, and-false}
use Rattle.ir_model.specs.Graph.{Name, Neighbors, Adjacency, names, among, has_node, neighbors, weight_of, edges, edges_after, IsGraph}
use Rattle.ir_model.specs.Made.{joins}
use Rattle.ir_model.proofs.Names.{same_names, bytes_eq-swap}
use Rattle.ir_adjlist.proofs.Writing.{row_at}
use Rattle.ir_adjlist.proofs.Found.{or_else, or_else-none, found, found-append, row_edges_of, found_row, found_none}

module _ {X : Type 0} where
  pub all_by_places : (P : X → Type 0) (xs : List X) → ((i : ℕ) (x : X) → slice_get xs i ≡ Some x → P x) → AllByRecursion P xs
  all_by_places P [] h = tt
  all_by_places P (x ∷ xs) h = (h 0 x refl, all_by_places P xs (λ i. h (suc i)))

  pub all_and : (P Q R : X → Type 0) → ((x : X) → P x → Q x → R x) → (xs : List X) → AllByRecursion P xs → AllByRecursion Q xs → AllByRecursion R xs
  all_and P Q R f [] p q = tt
  all_and P Q R f (x ∷ xs) p q = (f x p.0 q.0, all_and P Q R f xs p.1 q.1)

-- each row is what the graph has at its name
abbrev pub RowsAreOf : Adjacency → Adjacency → Type 0
RowsAreOf g rs = AllByRecursion (λ (r : Name × Neighbors). neighbors g r.0 ≡ r.1) rs

pub rows_of : (g : Adjacency) → IsDistinct bytes_eq (names g) → RowsAreOf g g
rows_of g differ = all_by_places (λ (r : Name × Neighbors). neighbors g r.0 ≡ r.1) g (λ i r e. row_at g differ i r e)

pub is_some-among : {B : Type 0} (es : List (Name × B)) (x : Name) → is_some (lookup (bytes_eq x) es) ≡ among (keys_of es) x
is_some-among [] x = refl
is_some-among {B} (e ∷ es) x = by (bytes_eq x e.0) (is_some-among es x)
  where
    by : (b : Bool) → is_some (lookup (bytes_eq x) es) ≡ among (keys_of es) x → is_some (cond b (Some e.1) (lookup (bytes_eq x) es)) ≡ (b || among (keys_of es) x)
    by true later = refl
    by false later = later

no_weight : (g : Adjacency) (x y : Name) → has_node g x ≡ false → weight_of g x y ≡ None
no_weight g x y h = by (lookup (bytes_eq x) g) h
  where
    by : (o : Option Neighbors) → is_some o ≡ false → lookup (bytes_eq y) (unwrap_or o []) ≡ None
    by (Some es) h = cc
    by None h = refl

-- ---- where the ends of an edge from z are

joins_first : (x y z : Name) → bytes_eq x z ≡ true → (k : Name) (w : ℕ) → joins x y (z, k, w) ≡ bytes_eq y k
joins_first x y z ex k w = ap (λ b. b && bytes_eq y k || bytes_eq x k && bytes_eq y z) ex ∙ by (bytes_eq y k) (bytes_eq x k) (bytes_eq y z) refl refl refl
  where
    by : (a b c : Bool) → bytes_eq y k ≡ a → bytes_eq x k ≡ b → bytes_eq y z ≡ c → (a || b && c) ≡ a
    by true b c ea eb ec = refl
    by false true true ea eb ec = sym (ap (λ n. bytes_eq n k) (same_names y z ec ∙ sym (same_names x z ex)) ∙ eb) ∙ ea
    by false true false ea eb ec = refl
    by false false c ea eb ec = refl

joins_second : (x y z : Name) → bytes_eq x z ≡ false → bytes_eq y z ≡ true → (k : Name) (w : ℕ) → joins x y (z, k, w) ≡ bytes_eq x k
joins_second x y z ex ey k w = ap (λ b. b && bytes_eq y k || bytes_eq x k && bytes_eq y z) ex ∙ ap (λ b. bytes_eq x k && b) ey ∙ and-true (bytes_eq x k)

joins_neither : (x y z : Name) → bytes_eq x z ≡ false → bytes_eq y z ≡ false → (k : Name) (w : ℕ) → joins x y (z, k, w) ≡ false
joins_neither x y z ex ey k w = ap (λ b. b && bytes_eq y k || bytes_eq x k && bytes_eq y z) ex ∙ ap (λ b. bytes_eq x k && b) ey ∙ and-false (bytes_eq x k)

module _ (g : Adjacency) (both_ways : (x y : Name) → weight_of g x y ≡ weight_of g y x) (differ : (x : Name) → IsDistinct bytes_eq (keys_of (neighbors g x))) where
  edges_after_found : (walked : List Name) (rs : Adjacency) → RowsAreOf g rs → AllByRecursion (λ n. among walked n ≡ false) (names rs) → IsDistinct bytes_eq (names rs)
      → ((x : Name) → among walked x ≡ false → among (names rs) x ≡ false → has_node g x ≡ false) → (x y : Name)
      → found x y (edges_after walked rs) ≡ cond (among walked x || among walked y) None (weight_of g x y)
  edges_after_found walked [] rows fresh d cover x y = by (among walked x) refl (among walked y)
    where
      either_none : (b : Bool) → ◌≡◌ {A = Option ℕ} None (cond b None None)
      either_none true = refl
      either_none false = refl

      by : (a : Bool) → among walked x ≡ a → (b : Bool) → ◌≡◌ {A = Option ℕ} None (cond (a || b) None (weight_of g x y))
      by true ea b = refl
      by false ea b = either_none b ∙ ap (cond b None) (sym (no_weight g x y (cover x ea refl)))
  edges_after_found walked (r ∷ rs) rows fresh d cover x y =
      let later : found x y (edges_after (r.0 ∷ walked) rs) ≡ cond ((bytes_eq x r.0 || among walked x) || (bytes_eq y r.0 || among walked y)) None (weight_of g x y) =
      edges_after_found (r.0 ∷ walked) rs rows.1
      (all_and (λ n. among walked n ≡ false) (λ n. bytes_eq r.0 n ≡ false) (λ n. among (r.0 ∷ walked) n ≡ false) (λ n a b. or_from (bytes_eq n r.0) (among walked n) (bytes_eq-swap n r.0 ∙ b) a) (names rs) fresh.1 (IsDistinct-head bytes_eq r.0 (names rs) d))
      (IsDistinct-tail bytes_eq r.0 (names rs) d)
      (λ n a b. let p = or_parts (bytes_eq n r.0) (among walked n) a in cover n p.1 (or_from (bytes_eq n r.0) (among (names rs) n) p.0 b))
      x y in
      found-append x y (row_edges_of walked r.0 r.1) (edges_after (r.0 ∷ walked) rs)
      ∙ ap (λ o. or_else o (found x y (row_edges_of walked r.0 r.1))) later
      ∙ by (bytes_eq x r.0) (bytes_eq y r.0) refl refl
    where
      row_differ : IsDistinct bytes_eq (keys_of r.1)
      row_differ = subst (λ es. IsDistinct bytes_eq (keys_of es)) rows.0 (differ r.0)

      in_row : (a b : Name) → bytes_eq a r.0 ≡ true → lookup (bytes_eq b) r.1 ≡ weight_of g a b
      in_row a b e = ap (lookup (bytes_eq b)) (sym rows.0) ∙ ap (λ n. weight_of g n b) (sym (same_names a r.0 e))

      not_walked : (a : Name) → bytes_eq a r.0 ≡ true → among walked a ≡ false
      not_walked a e = ap (among walked) (same_names a r.0 e) ∙ fresh.0

      by : (a b : Bool) → bytes_eq x r.0 ≡ a → bytes_eq y r.0 ≡ b → or_else (cond ((a || among walked x) || (b || among walked y)) None (weight_of g x y)) (found x y (row_edges_of walked r.0 r.1)) ≡ cond (among walked x || among walked y) None (weight_of g x y)
      by true b ea eb =
          found_row walked r.0 x y y (joins_first x y r.0 ea) r.1 row_differ
          ∙ ap (cond (among walked y) None) (in_row x y ea)
          ∙ sym (ap (λ t. cond (t || among walked y) None (weight_of g x y)) (not_walked x ea))
      by false true ea eb =
          ap (λ t. or_else (cond t None (weight_of g x y)) (found x y (row_edges_of walked r.0 r.1))) (or-true (among walked x))
          ∙ found_row walked r.0 x y x (joins_second x y r.0 ea eb) r.1 row_differ
          ∙ ap (cond (among walked x) None) (in_row y x eb ∙ both_ways y x)
          ∙ sym (ap (λ t. cond t None (weight_of g x y)) (ap (λ t. among walked x || t) (not_walked y eb) ∙ or-false (among walked x)))
      by false false ea eb =
          ap (or_else (cond (among walked x || among walked y) None (weight_of g x y))) (found_none walked r.0 x y (joins_neither x y r.0 ea eb) r.1)
          ∙ or_else-none (cond (among walked x || among walked y) None (weight_of g x y))

none_walked : (ns : List Name) → AllByRecursion (λ n. among [] n ≡ false) ns
none_walked [] = tt
none_walked (n ∷ ns) = (refl, none_walked ns)

-- the pairs that are a graph's edges give its weights
pub edges_found : (g : Adjacency) → IsGraph g → (x y : Name) → found x y (edges g) ≡ weight_of g x y
edges_found g kept x y = edges_after_found g kept.both_ways kept.neighbors_differ [] g (rows_of g kept.nodes_differ) (none_walked (names g)) kept.nodes_differ (λ n a b. is_some-among g n ∙ b) x y

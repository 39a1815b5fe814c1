-- What the rows and the edges of a graph are made of.
use Rattle.std.proofs.Common.{◌≡◌, Bool, true, false, cond, ◌||◌, List, [], ◌∷◌, filter, Option, Some, None, is_some, unwrap_or, refl, sym, ap, ◌∙◌, bytes_eq}
use Rattle.std.specs.List.{list_all}
use Rattle.std.specs.Map.{lookup, keys_of}
use Rattle.std.proofs.lemmas.Bool.{and_parts, and_from, or_right}
use Rattle.ir_model.specs.Graph.{Name, Neighbors, Adjacency, names, among, has_node, neighbors, weight_of, is_name, is_weight, is_row, IsGraph}
use Rattle.ir_model.proofs.Names.{same_names, bytes_eq-same}
use Rattle.ir_adjlist.proofs.EdgesFound.{is_some-among}

pub same_bool : (a b : Bool) → (a ≡ true → b ≡ true) → (b ≡ true → a ≡ true) → a ≡ b
same_bool true b f h = sym (f refl)
same_bool false true f h = h refl
same_bool false false f h = refl

pub among_holds : (p : Name → Bool) (xs : List Name) (x : Name) → list_all p xs ≡ true → among xs x ≡ true → p x ≡ true
among_holds p [] x h m = cc
among_holds p (y ∷ xs) x h m = let a = and_parts (p y) (list_all p xs) h in by (bytes_eq x y) refl a.0 m (among_holds p xs x a.1)
  where
    by : (b : Bool) → bytes_eq x y ≡ b → p y ≡ true → (b || among xs x) ≡ true → (among xs x ≡ true → p x ≡ true) → p x ≡ true
    by true e py m later = ap p (same_names x y e) ∙ py
    by false e py m later = later m

-- what holds of each name among them holds of them all
pub all_from_among : (p : Name → Bool) (xs : List Name) → ((x : Name) → among xs x ≡ true → p x ≡ true) → list_all p xs ≡ true
all_from_among p [] h = refl
all_from_among p (y ∷ xs) h = and_from _ _ (h y (ap (λ b. b || among xs y) (bytes_eq-same y))) (all_from_among p xs (λ x m. h x (or_right (bytes_eq x y) (among xs x) m)))

module _ {X : Type 0} where
  pub all_kept : (p q : X → Bool) (xs : List X) → list_all p xs ≡ true → list_all p (filter q xs) ≡ true
  all_kept p q [] h = refl
  all_kept p q (x ∷ xs) h =
      let a = and_parts (p x) (list_all p xs) h in
      elim (q x) as (λ b. list_all p (cond b (x ∷ filter q xs) (filter q xs)) ≡ true) [ true ↦ and_from _ _ a.0 (all_kept p q xs a.1) | false ↦ all_kept p q xs a.1 ]

module _ (g : Adjacency) (kept : IsGraph g) where
  pub node_names : list_all is_name (names g) ≡ true
  node_names = by g kept.rows
    where
      by : (rs : Adjacency) → list_all is_row rs ≡ true → list_all is_name (names rs) ≡ true
      by [] h = refl
      by (r ∷ rs) h =
          let a = and_parts (is_row r) (list_all is_row rs) h in
          and_from _ _ (and_parts (is_name r.0) (list_all (λ e. is_weight e.1) r.1) a.0).0 (by rs a.1)

  pub node_is_name : (x : Name) → has_node g x ≡ true → is_name x ≡ true
  node_is_name x h = among_holds is_name (names g) x node_names (sym (is_some-among g x) ∙ h)

  has_neighbors : (x y : Name) → is_some (weight_of g x y) ≡ true → has_node g x ≡ true
  has_neighbors x y h = by (lookup (bytes_eq x) g) h
    where
      by : (o : Option Neighbors) → is_some (lookup (bytes_eq y) (unwrap_or o [])) ≡ true → is_some o ≡ true
      by None h = cc
      by (Some es) h = refl

  pub neighbor_is_node : (x y : Name) → is_some (weight_of g x y) ≡ true → has_node g y ≡ true
  neighbor_is_node x y h = has_neighbors y x (ap is_some (kept.both_ways y x) ∙ h)

  -- the neighbours in a row are nodes
  pub row_neighbors : (r : Name × Neighbors) → neighbors g r.0 ≡ r.1 → list_all (has_node g) (keys_of r.1) ≡ true
  row_neighbors r e =
      all_from_among (has_node g) (keys_of r.1) (λ y m. neighbor_is_node r.0 y (ap (λ es. is_some (lookup (bytes_eq y) es)) e ∙ is_some-among r.1 y ∙ m))

  -- each row's node is one
  pub row_nodes : list_all (has_node g) (names g) ≡ true
  row_nodes = all_from_among (has_node g) (names g) (λ x m. is_some-among g x ∙ m)

-- Laws of places: which node is at a place, and what its neighbours are.
use Rattle.std.proofs.Common.{◌≡◌, ◌<◌, ◌≤◌, ◌+◌, ℕ, zero, suc, Bool, true, false, not, cond, ◌||◌, List, [], ◌∷◌, map, length, take, Option, Some, None, is_some, option_map, slice_get, unwrap_or, nat_lt, position, refl, sym, ap, subst, ◌∙◌, bytes_eq, arith, one-add}
use Rattle.std.specs.Option.{option_map_or}
use Rattle.std.specs.List.{position_or_len, IsDistinct}
use Rattle.std.specs.Map.{lookup}
use Rattle.std.specs.Cmp.Lexicographic.{nat_list_eq_equiv}
use Rattle.std.proofs.lemmas.Map.Entries.{lookup_from_place, place_from_lookup}
use Rattle.std.proofs.lemmas.Option.{cond_some, same_Some, none-some, slice_get_within, slice_get-map}
use Rattle.std.proofs.lemmas.List.{length-map}
use Rattle.std.proofs.lemmas.Bool.{le-ltb, lt-ltb, ltb-true, ltb-false}
use Rattle.ir_model.specs.Graph.{Name, Neighbors, Adjacency, names, among, has_node, neighbors, weight_of, IsGraph}
use Rattle.ir_model.proofs.Names.{same_names, bytes_eq-same}
use Rattle.ir_model.specs.Places.{place_of, neighbors_at, neighbor_at}
use Rattle.ir_graph.proofs.Joined.{one_place, has_node-weight_of}

-- ---- the place of a name

pub named_place : (ks : List Name) (x : Name) → among ks x ≡ true → slice_get ks (position_or_len (bytes_eq x) ks) ≡ Some x
named_place [] x h = cc
named_place (k ∷ ks) x h = by (bytes_eq x k) refl h (named_place ks x)
  where
    by : (b : Bool) → bytes_eq x k ≡ b → (b || among ks x) ≡ true → (among ks x ≡ true → slice_get ks (position_or_len (bytes_eq x) ks) ≡ Some x) → slice_get (k ∷ ks) (cond (not b) (1 + position_or_len (bytes_eq x) ks) 0) ≡ Some x
    by true t h later = ap (λ n. Some n) (sym (same_names x k t))
    by false t h later = rw one-add (later h)

lt_one : (a b : ℕ) → nat_lt (1 + a) (suc b) ≡ nat_lt a b
lt_one a b = by (nat_lt a b) refl
  where
    by : (t : Bool) → nat_lt a b ≡ t → nat_lt (1 + a) (suc b) ≡ t
    by true e = let h : a < b = ltb-true a b e in lt-ltb (1 + a) (suc b) (omega arith)
    by false e = let h : b ≤ a = ltb-false a b e in le-ltb (1 + a) (suc b) (omega arith)

-- a name is among the first i where its place is below i
pub among-take : (ks : List Name) (x : Name) (i : ℕ) → i ≤ length ks → among (take i ks) x ≡ nat_lt (position_or_len (bytes_eq x) ks) i
among-take [] x zero h = refl
among-take [] x (suc i) h = absurd (omega (arith, h))
among-take (k ∷ ks) x zero h = sym (le-ltb (position_or_len (bytes_eq x) (k ∷ ks)) 0 (omega arith))
among-take (k ∷ ks) x (suc i) h = by (bytes_eq x k) (among-take ks x i (omega (arith, h)))
  where
    by : (b : Bool) → among (take i ks) x ≡ nat_lt (position_or_len (bytes_eq x) ks) i → (b || among (take i ks) x) ≡ nat_lt (cond (not b) (1 + position_or_len (bytes_eq x) ks) 0) (suc i)
    by true later = sym (lt-ltb 0 (suc i) (omega arith))
    by false later = later ∙ sym (lt_one (position_or_len (bytes_eq x) ks) i)

position-map : {X Y : Type 0} (f : X → Y) (test : Y → Bool) (xs : List X) → position_or_len test (map f xs) ≡ position_or_len (λ x. test (f x)) xs
position-map f test [] = refl
position-map f test (x ∷ xs) = ap (λ n. cond (not (test (f x))) (1 + n) 0) (position-map f test xs)

-- the place among the keys is the place among their names
pub place-map : {X Y : Type 0} (f : X → Y) (test : Y → Bool) (xs : List X) → position test (map f xs) ≡ position (λ x. test (f x)) xs
place-map f test xs =
    ap (λ n. cond (nat_lt n (length (map f xs))) (Some n) None) (position-map f test xs)
    ∙ ap (λ k. cond (nat_lt (position_or_len (λ x. test (f x)) xs) k) (Some (position_or_len (λ x. test (f x)) xs)) None) (length-map xs f)

-- what a look-up of a place says
pub place_found : (ks : List Name) (x : Name) (i : ℕ) → Some i ≡ position (bytes_eq x) ks → i ≡ position_or_len (bytes_eq x) ks
place_found ks x i e = sym (cond_some _ _ _ (sym e)).1

pub place_missing : (ks : List Name) (x : Name) → None ≡ position (bytes_eq x) ks → length ks ≤ position_or_len (bytes_eq x) ks
place_missing ks x e = by (nat_lt (position_or_len (bytes_eq x) ks) (length ks)) refl e
  where
    by : (b : Bool) → nat_lt (position_or_len (bytes_eq x) ks) (length ks) ≡ b → None ≡ cond b (Some (position_or_len (bytes_eq x) ks)) None → length ks ≤ position_or_len (bytes_eq x) ks
    by true t h = absurd (none-some _ h)
    by false t h = ltb-false _ _ t

pub among-has_node : (g : Adjacency) (x : Name) → among (names g) x ≡ has_node g x
among-has_node [] x = refl
among-has_node (r ∷ rs) x = elim (bytes_eq x r.0) as (λ b. (b || among (names rs) x) ≡ is_some (cond b (Some r.1) (lookup (bytes_eq x) rs))) [ true ↦ refl | false ↦ among-has_node rs x ]

-- a node is at its place
pub at_place_of : (g : Adjacency) (x : Name) → has_node g x ≡ true → slice_get (names g) (place_of g x) ≡ Some x
at_place_of g x h = named_place (names g) x (among-has_node g x ∙ h)

pub place_of_within : (g : Adjacency) (x : Name) → has_node g x ≡ true → place_of g x < length g
place_of_within g x h = subst (λ n. place_of g x < n) (length-map g (λ (r : Name × Neighbors). r.0)) (slice_get_within (names g) (place_of g x) x (at_place_of g x h))

pub has_node_at : (g : Adjacency) (i : ℕ) (x : Name) → slice_get (names g) i ≡ Some x → has_node g x ≡ true
has_node_at [] i x h = absurd (none-some x h)
has_node_at (r ∷ rs) zero x h = ap (λ b. is_some (cond b (Some r.1) (lookup (bytes_eq x) rs))) (ap (bytes_eq x) (same_Some r.0 x h) ∙ bytes_eq-same x)
has_node_at (r ∷ rs) (suc i) x h = by (bytes_eq x r.0) (has_node_at rs i x h)
  where
    by : (b : Bool) → has_node rs x ≡ true → is_some (cond b (Some r.1) (lookup (bytes_eq x) rs)) ≡ true
    by true later = refl
    by false later = later

-- ---- what is at a place

pub name_there : (g : Adjacency) (i : ℕ) → i < length g → (x : Name) × (slice_get (names g) i ≡ Some x)
name_there [] i h = absurd (omega (arith, h))
name_there (r ∷ rs) zero h = (r.0, refl)
name_there (r ∷ rs) (suc i) h = name_there rs i (omega (arith, h))

module _ (g : Adjacency) (differ : IsDistinct bytes_eq (names g)) where
  pub place_of_at : (i : ℕ) (x : Name) → slice_get (names g) i ≡ Some x → place_of g x ≡ i
  place_of_at i x at = one_place (names g) (place_of g x) i x differ (at_place_of g x (has_node_at g i x at)) at

  -- the neighbours by place are those by name
  pub neighbors_at-named : (i : ℕ) (x : Name) → slice_get (names g) i ≡ Some x → neighbors_at g i ≡ neighbors g x
  neighbors_at-named i x at = by (slice_get g i) refl (sym (slice_get-map (λ (r : Name × Neighbors). r.0) g i) ∙ at)
    where
      by : (o : Option (Name × Neighbors)) → slice_get g i ≡ o → option_map (λ (r : Name × Neighbors). r.0) o ≡ Some x → option_map_or (λ (r : Name × Neighbors). r.1) o [] ≡ neighbors g x
      by None e n = absurd (none-some x n)
      by (Some r) e n =
          let found : lookup (bytes_eq r.0) g ≡ Some r.1 = lookup_from_place nat_list_eq_equiv g i r.0 r.1 differ e in
          sym (ap (λ y. neighbors g y) (sym (same_Some r.0 x n)) ∙ ap (λ o. unwrap_or o []) found)

-- ---- links by place

-- what is in a row is found in it
found_at : (es : Neighbors) (p : ℕ) (e : Name × ℕ) → slice_get es p ≡ Some e → is_some (lookup (bytes_eq e.0) es) ≡ true
found_at [] p e h = absurd (none-some e h)
found_at (f ∷ es) zero e h = ap (λ b. is_some (cond b (Some f.1) (lookup (bytes_eq e.0) es))) (ap (λ (n : Name × ℕ). bytes_eq e.0 n.0) (same_Some f e h) ∙ bytes_eq-same e.0)
found_at (f ∷ es) (suc p) e h = by (bytes_eq e.0 f.0) (found_at es p e h)
  where
    by : (b : Bool) → is_some (lookup (bytes_eq e.0) es) ≡ true → is_some (cond b (Some f.1) (lookup (bytes_eq e.0) es)) ≡ true
    by true later = refl
    by false later = later

-- the neighbour at a place is a node
pub neighbor_is_node : (g : Adjacency) → IsDistinct bytes_eq (names g) → ((x y : Name) → weight_of g x y ≡ weight_of g y x) → (i p : ℕ) (e : Name × ℕ) → slice_get (neighbors_at g i) p ≡ Some e → has_node g e.0 ≡ true
neighbor_is_node g differ both i p e at = by (slice_get g i) refl at
  where
    by : (o : Option (Name × Neighbors)) → slice_get g i ≡ o → slice_get (option_map_or (λ (r : Name × Neighbors). r.1) o []) p ≡ Some e → has_node g e.0 ≡ true
    by None f h = absurd (none-some e h)
    by (Some r) f h =
        let named : slice_get (names g) i ≡ Some r.0 = slice_get-map (λ (r : Name × Neighbors). r.0) g i ∙ ap (option_map (λ (r : Name × Neighbors). r.0)) f in
        let row : slice_get (neighbors g r.0) p ≡ Some e = sym (ap (λ es. slice_get es p) (neighbors_at-named g differ i r.0 named)) ∙ at in
        has_node-weight_of g e.0 r.0 (ap is_some (both e.0 r.0) ∙ found_at (neighbors g r.0) p e row)

-- a link by place is one by name
pub record LinkFacts (g : Adjacency) (i j w : ℕ) : Type 0 where
  pub from : Name
  pub to : Name
  pub from_at : slice_get (names g) i ≡ Some from
  pub to_at : slice_get (names g) j ≡ Some to
  pub weight : weight_of g from to ≡ Some w

module _ (g : Adjacency) (graph : IsGraph g) where
  pub link_facts : (i p j w : ℕ) → neighbor_at g i p ≡ Some (j, w) → LinkFacts g i j w
  link_facts i p j w at = by (slice_get (neighbors_at g i) p) refl at
    where
      row : (o : Option (Name × Neighbors)) → slice_get g i ≡ o → (e : Name × ℕ) → slice_get (option_map_or (λ (r : Name × Neighbors). r.1) o []) p ≡ Some e → (x : Name) × (slice_get (names g) i ≡ Some x)
      row None f e h = absurd (none-some e h)
      row (Some r) f e h = (r.0, slice_get-map (λ (r : Name × Neighbors). r.0) g i ∙ ap (option_map (λ (r : Name × Neighbors). r.0)) f)

      by : (o : Option (Name × ℕ)) → slice_get (neighbors_at g i) p ≡ o → option_map {U = ℕ × ℕ} (λ (e : Name × ℕ). (place_of g e.0, e.1)) o ≡ Some (j, w) → LinkFacts g i j w
      by None f h = absurd (none-some _ h)
      by (Some e) f h =
          let x = row (slice_get g i) refl e f in
          let same = same_Some _ _ h in
          let here : slice_get (neighbors g x.0) p ≡ Some e = sym (ap (λ es. slice_get es p) (neighbors_at-named g graph.nodes_differ i x.0 x.1)) ∙ f in
          record {
            from = x.0;
            to = e.0;
            from_at = x.1;
            to_at = subst (λ (k : ℕ). slice_get (names g) k ≡ Some e.0) (ap (λ (t : ℕ × ℕ). t.0) same) (at_place_of g e.0 (neighbor_is_node g graph.nodes_differ graph.both_ways i p e f));
            weight = lookup_from_place nat_list_eq_equiv (neighbors g x.0) p e.0 e.1 (graph.neighbors_differ x.0) here ∙ ap (λ (t : ℕ × ℕ). Some t.1) same;
          }

  -- and a link by name one by place
  pub link_there : (i j w : ℕ) (x y : Name) → slice_get (names g) i ≡ Some x → slice_get (names g) j ≡ Some y → weight_of g x y ≡ Some w → (p : ℕ) × (neighbor_at g i p ≡ Some (j, w))
  link_there i j w x y at_i at_j e =
      let found = place_from_lookup (bytes_eq y) (neighbors g x) w e in
      let named : y ≡ found.1 = same_names y found.1 found.3 in
      let row : slice_get (neighbors_at g i) found.0 ≡ Some (found.1, w) = ap (λ es. slice_get es found.0) (neighbors_at-named g graph.nodes_differ i x at_i) ∙ found.2 in
      (found.0, ap (option_map {U = ℕ × ℕ} (λ (e : Name × ℕ). (place_of g e.0, e.1))) row ∙ ap (λ (n : ℕ). Some (n, w)) (ap (place_of g) (sym named) ∙ place_of_at g graph.nodes_differ j y at_j))

  -- the neighbour has a link back, of the same weight
  pub link_back : (i p j w : ℕ) → neighbor_at g i p ≡ Some (j, w) → (q : ℕ) × (neighbor_at g j q ≡ Some (i, w))
  link_back i p j w at =
      let facts = link_facts i p j w at in
      link_there j i w facts.to facts.from facts.to_at facts.from_at (graph.both_ways facts.to facts.from ∙ facts.weight)

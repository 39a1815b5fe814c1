-- The way in a tree from one place to another: up until the other is under the place, and then down.
use Rattle.std.proofs.Common.{◌≡◌, ◌≢◌, ℕ, zero, suc, ◌+◌, ◌<◌, ◌≤◌, List, [], ◌∷◌, get_or, refl, ap, sym, subst, inl, inr, ◌⊎◌, arith, map, take}
use Rattle.std.specs.Prelude.{slice_index}
use Rattle.std.specs.List.{AllByRecursion}
use Rattle.std.proofs.lemmas.Bool.{cases_eq}
use Rattle.std.proofs.lemmas.List.{get_or-take}
use Rattle.ir_model.specs.Topology.{Topology, node_count, IsTopology}
use Rattle.ir_model.specs.Walk.{Linked, LeadsTo, IsConnected}
use Rattle.ir_model.specs.Numbering.{neighbors_of, IsDepthFirst}
use Rattle.ir_model.specs.Subtree.{IsUnder, itself, child, IsNested}
use Rattle.ir_model.specs.Plan.{AreLabels}
use Rattle.ir_numbering.proofs.Neighbors.{contains_linked, linked_back}
use Rattle.ir_numbering.proofs.Nested.{depth_first_nests, under_above, son_above, outside_means, under_cases, all_under}

-- the step from the place a towards the place i: to the son above i, or to the parent where i is not under a
abbrev pub IsStep : ℕ → List ℕ → ℕ → ℕ → ℕ → Type 0
IsStep n parents i a k =
    ((0 < k) × (k < n) × (slice_index parents k ≡ a) × IsUnder parents k i) ⊎ ((0 < a) × (k ≡ slice_index parents a) × (IsUnder parents a i → ⊥))

-- From a on, each place of the list is the step from the one before it towards i, and the last one is i.
abbrev pub Goes : ℕ → List ℕ → ℕ → ℕ → List ℕ → Type 0
Goes n parents i a [] = a ≡ i
Goes n parents i a (k ∷ rest) = IsStep n parents i a k × Goes n parents i k rest

module _ (n : ℕ) (parents : List ℕ) (nest : IsNested n parents) where
  way_down : (fuel a i : ℕ) → i ≤ a + fuel → i < n → IsUnder parents a i → (rest : List ℕ) × Goes n parents i a rest
  way_down zero a i f h u = let from = under_above n parents nest a u h in ([], omega arith)
  way_down (suc fuel) a i f h u =
      elim (cases_eq i a) [
        | inl e ↦ ([], sym e)
        | inr ne ↦
            let w = son_above n parents nest a u h ne in
            let low = nest.lower w.0 w.1 w.3 in
            let e = w.2 in
            let rest = way_down fuel w.0 i (omega arith) h w.4 in
            (w.0 ∷ rest.0, (inl (w.1, w.3, w.2, w.4), rest.1))
      ]

  -- there is a way from each place to each
  pub way : (fuel a i : ℕ) → a ≤ fuel → a < n → i < n → (rest : List ℕ) × Goes n parents i a rest
  way zero a i f own h = way_down i a i (omega arith) h (all_under n parents nest a (omega arith) i i (omega arith) h)
  way (suc fuel) a i f own h =
      elim (under_cases n parents nest a i i (omega arith) h) [
        | inl u ↦ way_down i a i (omega arith) h u
        | inr off ↦
            let from = outside_means n parents nest a i h off in
            let low = nest.lower a from own in
            let rest = way fuel (slice_index parents a) i (omega arith) (omega arith) h in
            (slice_index parents a ∷ rest.0, (inr (from, refl, off), rest.1))
      ]

  pub step_in : (a i k : ℕ) → a < n → IsStep n parents i a k → k < n
  step_in a i k own s = elim s [ inl d ↦ d.1 | inr u ↦ let low = nest.lower a u.0 own in let e = u.1 in omega arith ]

  pub under_through : (a c : ℕ) → IsUnder parents a c → {i : ℕ} → IsUnder parents c i → IsUnder parents a i
  under_through a c u itself = u
  under_through a c u (child i from v) = child i from (under_through a c u v)

  -- a later place on the way is not the place a
  abbrev pub After : ℕ → ℕ → ℕ → Type 0
  After i a k = (IsUnder parents a i × (a < k) × IsUnder parents k i) ⊎ ((IsUnder parents a i → ⊥) × ((k < a) ⊎ IsUnder parents k i))

  after_step : (a i b k : ℕ) → a < n → i < n → IsStep n parents i a b → After i b k → After i a k
  after_step a i b k own h s after =
      elim s [
        | inl d ↦
            let low = nest.lower b d.0 d.1 in
            let e = d.2 in
            let u : IsUnder parents a i = under_through a b (child b d.0 (subst (IsUnder parents a) (sym e) itself)) d.3 in
            elim after [ inl x ↦ let y = x.1 in inl (u, omega arith, x.2) | inr x ↦ absurd (x.0 d.3) ]
        | inr up ↦
            let low = nest.lower a up.0 own in
            let e = up.1 in
            elim after [
              | inl x ↦ inr (up.2, inr x.2)
              | inr x ↦ inr (up.2, elim x.1 [ inl lt ↦ inl (omega arith) | inr v ↦ inr v ])
            ]
      ]

  after_first : (a i b : ℕ) → a < n → IsStep n parents i a b → After i a b
  after_first a i b own s =
      elim s [
        | inl d ↦
            let low = nest.lower b d.0 d.1 in
            let e = d.2 in
            inl (under_through a b (child b d.0 (subst (IsUnder parents a) (sym e) itself)) d.3, omega arith, d.3)
        | inr up ↦
            let low = nest.lower a up.0 own in
            let e = up.1 in
            inr (up.2, inl (omega arith))
      ]

  pub after_way : (a i : ℕ) → a < n → i < n → (rest : List ℕ) → Goes n parents i a rest → AllByRecursion (After i a) rest
  after_way a i own h [] w = tt
  after_way a i own h (b ∷ rest) w =
      let b_in = step_in a i b own w.0 in
      (after_first a i b own w.0, later rest (after_way b i b_in h rest w.1))
    where
      later : (xs : List ℕ) → AllByRecursion (After i b) xs → AllByRecursion (After i a) xs
      later [] all = tt
      later (x ∷ xs) all = (after_step a i b x own h w.0 all.0, later xs all.1)

  pub not_again : (a i k : ℕ) → After i a k → a ≢ k
  not_again a i k after e =
      elim after [
        | inl x ↦ let y = x.1 in omega arith
        | inr x ↦ elim x.1 [ inl lt ↦ omega arith | inr v ↦ x.0 (subst (λ (y : ℕ). IsUnder parents y i) (sym e) v) ]
      ]

  -- all places of a way are places
  pub way_in : (a i : ℕ) → a < n → (rest : List ℕ) → Goes n parents i a rest → AllByRecursion (λ k. k < n) rest
  way_in a i own [] w = tt
  way_in a i own (b ∷ rest) w = let b_in = step_in a i b own w.0 in (b_in, way_in b i b_in rest w.1)

module _ (net : Topology) (ok : IsTopology net) (root : ℕ) (order parents : List ℕ) (is : IsDepthFirst (neighbors_of net) (node_count net) root order parents) where
  nest : IsNested (node_count net) parents
  nest = depth_first_nests (neighbors_of net) (node_count net) root order parents is

  pub parent_linked : (i : ℕ) → 0 < i → i < node_count net → Linked net (slice_index order (slice_index parents i)) (slice_index order i)
  parent_linked i from h =
      let every = is.every in
      let next = is.next i from h in
      let f = next.neighbor in
      let low = nest.lower i from h in
      let at : get_or (take i order) (slice_index parents i) 0 ≡ get_or order (slice_index parents i) 0 = get_or-take i order (slice_index parents i) 0 low in
      let l = contains_linked net (get_or (take i order) (slice_index parents i) 0) f.port f.below in
      subst (λ (x : ℕ). Linked net x (slice_index order i)) at (subst (Linked net (get_or (take i order) (slice_index parents i) 0)) f.is l)

  pub child_linked : (i : ℕ) → 0 < i → i < node_count net → Linked net (slice_index order i) (slice_index order (slice_index parents i))
  child_linked i from h = linked_back net ok _ _ (parent_linked i from h)

  pub step_linked : (a i k : ℕ) → a < node_count net → IsStep (node_count net) parents i a k → Linked net (slice_index order a) (slice_index order k)
  step_linked a i k own s =
      elim s [
        | inl d ↦ subst (λ (x : ℕ). Linked net (slice_index order x) (slice_index order k)) d.2 (parent_linked k d.0 d.1)
        | inr u ↦ subst (λ (x : ℕ). Linked net (slice_index order a) (slice_index order x)) (sym u.1) (child_linked a u.0 own)
      ]

  way_linked : (a i : ℕ) → a < node_count net → i < node_count net → (rest : List ℕ) → Goes (node_count net) parents i a rest
      → LeadsTo net (slice_index order a) (slice_index order i) (map (λ k. slice_index order k) rest)
  way_linked a i own h [] w = (ap (λ (k : ℕ). slice_index order k) w, let every = is.every in is.nodes i 0 (omega arith))
  way_linked a i own h (b ∷ rest) w =
      (step_linked a i b own w.0, way_linked b i (step_in (node_count net) parents nest a i b own w.0) h rest w.1)

  -- every node has a walk to every node
  pub tree_connects : (labels : List ℕ) → AreLabels (node_count net) order labels → IsConnected net
  tree_connects labels l u d u_in d_in =
      let a = slice_index labels u in
      let i = slice_index labels d in
      let a_in = l.label u u_in in
      let i_in = l.label d d_in in
      let w = way (node_count net) parents nest a a i (omega arith) a_in i_in in
      let to = way_linked a i a_in i_in w.0 w.1 in
      let P : ℕ → Type 0 = λ x. LeadsTo net x (slice_index order i) (map (λ k. slice_index order k) w.0) in
      let Q : ℕ → Type 0 = λ y. LeadsTo net u y (map (λ k. slice_index order k) w.0) in
      (u ∷ map (λ k. slice_index order k) w.0, (refl, subst Q (l.there d d_in) (subst P (l.there u u_in) to)))

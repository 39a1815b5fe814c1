-- What a search from the first node comes to.
use Rattle.std.proofs.Common.{◌≡◌, ◌<◌, ◌≤◌, ◌+◌, ℕ, zero, suc, Bool, true, false, cond, ◌||◌, List, [], ◌∷◌, ◌++◌, length, Option, Some, None, is_some, option_map, slice_get, refl, sym, ap, subst, ◌∙◌, nat_eq, true≢false, inl, inr, ◌⊎◌, ⊎_elim, arith}
use Rattle.std.specs.List.{list_any, IsDistinct, AllByRecursion}
use Rattle.std.proofs.lemmas.List.Folds.{list_any-append}
use Rattle.std.proofs.lemmas.Bool.{eqb-true, eq-eqb, or_cases, cases_eq}
use Rattle.std.proofs.lemmas.List.{length-map, append_assoc, append-nil}
use Rattle.std.proofs.lemmas.Option.{same_Some, none-some, slice_get_within}
use Rattle.std.proofs.lemmas.Map.Keys.{IsDistinct-cons}
use Rattle.std.proofs.lemmas.Map.Steps.{length-le_from_distinct_below, le-length_from_below}
use Rattle.ir_model.specs.Graph.{Name, Neighbors, Adjacency, names, has_node, has_edge, weight_of, IsGraph}
use Rattle.ir_model.specs.Places.{place_of, neighbors_at, neighbor_at}
use Rattle.ir_graph.specs.Paths.{IsPath, IsConnectedGraph}
use Rattle.ir_graph.specs.Reached.{HasPlace, HasWay, HasNeighbors, AreReached, AreClosed, HasMoreBehind}
use Rattle.std.proofs.Math.Bool.{or-false}
use Rattle.ir_graph.proofs.Joined.{one_place, has_node-weight_of}
use Rattle.ir_graph.proofs.Places.{link_facts, link_there, at_place_of, place_of_within, has_node_at, name_there}

-- ---- lists of places

pub place_there : (places : List ℕ) (k i : ℕ) → slice_get places k ≡ Some i → HasPlace places i
place_there [] k i h = absurd (none-some i h)
place_there (j ∷ places) zero i h = ap (λ b. b || list_any (nat_eq i) places) (eq-eqb i j (sym (same_Some j i h)))
place_there (j ∷ places) (suc k) i h = by (nat_eq i j) (place_there places k i h)
  where
    by : (b : Bool) → list_any (nat_eq i) places ≡ true → (b || list_any (nat_eq i) places) ≡ true
    by true later = refl
    by false later = later

pub there_place : (places : List ℕ) (i : ℕ) → HasPlace places i → (k : ℕ) × (slice_get places k ≡ Some i)
there_place [] i h = cc
there_place (j ∷ places) i h = by (nat_eq i j) refl h (there_place places i)
  where
    by : (b : Bool) → nat_eq i j ≡ b → (b || list_any (nat_eq i) places) ≡ true → (HasPlace places i → (k : ℕ) × (slice_get places k ≡ Some i)) → (k : ℕ) × (slice_get (j ∷ places) k ≡ Some i)
    by true e h later = (zero, ap (λ (n : ℕ). Some n) (sym (eqb-true i j e)))
    by false e h later = let w = later h in (suc w.0, w.1)

pub kept_place : (before after : List ℕ) → HasMoreBehind before after → (i : ℕ) → HasPlace before i → HasPlace after i
kept_place before after on i h = ap (list_any (nat_eq i)) on.1 ∙ list_any-append (nat_eq i) before on.0 ∙ ap (λ b. b || list_any (nat_eq i) on.0) h

kept_at : (xs ys : List ℕ) (k : ℕ) → k < length xs → slice_get (xs ++ ys) k ≡ slice_get xs k
kept_at [] ys k h = absurd (omega (arith, h))
kept_at (x ∷ xs) ys zero h = refl
kept_at (x ∷ xs) ys (suc k) h = kept_at xs ys k (omega (arith, h))

-- a place that is put in, if it isn't there
abbrev pub IsPut : List ℕ → ℕ → List ℕ → Type 0
IsPut places j after = after ≡ cond (list_any (nat_eq j) places) places (places ++ j ∷ [])

pub goes_on_put : (before places after : List ℕ) (j : ℕ) → HasMoreBehind before places → IsPut places j after → HasMoreBehind before after
goes_on_put before places after j on e = by (list_any (nat_eq j) places) e
  where
    by : (b : Bool) → after ≡ cond b places (places ++ j ∷ []) → HasMoreBehind before after
    by true h = (on.0, h ∙ on.1)
    by false h = (on.0 ++ j ∷ [], h ∙ ap (λ t. t ++ j ∷ []) on.1 ∙ append_assoc before on.0 (j ∷ []))

pub goes_on_none : (places : List ℕ) → HasMoreBehind places places
goes_on_none places = ([], sym (append-nil places))

pub has_put : (places after : List ℕ) (j : ℕ) → IsPut places j after → HasPlace after j
has_put places after j e = by (list_any (nat_eq j) places) refl e
  where
    by : (b : Bool) → list_any (nat_eq j) places ≡ b → after ≡ cond b places (places ++ j ∷ []) → HasPlace after j
    by true t h = ap (list_any (nat_eq j)) h ∙ t
    by false t h = ap (list_any (nat_eq j)) h ∙ list_any-append (nat_eq j) places (j ∷ []) ∙ ap (λ b. list_any (nat_eq j) places || (b || false)) (eq-eqb j j refl) ∙ ap (λ b. b || true) t

-- what is there after was there or was put in
put_cases : (places after : List ℕ) (j i : ℕ) → IsPut places j after → HasPlace after i → HasPlace places i ⊎ (i ≡ j)
put_cases places after j i e there = by (list_any (nat_eq j) places) e
  where
    by : (b : Bool) → after ≡ cond b places (places ++ j ∷ []) → HasPlace places i ⊎ (i ≡ j)
    by true h = inl (sym (ap (list_any (nat_eq i)) h) ∙ there)
    by false h =
        ⊎_elim (λ old. inl old) (λ new. inr (eqb-true i j (sym (or-false (nat_eq i j)) ∙ new)))
        (or_cases (list_any (nat_eq i) places) (nat_eq i j || false) (sym (list_any-append (nat_eq i) places (j ∷ [])) ∙ sym (ap (list_any (nat_eq i)) h) ∙ there))

-- ---- paths

path_more : (g : Adjacency) (x y z : Name) (path : List Name) → IsPath g x y path → has_edge g y z ≡ true → IsPath g x z (path ++ z ∷ [])
path_more g x y z [] way e = (ap (λ n. has_edge g n z) way ∙ e, refl)
path_more g x y z (v ∷ rest) way e = (way.0, path_more g v y z rest way.1 e)

path_join : (g : Adjacency) (x y z : Name) (one two : List Name) → IsPath g x y one → IsPath g y z two → IsPath g x z (one ++ two)
path_join g x y z [] two way next = let P : Name → Type 0 = λ n. IsPath g n z two in subst P (sym way) next
path_join g x y z (v ∷ rest) two way next = (way.0, path_join g v y z rest two way.1 next)

path_back : (g : Adjacency) → IsGraph g → (x y : Name) (path : List Name) → IsPath g x y path → (back : List Name) × IsPath g y x back
path_back g graph x y [] way = ([], sym way)
path_back g graph x y (z ∷ rest) way =
    let later = path_back g graph z y rest way.1 in
    (later.0 ++ x ∷ [], path_more g y z x later.0 later.1 (ap is_some (graph.both_ways z x) ∙ way.0))

-- ---- the search

module _ (g : Adjacency) (graph : IsGraph g) where
  -- a neighbour of a node that was reached is reached
  pub reached_put : (places after : List ℕ) (i p j w : ℕ) → AreReached g places → HasPlace places i → neighbor_at g i p ≡ Some (j, w) → IsPut places j after → IsDistinct nat_eq after → AreReached g after
  reached_put places after i p j w reached there link put differ = record {
    differ = differ;
    ways = λ k h. ⊎_elim (λ old. reached.ways k old) (λ new. subst (HasWay g) (sym new) more) (put_cases places after j k put h);
  }
    where
      more : HasWay g j
      more =
          let way = reached.ways i there in
          let facts = link_facts g graph i p j w link in
          let same : way.last ≡ facts.from = same_Some way.last facts.from (sym way.last_at ∙ facts.from_at) in
          record {
            first = way.first;
            last = facts.to;
            path = way.path ++ facts.to ∷ [];
            first_at = way.first_at;
            last_at = facts.to_at;
            way = path_more g way.first way.last facts.to way.path way.way (ap (λ n. has_edge g n facts.to) same ∙ ap is_some facts.weight);
          }

  -- the first node is reached
  pub reached_first : (places : List ℕ) → 0 < length g → places ≡ 0 ∷ [] → IsDistinct nat_eq places → AreReached g places
  reached_first places some e differ = record {
    differ = differ;
    ways = λ i h. (let first = name_there g 0 some in
        let zero_is : i ≡ 0 = eqb-true i 0 (sym (or-false (nat_eq i 0)) ∙ sym (ap (list_any (nat_eq i)) e) ∙ h) in
        subst (HasWay g) (sym zero_is) (record { first = first.0; last = first.0; path = []; first_at = first.1; last_at = first.1; way = refl }));
  }

  pub neighbors_more : (before after : List ℕ) (i p : ℕ) → HasMoreBehind before after → HasNeighbors g before i p → ((j w : ℕ) → neighbor_at g i p ≡ Some (j, w) → HasPlace after j) → HasNeighbors g after i (p + 1)
  neighbors_more before after i p on so_far here q j w h link = by (cases_eq q p)
    where
      by : (q ≡ p) ⊎ (q ≡ p → ⊥) → HasPlace after j
      by (inl e) = here j w (ap (neighbor_at g i) (sym e) ∙ link)
      by (inr ne) = kept_place before after on j (so_far q j w (omega arith) link)

  pub neighbors_kept : (before after : List ℕ) (i p : ℕ) → HasMoreBehind before after → HasNeighbors g before i p → HasNeighbors g after i p
  neighbors_kept before after i p on so_far q j w h link = kept_place before after on j (so_far q j w h link)

  -- the first places that were reached have their neighbours among all that were
  abbrev pub ClosedBefore : List ℕ → ℕ → Type 0
  ClosedBefore places n = (k i : ℕ) → k < n → slice_get places k ≡ Some i → HasNeighbors g places i (length (neighbors_at g i))

  pub closed_more : (before after : List ℕ) (n i : ℕ) → HasMoreBehind before after → ClosedBefore before n → slice_get before n ≡ Some i → HasNeighbors g after i (length (neighbors_at g i)) → ClosedBefore after (n + 1)
  closed_more before after n i on so_far at all k j h at_k =
      let within : n < length before = slice_get_within before n i at in
      let same : slice_get before k ≡ Some j = sym (ap (λ xs. slice_get xs k) on.1 ∙ kept_at before on.0 k (omega arith)) ∙ at_k in
      ⊎_elim
      (λ (e : k ≡ n). let P : ℕ → Type 0 = λ m. HasNeighbors g after m (length (neighbors_at g m)) in subst P (same_Some i j (sym at ∙ ap (slice_get before) (sym e) ∙ same)) all)
      (λ ne. let earlier : k < n = omega (arith, h, ne) in neighbors_kept before after j (length (neighbors_at g j)) on (so_far k j earlier same))
      (cases_eq k n)

  pub closed_past : (places : List ℕ) (n : ℕ) → ClosedBefore places n → slice_get places n ≡ None → ClosedBefore places (n + 1)
  closed_past places n so_far past k j h at_k =
      ⊎_elim
      (λ (e : k ≡ n). absurd (none-some j (sym past ∙ ap (slice_get places) (sym e) ∙ at_k)))
      (λ ne. let earlier : k < n = omega (arith, h, ne) in so_far k j earlier at_k)
      (cases_eq k n)

  place_below : (places : List ℕ) → AreReached g places → (q : ℕ) → HasPlace places q → q < length g
  place_below places reached q h =
      let way = reached.ways q h in
      subst (λ n. q < n) (length-map g (λ (r : Name × Neighbors). r.0)) (slice_get_within (names g) q way.last way.last_at)

  few_places : (places : List ℕ) → AreReached g places → length places ≤ length g
  few_places places reached = length-le_from_distinct_below places (length g) reached.differ (place_below places reached)

  -- once as many turns were taken as there are nodes, all are closed
  pub closed_all : (places : List ℕ) → AreReached g places → ClosedBefore places (length g) → AreClosed g places
  closed_all places reached so_far i h =
      let at = there_place places i h in
      let within : at.0 < length places = slice_get_within places at.0 i at.1 in
      so_far at.0 i (omega (arith, within, few_places places reached)) at.1

  -- ---- all were reached where the graph is connected, and only there

  each_below : (xs : List ℕ) (q : ℕ) → list_any (nat_eq q) xs ≡ false → AllByRecursion (λ k. nat_eq q k ≡ false) xs
  each_below [] q h = tt
  each_below (x ∷ xs) q h = by (nat_eq q x) refl h (each_below xs q)
    where
      by : (b : Bool) → nat_eq q x ≡ b → (b || list_any (nat_eq q) xs) ≡ false → (list_any (nat_eq q) xs ≡ false → AllByRecursion (λ k. nat_eq q k ≡ false) xs) → AllByRecursion (λ k. nat_eq q k ≡ false) (x ∷ xs)
      by true e h later = absurd (true≢false h)
      by false e h later = (e, later h)

  all_there : (places : List ℕ) → AreReached g places → length places ≡ length g → (q : ℕ) → q < length g → HasPlace places q
  all_there places reached full q h = by (list_any (nat_eq q) places) refl
    where
      below : (k : ℕ) → list_any (nat_eq k) (q ∷ places) ≡ true → k < length g
      below k any = ⊎_elim (λ here. let e : k ≡ q = eqb-true k q here in omega (arith, e, h)) (λ later. place_below places reached k later) (or_cases (nat_eq k q) (list_any (nat_eq k) places) any)

      by : (b : Bool) → list_any (nat_eq q) places ≡ b → b ≡ true
      by true e = refl
      by false e =
          let more : length (q ∷ places) ≤ length g = length-le_from_distinct_below (q ∷ places) (length g) (IsDistinct-cons nat_eq q places (each_below places q e) reached.differ) below in
          absurd (omega (arith, more, full))

  pub connected_full : (places : List ℕ) → AreReached g places → length places ≡ length g → IsConnectedGraph g
  connected_full places reached full x y node_x node_y =
      let to_x = reached.ways (place_of g x) (all_there places reached full (place_of g x) (place_of_within g x node_x)) in
      let to_y = reached.ways (place_of g y) (all_there places reached full (place_of g y) (place_of_within g y node_y)) in
      let same_x : to_x.last ≡ x = same_Some to_x.last x (sym to_x.last_at ∙ at_place_of g x node_x) in
      let same_y : to_y.last ≡ y = same_Some to_y.last y (sym to_y.last_at ∙ at_place_of g y node_y) in
      let start : to_x.first ≡ to_y.first = same_Some to_x.first to_y.first (sym to_x.first_at ∙ to_y.first_at) in
      let back = path_back g graph to_x.first to_x.last to_x.path to_x.way in
      let forth : IsPath g to_x.first to_y.last to_y.path = subst (λ (n : Name). IsPath g n to_y.last to_y.path) (sym start) to_y.way in
      let joined : IsPath g to_x.last to_y.last (back.0 ++ to_y.path) = path_join g to_x.last to_x.first to_y.last back.0 to_y.path back.1 forth in
      (back.0 ++ to_y.path, subst (λ (n : Name). IsPath g n y (back.0 ++ to_y.path)) same_x (subst (λ (n : Name). IsPath g to_x.last n (back.0 ++ to_y.path)) same_y joined))

  link_within : (i p j w : ℕ) → neighbor_at g i p ≡ Some (j, w) → p < length (neighbors_at g i)
  link_within i p j w e = by (slice_get (neighbors_at g i) p) refl e
    where
      by : (o : Option (Name × ℕ)) → slice_get (neighbors_at g i) p ≡ o → option_map {U = ℕ × ℕ} (λ (e : Name × ℕ). (place_of g e.0, e.1)) o ≡ Some (j, w) → p < length (neighbors_at g i)
      by None f h = absurd (none-some _ h)
      by (Some e) f h = slice_get_within (neighbors_at g i) p e f

  -- what a path from a place leads to is there
  along : (places : List ℕ) → AreClosed g places → (i q : ℕ) (x y : Name) (path : List Name) → slice_get (names g) i ≡ Some x → slice_get (names g) q ≡ Some y → HasPlace places i → IsPath g x y path → HasPlace places q
  along places closed i q x y [] at_i at_q there way =
      subst (HasPlace places) (one_place (names g) i q x graph.nodes_differ at_i (at_q ∙ ap (λ (n : Name). Some n) (sym way))) there
  along places closed i q x y (z ∷ rest) at_i at_q there way = by (λ j at_j there_j. along places closed j q z y rest at_j at_q there_j way.1) (weight_of g x z) refl
    where
      by : ((j : ℕ) → slice_get (names g) j ≡ Some z → HasPlace places j → HasPlace places q) → (o : Option ℕ) → weight_of g x z ≡ o → HasPlace places q
      by later None e = absurd (true≢false (sym way.0 ∙ ap is_some e))
      by later (Some w) e =
          let node_z : has_node g z ≡ true = has_node-weight_of g z x (ap is_some (graph.both_ways z x ∙ e)) in
          let at_z = at_place_of g z node_z in
          let link = link_there g graph i (place_of g z) w x z at_i at_z e in
          later (place_of g z) at_z (closed i there link.0 (place_of g z) w (link_within i link.0 (place_of g z) w link.1) link.1)

  pub full_connected : (places : List ℕ) → AreReached g places → AreClosed g places → HasPlace places 0 → 0 < length g → IsConnectedGraph g → length places ≡ length g
  full_connected places reached closed first some connected =
      let start = name_there g 0 some in
      let more : length g ≤ length places = le-length_from_below places (length g) (λ q h.
      let end = name_there g q h in
      let path = connected start.0 end.0 (has_node_at g 0 start.0 start.1) (has_node_at g q end.0 end.1) in
      along places closed 0 q start.0 end.0 path.0 start.1 end.1 first path.1) in
      omega (arith, more, few_places places reached)

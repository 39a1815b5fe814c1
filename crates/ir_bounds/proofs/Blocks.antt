-- The trees of the blocks of landmarks: the parent of each node, and that each node is below a landmark.
use Rattle.std.proofs.Common.{◌≡◌, ◌≢◌, ℕ, zero, suc, ◌+◌, ◌<◌, ◌≤◌, ◌⊎◌, Bool, true, false, List, [], ◌∷◌, ◌++◌, length, take, drop, Option, Some, None, refl, ap, sym, ◌∙◌, subst, inl, inr, arith}
use Rattle.std.specs.Prelude.{All, Contains, IfSome, filter, slice_get, slice_index, slice_index_or, ◌==◌, if◌then◌else◌}
use Rattle.std.proofs.lemmas.Bool.{cases_eq, cases_lt, cases_Bool, eq-eqb}
use Rattle.std.proofs.lemmas.Option.{same_Some, slice_get_within}
use Rattle.std.proofs.lemmas.List.{append-nil, get_or_default}
use Rattle.std.proofs.lemmas.List.Elements.{All-append, All-drop, All-filter, All-get_or, filter_more, Contains-append_left, Contains-append_right}
use Rattle.ir_model.specs.declared.Hop.{Hop}
use Rattle.ir_model.specs.Topology.{Topology, node_count, ports_of, port_at, IsTopology, port_back}
use Rattle.ir_model.specs.Numbering.{neighbors_of, IsDepthFirst}
use Rattle.ir_model.specs.Walk.{IsDistance}
use Rattle.ir_model.specs.Landmark.{AreLandmarks, HaveDistances, IsLandmarkOf, IsOnTheWay, IsBlockParent, AreBlocks, sons_of, followers}
use Rattle.ir_model.proofs.Walks.{PortFacts, port_facts}
use Rattle.ir_model.proofs.Tables.{distance_own, distance_unique}
use Rattle.ir_model.proofs.Landmarks.{landmark_on_the_way, landmark_unique, shortest_step}
use Rattle.ir_numbering.specs.Search.{IsClosed}
use Rattle.ir_numbering.proofs.Adjacent.{depth_first_by}
use Rattle.ir_numbering.proofs.Neighbors.{neighbor_at, neighbors_below}
use Rattle.ir_numbering.proofs.Traversal.{some_unseen}
use Rattle.ir_bounds.specs.Bounds.{AreOwnersBy}
use Rattle.ir_bounds.specs.Blocks.{IsInward}

-- of the first i ports those that are good lead to no lesser node than the best one, which a good port leads to
pub record IsLeastHop (Good : Hop → Type 0) (ports : List Hop) (i : ℕ) (best : Option ℕ) : Type 0 where
  pub found : (x : ℕ) → best ≡ Some x → (p : ℕ) × (hop : Hop) × (slice_get ports p ≡ Some hop) × Good hop × (hop.node ≡ x)
  pub none : best ≡ None → (p : ℕ) (hop : Hop) → p < i → slice_get ports p ≡ Some hop → Good hop → ⊥
  pub least : (x : ℕ) → best ≡ Some x → (p : ℕ) (hop : Hop) → p < i → slice_get ports p ≡ Some hop → Good hop → x ≤ hop.node

pub least_begun : (Good : Hop → Type 0) (ports : List Hop) → IsLeastHop Good ports 0 None
least_begun Good ports = record {
  found = λ x e. absurd (cc e);
  none = λ e p hop lt. absurd (omega (arith, lt));
  least = λ x e. absurd (cc e);
}

module _ (Good : Hop → Type 0) (ports : List Hop) (i : ℕ) (here : Hop) (at : slice_get ports i ≡ Some here) where
  -- another port that is not good
  pub least_kept : (best : Option ℕ) → IsLeastHop Good ports i best → (Good here → ⊥) → IsLeastHop Good ports (i + 1) best
  least_kept best is bad = record {
    found = is.found;
    none = λ e p hop lt there good. by_place p hop (λ low. is.none e p hop low there good) lt there good;
    least = λ x e p hop lt there good. by_place p hop (λ low. is.least x e p hop low there good) lt there good;
  }
    where
      by_place : {C : Type 0} (p : ℕ) (hop : Hop) → (p < i → C) → p < i + 1 → slice_get ports p ≡ Some hop → Good hop → C
      by_place p hop old lt there good =
          elim (cases_eq p i) [
            | inl e ↦ absurd (bad (subst Good (same_Some hop here (sym there ∙ ap (slice_get ports) e ∙ at)) good))
            | inr ne ↦ old (omega (arith, lt, ne))
          ]

  -- another one that is
  pub least_taken : (best : Option ℕ) (y : ℕ) → IsLeastHop Good ports i best → Good here → y ≤ here.node → IfSome best (λ x. y ≤ x) → (y ≡ here.node) ⊎ (best ≡ Some y) → IsLeastHop Good ports (i + 1) (Some y)
  least_taken best y is good low below one = record {
    found = λ x e.
        let same : y ≡ x = same_Some y x e in
        elim one [
          | inl new ↦ (i, here, at, good, sym new ∙ same)
          | inr old ↦ is.found x (old ∙ e)
        ];
    none = λ e. absurd (cc e);
    least = λ x e p hop lt there good_hop.
        let same : y ≡ x = same_Some y x e in
        elim (cases_eq p i) [
          | inl e' ↦ let k : hop ≡ here = same_Some hop here (sym there ∙ ap (slice_get ports) e' ∙ at) in subst (λ (h : Hop). x ≤ h.node) (sym k) (omega (arith, low, same))
          | inr ne ↦ over best is below p hop (omega (arith, lt, ne)) there good_hop x same
        ];
  }
    where
      over : (best : Option ℕ) → IsLeastHop Good ports i best → IfSome best (λ x. y ≤ x) → (p : ℕ) (hop : Hop) → p < i → slice_get ports p ≡ Some hop → Good hop → (x : ℕ) → y ≡ x → x ≤ hop.node
      over None is below p hop lt there good x same = absurd (is.none refl p hop lt there good)
      over (Some z) is below p hop lt there good x same = let le : z ≤ hop.node = is.least z refl p hop lt there good in omega (arith, le, below, same)

-- the ports that lead inward are those on the shortest ways to the landmark
module _ (net : Topology) (ok : IsTopology net) (far_between : HaveDistances net) (landmarks nodes radii : List ℕ) (are : AreOwnersBy net landmarks nodes radii) (v : ℕ) (v_in : v < node_count net) where
  of : IsLandmarkOf net landmarks v (slice_index nodes v) (slice_index radii v)
  of = are.each v v_in

  inward_leads : (p : ℕ) (hop : Hop) → port_at net v p ≡ Some hop → IsInward nodes radii v hop → IsOnTheWay net v (slice_index nodes v) hop.node
  inward_leads p hop at good =
      let to = (port_facts net ok v p hop at).to in (
        p,
        hop,
        slice_index radii hop.node,
        at,
        refl,
        subst (λ (x : ℕ). IsDistance net hop.node x (slice_index radii hop.node)) good.0 (are.each hop.node to).away,
        subst (λ (x : ℕ). IsDistance net v (slice_index nodes v) x) good.1 of.away,
      )

  leads_inward : (p : ℕ) (hop : Hop) (rest : ℕ) → port_at net v p ≡ Some hop → IsDistance net hop.node (slice_index nodes v) rest → IsDistance net v (slice_index nodes v) (hop.weight + rest) → IsInward nodes radii v hop
  leads_inward p hop rest at near far =
      let to = (port_facts net ok v p hop at).to in
      let sum : slice_index radii v ≡ hop.weight + rest = distance_unique net v (slice_index nodes v) (slice_index radii v) (hop.weight + rest) of.away far in
      let on = landmark_on_the_way net ok far_between landmarks v (slice_index nodes v) (slice_index radii v) of p hop rest at near sum in
      let same = landmark_unique net landmarks hop.node (slice_index nodes hop.node) (slice_index nodes v) (slice_index radii hop.node) rest (are.each hop.node to) on in
      (same.0, sum ∙ ap (λ (x : ℕ). hop.weight + x) (sym same.1))

  -- a node on the way is where a port leads that leads inward
  on_the_way_inward : (x : ℕ) → IsOnTheWay net v (slice_index nodes v) x → (p : ℕ) × (hop : Hop) × (port_at net v p ≡ Some hop) × IsInward nodes radii v hop × (hop.node ≡ x)
  on_the_way_inward x w =
      let hop : Hop = w.1 in
      let near : IsDistance net hop.node (slice_index nodes v) w.2 = subst (λ (y : ℕ). IsDistance net y (slice_index nodes v) w.2) (sym w.4) w.5 in
      (w.0, hop, w.3, leads_inward w.0 hop w.2 w.3 near w.6, w.4)

  module _ (i : ℕ) (best : Option ℕ) (is : IsLeastHop (IsInward nodes radii v) (ports_of net v) i best) (all : length (ports_of net v) ≤ i) where
    -- only from a landmark none leads inward
    parent_itself : best ≡ None → IsBlockParent net landmarks v v
    parent_itself e = record {
      landmark = slice_index nodes v;
      radius = slice_index radii v;
      of_node = of;
      itself = λ _. refl;
      on_the_way = λ other.
          let step = shortest_step net ok v (slice_index nodes v) (slice_index radii v) other of.away in
          absurd (no step.0 step.1 step.3 (leads_inward step.0 step.1 step.2 step.3 step.4 (subst (λ (x : ℕ). IsDistance net v (slice_index nodes v) x) step.5 of.away)));
      least = λ x w. let g = on_the_way_inward x w in absurd (no g.0 g.1 g.2 g.3);
    }
      where
        no : (p : ℕ) (hop : Hop) → port_at net v p ≡ Some hop → IsInward nodes radii v hop → ⊥
        no p hop at good = let within = slice_get_within (ports_of net v) p hop at in is.none e p hop (omega (arith, within, all)) at good

    -- and else the least such node is the parent
    parent_found : (x : ℕ) → best ≡ Some x → IsBlockParent net landmarks v x
    parent_found x e =
        let g = is.found x e in
        let lead = inward_leads g.0 g.1 g.2 g.3 in
        record {
          landmark = slice_index nodes v;
          radius = slice_index radii v;
          of_node = of;
          itself = λ same.
              let facts : PortFacts net v g.1 = port_facts net ok v g.0 g.1 g.2 in
              let own : IsDistance net v (slice_index nodes v) 0 = subst (λ (y : ℕ). IsDistance net v y 0) same (distance_own net v v_in) in
              let none : slice_index radii v ≡ 0 = distance_unique net v (slice_index nodes v) (slice_index radii v) 0 of.away own in
              absurd (omega (arith, facts.positive, none, g.3.1));
          on_the_way = λ _. subst (IsOnTheWay net v (slice_index nodes v)) g.4 lead;
          least = λ y w.
              let h = on_the_way_inward y w in
              let within = slice_get_within (ports_of net v) h.0 h.1 h.2 in
              let le = is.least x e h.0 h.1 (omega (arith, within, all)) h.2 h.3 in
              omega (arith, le, h.4);
        }

    pub parent_is : (r : ℕ) → (best ≡ None → r ≡ v) → IfSome best (λ x. r ≡ x) → IsBlockParent net landmarks v r
    parent_is r none some = by_best best refl some
      where
        by_best : (b : Option ℕ) → best ≡ b → IfSome b (λ x. r ≡ x) → IsBlockParent net landmarks v r
        by_best None e some = subst (IsBlockParent net landmarks v) (sym (none e)) (parent_itself e)
        by_best (Some x) e some = subst (IsBlockParent net landmarks v) (sym some) (parent_found x e)

-- one node more, which passes a test or does not
module _ (p : ℕ → Bool) (now nodes : List ℕ) (i x : ℕ) (inside : i < length nodes) (is : slice_index nodes i ≡ x) (so_far : now ≡ filter p (take i nodes)) where
  pub passes_more : p x ≡ true → (more : List ℕ) → more ≡ now ++ (x ∷ []) → more ≡ filter p (take (i + 1) nodes)
  passes_more yes_p more e =
      let one : filter p (take (i + 1) nodes) ≡ filter p (take i nodes) ++ (x ∷ []) = filter_more p nodes i 0 inside ∙ rw (is, yes_p) refl in
      e ∙ ap (λ (xs : List ℕ). xs ++ (x ∷ [])) so_far ∙ sym one

  pub passes_no_more : p x ≡ false → (more : List ℕ) → more ≡ now → more ≡ filter p (take (i + 1) nodes)
  passes_no_more no_p more e =
      let same : filter p (take (i + 1) nodes) ≡ filter p (take i nodes) = filter_more p nodes i 0 inside ∙ rw (is, no_p) (append-nil (filter p (take i nodes))) in
      e ∙ so_far ∙ sym same

-- what passes a test stays in what is left of a list
contains_filter : (p : ℕ → Bool) (xs : List ℕ) (x : ℕ) → Contains xs x → p x ≡ true → Contains (filter p xs) x
contains_filter p [] x has yes_p = absurd (omega (arith, has.1))
contains_filter p (y ∷ xs) x has yes_p = at (λ old. contains_filter p xs x old yes_p) has.0 has.1 has.2
  where
    later : Contains (filter p xs) x → Contains (filter p (y ∷ xs)) x
    later w = elim (cases_Bool (p y)) [ inl e ↦ rw e (suc w.0, omega (arith, w.1), w.2) | inr e ↦ rw e w ]

    at : (Contains xs x → Contains (filter p xs) x) → (k : ℕ) → k < length (y ∷ xs) → slice_index_or (y ∷ xs) k x ≡ x → Contains (filter p (y ∷ xs)) x
    at go zero lt e = let yes_y : p y ≡ true = ap p e ∙ yes_p in rw yes_y (0, omega arith, e)
    at go (suc k) lt e = later (go (k, omega (arith, lt), e))

-- followers are nodes
pub followers_below : (net : Topology) → IsTopology net → (landmarks : List ℕ) → AreLandmarks net landmarks → (parent : ℕ → ℕ) (u : ℕ) → All (λ v. v < node_count net) (followers net landmarks parent u)
followers_below net ok landmarks are parent u =
    All-append (λ v. v < node_count net) (sons_of net parent u) (if slice_index landmarks 0 == u then drop 1 landmarks else [])
    (All-filter (λ v. parent v == u) (λ v. v < node_count net) (neighbors_of net u) (neighbors_below net ok u)) others
  where
    others : All (λ v. v < node_count net) (if slice_index landmarks 0 == u then drop 1 landmarks else [])
    others =
        elim (cases_Bool (slice_index landmarks 0 == u)) [
          | inl e ↦ rw e (All-drop (λ v. v < node_count net) 1 landmarks are.nodes)
          | inr e ↦ rw e (λ k d lt. absurd (omega (arith, lt)))
        ]

-- What has the first landmark and the followers of each node that it has, has all nodes.
module _ (net : Topology) (ok : IsTopology net) (far_between : HaveDistances net) (landmarks : List ℕ) (parent : ℕ → ℕ)
    (parents : (v : ℕ) → v < node_count net → IsBlockParent net landmarks v (parent v)) (Has : ℕ → Type 0)
    (first : Has (slice_index landmarks 0)) (more : (u v : ℕ) → u < node_count net → Has u → Contains (followers net landmarks parent u) v → Has v) where
  -- the other landmarks follow the first
  has_landmark : (first_in : slice_index landmarks 0 < node_count net) (l : ℕ) → Contains landmarks l → Has l
  has_landmark first_in l has =
      let at : slice_index landmarks has.0 ≡ l = get_or_default landmarks has.0 0 l has.1 ∙ has.2 in
      elim (cases_eq has.0 0) [
        | inl e ↦ subst Has (sym (ap (slice_index landmarks) e) ∙ at) first
        | inr ne ↦ more (slice_index landmarks 0) l first_in first (Contains-append_right (sons_of net parent (slice_index landmarks 0)) _ l (follows landmarks l has ne))
      ]
    where
      later : (xs : List ℕ) (l : ℕ) (w : Contains xs l) → w.0 ≢ 0 → Contains (drop 1 xs) l
      later [] l w ne = absurd (omega (arith, w.1))
      later (x ∷ xs) l w ne = at w.0 w.1 w.2 ne
        where
          at : (k : ℕ) → k < length (x ∷ xs) → slice_index_or (x ∷ xs) k l ≡ l → k ≢ 0 → Contains xs l
          at zero lt e ne = absurd (ne refl)
          at (suc k) lt e ne = (k, omega (arith, lt), e)

      follows : (xs : List ℕ) (l : ℕ) (w : Contains xs l) → w.0 ≢ 0 → Contains (if slice_index xs 0 == slice_index xs 0 then drop 1 xs else []) l
      follows xs l w ne = let same : (slice_index xs 0 == slice_index xs 0) ≡ true = eq-eqb (slice_index xs 0) (slice_index xs 0) refl in rw same (later xs l w ne)

  -- a node follows its parent
  has_son : (v x : ℕ) → x < node_count net → Has x → parent v ≡ x → (p : ℕ) (hop : Hop) → port_at net v p ≡ Some hop → hop.node ≡ x → Has v
  has_son v x x_in has is p hop at to =
      let back = ok.paired v p hop at in
      let there = neighbor_at net hop.node back.0 (port_back v hop) back.1 in
      let near : Contains (neighbors_of net hop.node) v = (back.0, there.0, get_or_default (neighbors_of net hop.node) back.0 v 0 there.0 ∙ there.1) in
      let by : Contains (neighbors_of net x) v = subst (λ (y : ℕ). Contains (neighbors_of net y) v) to near in
      more x v x_in has (Contains-append_left (sons_of net parent x) _ v (contains_filter (λ y. parent y == x) (neighbors_of net x) v by (eq-eqb (parent v) x is)))

  reached : (k v : ℕ) (v_in : v < node_count net) → (parents v v_in).radius < k → slice_index landmarks 0 < node_count net → Has v
  reached zero v v_in lt first_in = absurd (omega (arith, lt))
  reached (suc k) v v_in lt first_in =
      let b = parents v v_in in
      elim (cases_eq v b.landmark) [
        | inl own ↦ subst Has (sym own) (has_landmark first_in b.landmark (let o = b.of_node in o.among))
        | inr other ↦
            let w = b.on_the_way other in
            let hop : Hop = w.1 in
            let facts : PortFacts net v hop = port_facts net ok v w.0 hop w.3 in
            let near : IsDistance net hop.node b.landmark w.2 = subst (λ (y : ℕ). IsDistance net y b.landmark w.2) (sym w.4) w.5 in
            let of = b.of_node in
            let sum : b.radius ≡ hop.weight + w.2 = distance_unique net v b.landmark b.radius (hop.weight + w.2) of.away w.6 in
            let on = landmark_on_the_way net ok far_between landmarks v b.landmark b.radius of w.0 hop w.2 w.3 near sum in
            let c = parents hop.node facts.to in
            let same = landmark_unique net landmarks hop.node c.landmark b.landmark c.radius w.2 c.of_node on in
            has_son v hop.node facts.to (reached k hop.node facts.to (omega (arith, same.1, sum, facts.positive, lt)) first_in) (sym w.4) w.0 hop w.3 refl
      ]

  pub all_reached : slice_index landmarks 0 < node_count net → (v : ℕ) → v < node_count net → Has v
  all_reached first_in v v_in = reached (suc (parents v v_in).radius) v v_in (omega arith) first_in

-- what a search by followers finds from the first landmark on are the blocks
pub blocks_found : (net : Topology) → IsTopology net → HaveDistances net → (landmarks : List ℕ) → AreLandmarks net landmarks → (parent : ℕ → ℕ) → ((v : ℕ) → v < node_count net → IsBlockParent net landmarks v (parent v))
    → (adjacent : ℕ → List ℕ) → ((u : ℕ) → u < node_count net → adjacent u ≡ followers net landmarks parent u) → (root : ℕ) → root ≡ slice_index landmarks 0 → (order places : List ℕ)
    → (node_count net ≤ length order → IsDepthFirst adjacent (node_count net) root order places) → (length order < node_count net → IsClosed adjacent root order) → AreBlocks net landmarks order
blocks_found net ok far_between landmarks are parent parents adjacent same root first order places all some =
    let n : ℕ = node_count net in
    let first_in : slice_index landmarks 0 < n = All-get_or (λ l. l < n) landmarks 0 0 are.some are.nodes in
    let many : n ≤ length order =
    elim (cases_lt (length order) n) [
      | inl few ↦
          let closed = some few in
          let u = some_unseen n order few in
          absurd (u.2 (all_reached net ok far_between landmarks parent parents (Contains order) (subst (Contains order) first closed.root_in)
          (λ x v x_in has follows. closed.closed x v has (subst (λ (xs : List ℕ). Contains xs v) (sym (same x x_in)) follows)) first_in u.0 u.1))
      | inr enough ↦ enough
    ] in
    record {
      parent = parent;
      parents = parents;
      places = places;
      depth_first = subst (λ (r : ℕ). IsDepthFirst (followers net landmarks parent) n r order places) first (depth_first_by adjacent (followers net landmarks parent) n root order places same (all many));
    }

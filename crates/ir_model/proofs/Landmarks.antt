-- Laws of landmarks and of their bound.
use Rattle.std.proofs.Common.{◌≡◌, ◌≢◌, ℕ, zero, suc, ◌+◌, ◌-◌, ◌*◌, ◌<◌, ◌≤◌, false, List, [], ◌∷◌, length, Option, Some, map, refl, ap, sym, ◌∙◌, subst, arith, ◌⊎◌, inl, inr, ⊎_elim}
use Rattle.std.specs.Prelude.{All, Contains, slice_index, slice_index_or}
use Rattle.std.proofs.lemmas.Bool.{cases_eq, cases_lt, cases_Bool, leb-true}
use Rattle.std.proofs.lemmas.Bool.Decides.{nat_tests}
use Rattle.std.proofs.lemmas.Nat.{mul-le}
use Rattle.std.proofs.lemmas.List.Elements.{All-head}
use Rattle.ir_model.specs.declared.Hop.{Hop}
use Rattle.ir_model.specs.Topology.{Topology, node_count, port_at, IsTopology}
use Rattle.ir_model.specs.Walk.{link_weight, LeadsTo, IsWalk, weight_from, walk_weight, IsDistance}
use Rattle.ir_model.specs.Table.{LeadsNearer, IsPrescribedWalk}
use Rattle.ir_model.specs.Compact.{IsTied, IsCompactTable}
use Rattle.ir_model.specs.Within.{LeadsWithin, IsOneBound, IsKeepable, KeepsBound, MayLead}
use Rattle.ir_model.specs.Landmark.{AreLandmarks, IsLandmarkOf, HaveDistances, is_far, bound_by, IsLandmarkBound, IsLandmarkTable}
use Rattle.ir_model.proofs.Walks.{link_weight_at, PortFacts, port_facts, IsLightest, lightest_rest, leads_from_node}
use Rattle.ir_model.proofs.Tables.{distance_own, distance_unique, distance_way, distance_lightest}
use Rattle.ir_model.proofs.Ways.{symmetric, triangle}
use Rattle.ir_model.proofs.Chosen.{choices_same}
use Rattle.ir_model.proofs.Within.{within_walks, prescribed_within, within_is_nearer}

-- there is one landmark of a node, and one radius
pub landmark_unique : (net : Topology) (landmarks : List ℕ) (d l m r s : ℕ) → IsLandmarkOf net landmarks d l r → IsLandmarkOf net landmarks d m s → (l ≡ m) × (r ≡ s)
landmark_unique net landmarks d l m r s a b =
    ⊎_elim (λ less. absurd (⊎_elim (λ more. omega (arith, less, more)) (λ more. omega (arith, less, more.0)) (b.nearest l r a.among a.away)))
    (λ same. ⊎_elim (λ more. absurd (omega (arith, same.0, more))) (λ more. (omega (arith, same.1, more.1), same.0)) (b.nearest l r a.among a.away))
    (a.nearest m s b.among b.away)

-- what the bound is, and what the test says, in each case
pub data Cases (stretch away radius around bound : ℕ) : Type 0 where
  round_far : 100 * away + 200 * radius ≤ stretch * away → bound ≡ around + radius → Cases stretch away radius around bound
  straight_near : stretch * away < 100 * away + 200 * radius → bound ≡ away → Cases stretch away radius around bound

pub cases_of : (stretch away radius around bound : ℕ) → bound ≡ bound_by stretch away radius around → Cases stretch away radius around bound
cases_of stretch away radius around bound is =
    ⊎_elim (λ yes_far. round_far (let le : 100 * (away + 2 * radius) ≤ stretch * away = leb-true (100 * (away + 2 * radius)) (stretch * away) yes_far in omega (arith, le)) (is ∙ rw yes_far refl))
    (λ not_far. straight_near (let lt : stretch * away < 100 * (away + 2 * radius) = less not_far in omega (arith, lt)) (is ∙ rw not_far refl))
    (cases_Bool (is_far stretch away radius))
  where
    less : is_far stretch away radius ≡ false → stretch * away < 100 * (away + 2 * radius)
    less not_far = grind (arith, nat_tests)

times : (a b c : ℕ) → a ≤ b → a * c ≤ b * c
times a b c le = mul-le a c b c le (omega arith)

-- a port on a shortest way
pub shortest_step : (net : Topology) → IsTopology net → (u d n : ℕ) → u ≢ d → IsDistance net u d n
    → (p : ℕ) × (hop : Hop) × (rest : ℕ) × (port_at net u p ≡ Some hop) × IsDistance net hop.node d rest × (n ≡ hop.weight + rest)
shortest_step net ok u d n other is_far_off = let way = distance_way net u d n is_far_off in by_way way.0 way.1 way.2
  where
    no_lighter : (v : ℕ) (rest : List ℕ) → IsLightest net v d rest → (walk : List ℕ) → IsWalk net v d walk → weight_from net v rest ≤ walk_weight net walk
    no_lighter v rest least [] none = absurd none
    no_lighter v rest least (x ∷ more) is =
        let P : ℕ → Type 0 = λ y. weight_from net v rest ≤ weight_from net y more in
        subst P (sym is.0) (least more is.1)

    by_way : (way : List ℕ) → LeadsTo net u d way → weight_from net u way ≡ n
        → (p : ℕ) × (hop : Hop) × (rest : ℕ) × (port_at net u p ≡ Some hop) × IsDistance net hop.node d rest × (n ≡ hop.weight + rest)
    by_way [] way e = absurd (other way.0)
    by_way (v ∷ rest) way e =
        let hop : Hop = way.0.1 in
        let P : ℕ → Type 0 = λ x. LeadsTo net x d rest × IsLightest net x d rest × (weight_from net u (x ∷ rest) ≡ n) in
        let least : IsLightest net v d rest = lightest_rest net u v d rest way.0 (distance_lightest net u d n (v ∷ rest) is_far_off e) in
        let at : P hop.node = subst P (sym way.0.3) (way.1, least, e) in
        let weight : link_weight net u hop.node ≡ hop.weight = link_weight_at net ok u way.0.0 hop way.0.2 in (
          way.0.0,
          hop,
          weight_from net hop.node rest,
          way.0.2,
          record { reached = (hop.node ∷ rest, (refl, at.0), refl); least = no_lighter hop.node rest at.1 },
          omega (arith, weight, at.2),
        )

-- ends of a distance are nodes
pub distance_nodes : (net : Topology) → IsTopology net → (u d n : ℕ) → IsDistance net u d n → (u < node_count net) × (d < node_count net)
distance_nodes net ok u d n is =
    let there = distance_way net u d n is in
    let back = distance_way net d u n (symmetric net ok u d n is) in
    (leads_from_node net ok u d there.0 there.1, leads_from_node net ok d u back.0 back.1)

-- what a longer list has
in_longer : (l m : ℕ) (ls : List ℕ) → Contains (l ∷ ls) m → (l ≡ m) ⊎ Contains ls m
in_longer l m ls has = at has.0 has.1 has.2
  where
    at : (k : ℕ) → k < length (l ∷ ls) → slice_index_or (l ∷ ls) k m ≡ m → (l ≡ m) ⊎ Contains ls m
    at zero lt e = inl e
    at (suc k) lt e = inr (k, omega (arith, lt), e)

-- of one landmark
pub first_landmark : (net : Topology) (d l r : ℕ) → IsDistance net d l r → IsLandmarkOf net (l ∷ []) d l r
first_landmark net d l r is = record {
  among = (0, omega arith, refl);
  away = is;
  nearest = λ m s has so.
      ⊎_elim (λ e. let P : ℕ → Type 0 = λ x. IsDistance net d x s in
      inr (distance_unique net d l r s is (subst P (sym e) so), omega (arith, e)))
      (λ none. absurd (omega (arith, none.1))) (in_longer l m [] has);
}

-- of one landmark more
pub better_landmark : (net : Topology) (d l r : ℕ) (ls : List ℕ) (m s : ℕ) → IsDistance net d l r → IsLandmarkOf net ls d m s → (k : ℕ) × (t : ℕ) × IsLandmarkOf net (l ∷ ls) d k t
better_landmark net d l r ls m s is of =
    ⊎_elim (λ less. take_it (inl less))
    (λ not_less. ⊎_elim (λ same. ⊎_elim (λ lower. keep_it (inr (sym same, omega (arith, lower)))) (λ low. take_it (inr (same, low))) (cases_lt m l))
    (λ differ. keep_it (inl (omega (arith, not_less, differ)))) (cases_eq r s))
    (cases_lt r s)
  where
    -- none is nearer, where that is so of the first and of the others
    over : (k t : ℕ) → ((t < r) ⊎ ((t ≡ r) × (k ≤ l))) → ((t < s) ⊎ ((t ≡ s) × (k ≤ m))) → (o a : ℕ) → Contains (l ∷ ls) o → IsDistance net d o a → (t < a) ⊎ ((t ≡ a) × (k ≤ o))
    over k t first others o a has so =
        ⊎_elim (λ e. let P : ℕ → Type 0 = λ x. IsDistance net d x a in
        let same : r ≡ a = distance_unique net d l r a is (subst P (sym e) so) in
        ⊎_elim (λ less. inl (omega (arith, less, same))) (λ equal. inr (omega (arith, equal.0, same), omega (arith, equal.1, e))) first)
        (λ later. ⊎_elim (λ more. ⊎_elim (λ less. inl (omega (arith, less, more))) (λ equal. inl (omega (arith, equal.0, more))) others)
        (λ equal. ⊎_elim (λ less. inl (omega (arith, less, equal.0))) (λ so_too. inr (omega (arith, equal.0, so_too.0), omega (arith, equal.1, so_too.1))) others)
        (of.nearest o a later so))
        (in_longer l o ls has)

    take_it : (r < s) ⊎ ((r ≡ s) × (l ≤ m)) → (k : ℕ) × (t : ℕ) × IsLandmarkOf net (l ∷ ls) d k t
    take_it others = (l, r, record { among = (0, omega arith, refl); away = is; nearest = over l r (inr (refl, omega arith)) others })

    keep_it : (s < r) ⊎ ((s ≡ r) × (m ≤ l)) → (k : ℕ) × (t : ℕ) × IsLandmarkOf net (l ∷ ls) d k t
    keep_it first = (m, s, record { among = (suc of.among.0, omega (arith, of.among.1), of.among.2); away = of.away; nearest = over m s first (inr (refl, omega arith)) })

-- A port that leads nearer to the landmark of d leads to a node with the same landmark: so the nodes of a landmark are
-- closed under shortest ways to it.
pub landmark_on_the_way : (net : Topology) → IsTopology net → HaveDistances net → (landmarks : List ℕ) (d l r : ℕ) → IsLandmarkOf net landmarks d l r
    → (p : ℕ) (hop : Hop) (rest : ℕ) → port_at net d p ≡ Some hop → IsDistance net hop.node l rest → r ≡ hop.weight + rest
    → IsLandmarkOf net landmarks hop.node l rest
landmark_on_the_way net ok far_between landmarks d l r of p hop rest at is sum = record {
  among = of.among;
  away = is;
  nearest = λ m s has so.
      let there = far_between d m (distance_nodes net ok d l r of.away).0 (distance_nodes net ok hop.node m s so).1 in
      let way = distance_way net hop.node m s so in
      let weight : link_weight net d hop.node ≡ hop.weight = link_weight_at net ok d p hop at in
      let le : there.0 ≤ walk_weight net (d ∷ hop.node ∷ way.0) = there.1.least (d ∷ hop.node ∷ way.0) (refl, ((p, hop, at, refl), way.1)) in
      ⊎_elim (λ less. inl (omega (arith, less, le, weight, way.2, sum)))
      (λ same. ⊎_elim (λ more. inl more) (λ no_more. inr (omega (arith, no_more, same.0, le, weight, way.2, sum), same.1)) (cases_lt rest s))
      (of.nearest m there.0 has there.1);
}

module _ (net : Topology) (ok : IsTopology net) (landmarks : List ℕ) (stretch : ℕ) where
  -- there is one bound
  pub landmark_bound_one : IsOneBound (IsLandmarkBound net landmarks stretch)
  landmark_bound_one u d a b is so =
      let same = landmark_unique net landmarks d is.landmark so.landmark is.radius so.radius is.of_end so.of_end in
      let direct : is.away ≡ so.away = distance_unique net u d is.away so.away is.direct so.direct in
      let P : ℕ → Type 0 = λ l. IsDistance net u l is.around in
      let around : is.around ≡ so.around = distance_unique net u so.landmark is.around so.around (subst P same.0 is.to_landmark) so.to_landmark in
      is.is ∙ ap (λ (x : ℕ). bound_by stretch x is.radius is.around) direct ∙ ap (λ (x : ℕ). bound_by stretch so.away x is.around) same.1
      ∙ ap (λ (x : ℕ). bound_by stretch so.away so.radius x) around ∙ sym so.is

  module _ (least : 100 ≤ stretch) where
    -- The bound is no less than the distance, and no more than the stretch allows.
    pub landmark_bound_within : (u d b n : ℕ) → IsLandmarkBound net landmarks stretch u d b → IsDistance net u d n → (n ≤ b) × (100 * b ≤ stretch * n)
    landmark_bound_within u d b n is away =
        let direct : is.away ≡ n = distance_unique net u d is.away n is.direct away in
        let there : n ≤ is.around + is.radius = triangle net ok u is.landmark d is.around is.radius n is.to_landmark (symmetric net ok d is.landmark is.radius is.of_end.away) away in
        let back : is.around ≤ n + is.radius = triangle net ok u d is.landmark n is.radius is.around away is.of_end.away is.to_landmark in
        by_cases is.radius is.around there back
        (cases_of stretch n is.radius is.around b (is.is ∙ ap (λ (x : ℕ). bound_by stretch x is.radius is.around) direct))
      where
        by_cases : (radius around : ℕ) → n ≤ around + radius → around ≤ n + radius → Cases stretch n radius around b → (n ≤ b) × (100 * b ≤ stretch * n)
        by_cases radius around there back (round_far le e) = (omega (arith, there, e), omega (arith, le, e, back))
        by_cases radius around there back (straight_near lt e) = (omega (arith, e), (let most : 100 * n ≤ stretch * n = times 100 stretch n least in omega (arith, e, most)))

    module _ (most : stretch ≤ 300) (far_between : HaveDistances net) where
      -- the bound of a node, by what it is of
      by_landmark : (u d l r around : ℕ) → IsLandmarkOf net landmarks d l r → IsDistance net u l around → (away : ℕ) → IsDistance net u d away → IsLandmarkBound net landmarks stretch u d (bound_by stretch away r around)
      by_landmark u d l r around of to away is = record { landmark = l; radius = r; away = away; around = around; of_end = of; direct = is; to_landmark = to; is = refl }

      -- a port towards the end is within the bound, where the bound is the distance and no node on the way is far
      toward : (u d l r around away : ℕ) → u ≢ d → IsLandmarkOf net landmarks d l r → IsDistance net u l around → IsDistance net u d away
          → bound_by stretch away r around ≡ away → ((rest : ℕ) → rest < away → stretch * rest < 100 * rest + 200 * r)
          → (p : ℕ) × LeadsWithin net (IsLandmarkBound net landmarks stretch) u d p
      toward u d l r around away other of to is whole near =
          let step = shortest_step net ok u d away other is in
          let hop : Hop = step.1 in
          let facts : PortFacts net u hop = port_facts net ok u step.0 hop step.3 in
          let l_in : l < node_count net = (distance_nodes net ok u l around to).1 in
          let next = far_between hop.node l facts.to l_in in
          let lt : step.2 < away = omega (arith, facts.positive, step.5) in
          let straight : bound_by stretch step.2 r next.0 ≡ step.2 = near_bound step.2 next.0 (near step.2 lt) in (
            step.0,
            (
              hop,
              bound_by stretch step.2 r next.0,
              bound_by stretch away r around,
              step.3,
              by_landmark hop.node d l r next.0 of next.1 step.2 step.4,
              by_landmark u d l r around of to away is,
              omega (arith, whole, straight, step.5),
            ),
          )
        where
          near_bound : (rest next : ℕ) → stretch * rest < 100 * rest + 200 * r → bound_by stretch rest r next ≡ rest
          near_bound rest next lt = by_cases (cases_of stretch rest r next (bound_by stretch rest r next) refl)
            where
              by_cases : Cases stretch rest r next (bound_by stretch rest r next) → bound_by stretch rest r next ≡ rest
              by_cases (round_far le e) = absurd (omega (arith, le, lt))
              by_cases (straight_near lt e) = e

      -- a port towards the landmark of the end is within the bound, where that is the weight of the way round
      by_landmark_port : (u d l r around away : ℕ) → u ≢ l → IsLandmarkOf net landmarks d l r → IsDistance net u l around → IsDistance net u d away
          → bound_by stretch away r around ≡ around + r → (p : ℕ) × LeadsWithin net (IsLandmarkBound net landmarks stretch) u d p
      by_landmark_port u d l r around away other of to is whole =
          let step = shortest_step net ok u l around other to in
          let hop : Hop = step.1 in
          let facts : PortFacts net u hop = port_facts net ok u step.0 hop step.3 in
          let d_in : d < node_count net = (distance_nodes net ok u d away is).1 in
          let next = far_between hop.node d facts.to d_in in
          let le : next.0 ≤ step.2 + r = triangle net ok hop.node l d step.2 r next.0 step.4 (symmetric net ok d l r of.away) next.1 in
          let no_more : bound_by stretch next.0 r step.2 ≤ step.2 + r = at_most next.0 step.2 le (cases_of stretch next.0 r step.2 (bound_by stretch next.0 r step.2) refl) in (
            step.0,
            (
              hop,
              bound_by stretch next.0 r step.2,
              bound_by stretch away r around,
              step.3,
              by_landmark hop.node d l r step.2 of step.4 next.0 next.1,
              by_landmark u d l r around of to away is,
              omega (arith, whole, no_more, step.5),
            ),
          )
        where
          at_most : (away around : ℕ) → away ≤ around + r → Cases stretch away r around (bound_by stretch away r around) → bound_by stretch away r around ≤ around + r
          at_most away around le (round_far yes_far e) = omega (arith, e)
          at_most away around le (straight_near lt e) = omega (arith, e, le)

      -- from each other node some port leads within the bound
      pub landmark_port : (u d l r : ℕ) → u < node_count net → d < node_count net → u ≢ d → IsLandmarkOf net landmarks d l r
          → (p : ℕ) × LeadsWithin net (IsLandmarkBound net landmarks stretch) u d p
      landmark_port u d l r u_in d_in other of =
          let is = far_between u d u_in d_in in
          let l_in : l < node_count net = (distance_nodes net ok d l r of.away).1 in
          let to = far_between u l u_in l_in in
          by_cases is.0 is.1 to.0 to.1 (cases_of stretch is.0 r to.0 (bound_by stretch is.0 r to.0) refl)
        where
          -- what is near stays near on the way
          stay_near : (away rest : ℕ) → rest < away → stretch * away < 100 * away + 200 * r → stretch * rest < 100 * rest + 200 * r
          stay_near away rest lt near =
              let w : (k : ℕ) × (rest + k ≡ away) = (away - rest, omega arith) in
              let more : 100 * w.0 ≤ stretch * w.0 = times 100 stretch w.0 least in
              let P : ℕ → Type 0 = λ x. stretch * x < 100 * x + 200 * r in
              let there : stretch * (rest + w.0) < 100 * (rest + w.0) + 200 * r = subst P (sym w.1) near in
              omega (arith, more, there)

          -- from the landmark itself each node nearer to the end is near
          from_landmark : (rest : ℕ) → rest < r → stretch * rest < 100 * rest + 200 * r
          from_landmark rest lt = let some : stretch * rest ≤ 300 * rest = times stretch 300 rest most in omega (arith, some)

          by_cases : (away : ℕ) → IsDistance net u d away → (around : ℕ) → IsDistance net u l around → Cases stretch away r around (bound_by stretch away r around)
              → (p : ℕ) × LeadsWithin net (IsLandmarkBound net landmarks stretch) u d p
          by_cases away is around to (straight_near lt e) = toward u d l r around away other of to is e (λ rest less. stay_near away rest less lt)
          by_cases away is around to (round_far le e) =
              ⊎_elim (λ same.
              let P : ℕ → Type 0 = λ x. IsDistance net x d r in
              let radius : away ≡ r = distance_unique net u d away r is (subst P (sym same) (symmetric net ok d l r of.away)) in
              let Q : ℕ → Type 0 = λ x. IsDistance net x l 0 in
              let none : around ≡ 0 = distance_unique net u l around 0 to (subst Q (sym same) (distance_own net l (distance_nodes net ok d l r of.away).1)) in
              toward u d l r around away other of to is (omega (arith, e, radius, none)) (λ rest less. from_landmark rest (omega (arith, less, radius))))
              (λ apart. by_landmark_port u d l r around away apart of to is e)
              (cases_eq u l)

      -- from a node to itself the bound is 0
      pub landmark_own : (d l r : ℕ) → d < node_count net → IsLandmarkOf net landmarks d l r → IsLandmarkBound net landmarks stretch d d 0
      landmark_own d l r d_in of =
          let own = distance_own net d d_in in
          let none : 0 ≡ bound_by stretch 0 r r = by_cases (cases_of stretch 0 r r (bound_by stretch 0 r r) refl) in
          record { landmark = l; radius = r; away = 0; around = r; of_end = of; direct = own; to_landmark = of.away; is = none }
        where
          by_cases : Cases stretch 0 r r (bound_by stretch 0 r r) → 0 ≡ bound_by stretch 0 r r
          by_cases (round_far le e) = omega (arith, le, e)
          by_cases (straight_near lt e) = omega (arith, e)

      -- each node has a landmark
      has_landmark : (d : ℕ) → d < node_count net → (l : ℕ) (ls : List ℕ) → All (λ x. x < node_count net) (l ∷ ls) → (k : ℕ) × (t : ℕ) × IsLandmarkOf net (l ∷ ls) d k t
      has_landmark d d_in l [] nodes =
          let l_in : l < node_count net = All-head (λ x. x < node_count net) l [] nodes in
          let is = far_between d l d_in l_in in
          (l, is.0, first_landmark net d l is.0 is.1)
      has_landmark d d_in l (m ∷ ls) nodes =
          let l_in : l < node_count net = All-head (λ x. x < node_count net) l (m ∷ ls) nodes in
          let is = far_between d l d_in l_in in
          let later = has_landmark d d_in m ls (λ k x lt. nodes (suc k) x (omega arith)) in
          better_landmark net d l is.0 (m ∷ ls) later.0 later.1 is.1 later.2

      landmark_in : (d : ℕ) → d < node_count net → (ls : List ℕ) → 0 < length ls → All (λ x. x < node_count net) ls → (k : ℕ) × (t : ℕ) × IsLandmarkOf net ls d k t
      landmark_in d d_in [] some nodes = absurd (omega (arith, some))
      landmark_in d d_in (l ∷ ls) some nodes = has_landmark d d_in l ls nodes

      module _ (are : AreLandmarks net landmarks) where
        -- So the bound can be kept.
        pub landmark_bound_keepable : IsKeepable net (IsLandmarkBound net landmarks stretch)
        landmark_bound_keepable = record {
          one = landmark_bound_one;
          own = λ d d_in. let w = landmark_in d d_in landmarks are.some are.nodes in landmark_own d w.0 w.1 d_in w.2;
          port = λ u d u_in d_in other. let w = landmark_in d d_in landmarks are.some are.nodes in landmark_port u d w.0 w.1 u_in d_in other w.2;
        }

        -- there is a bound between each two nodes
        pub landmark_bound_at : (u d n : ℕ) → IsDistance net u d n → (b : ℕ) × IsLandmarkBound net landmarks stretch u d b
        landmark_bound_at u d n is =
            let ends = distance_nodes net ok u d n is in
            let of = landmark_in d ends.1 landmarks are.some are.nodes in
            let to = far_between u of.0 ends.0 (distance_nodes net ok d of.0 of.1 of.2.away).1 in
            (bound_by stretch n of.1 to.0, by_landmark u d of.0 of.1 to.0 of.2 to.1 n is)

        -- What a table that keeps to the bound prescribes is there, and weighs no more than the stretch allows.
        module _ (table : ℕ → ℕ → Option ℕ) (keeps : KeepsBound net (IsLandmarkBound net landmarks stretch) table) (u d n : ℕ) (is : IsDistance net u d n) where
          pub landmark_walks : (walk : List ℕ) × IsPrescribedWalk net table u d walk × (length walk ≤ node_count net)
          landmark_walks =
              let ends = distance_nodes net ok u d n is in
              let b = landmark_bound_at u d n is in
              within_walks net ok (IsLandmarkBound net landmarks stretch) landmark_bound_one table keeps d ends.1 u b.0 ends.0 b.1

          pub landmark_walk_weight : (walk : List ℕ) → IsPrescribedWalk net table u d walk → IsWalk net u d walk × (100 * walk_weight net walk ≤ stretch * n)
          landmark_walk_weight walk prescribed =
              let ends = distance_nodes net ok u d n is in
              let b = landmark_bound_at u d n is in
              let w = prescribed_within net ok (IsLandmarkBound net landmarks stretch) landmark_bound_one table keeps d ends.1 u b.0 ends.0 b.1 walk prescribed in
              let le = landmark_bound_within u d b.0 n b.1 is in
              (w.0, omega (arith, w.1, le.1))

-- With no stretch the bound is the distance: such a table is a compact one.
module _ (net : Topology) (ok : IsTopology net) (far_between : HaveDistances net) (landmarks : List ℕ) (are : AreLandmarks net landmarks) where
  bound_is_distance : (u d b : ℕ) → IsLandmarkBound net landmarks 100 u d b → IsDistance net u d b
  bound_is_distance u d b is =
      let le = landmark_bound_within net ok landmarks 100 (omega arith) u d b is.away is is.direct in
      let P : ℕ → Type 0 = λ n. IsDistance net u d n in
      subst P (omega (arith, le.0, le.1)) is.direct

  distance_is_bound : (u d n : ℕ) → IsDistance net u d n → IsLandmarkBound net landmarks 100 u d n
  distance_is_bound u d n is =
      let b = landmark_bound_at net ok landmarks 100 (omega arith) (omega arith) far_between are u d n is in
      let le = landmark_bound_within net ok landmarks 100 (omega arith) u d b.0 n b.1 is in
      let P : ℕ → Type 0 = λ x. IsLandmarkBound net landmarks 100 u d x in
      subst P (omega (arith, le.0, le.1)) b.1

  port_to_nearer : (u d p : ℕ) → LeadsWithin net (IsLandmarkBound net landmarks 100) u d p → LeadsNearer net u d p
  port_to_nearer u d p leads =
      within_is_nearer net ok u d p (leads.0, leads.1, leads.2, leads.3, bound_is_distance leads.0.node d leads.1 leads.4, bound_is_distance u d leads.2 leads.5, leads.6)

  port_from_nearer : (u d p : ℕ) → LeadsNearer net u d p → LeadsWithin net (IsLandmarkBound net landmarks 100) u d p
  port_from_nearer u d p leads =
      (leads.0, leads.1, leads.0.weight + leads.1, leads.2, distance_is_bound leads.0.node d leads.1 leads.3, distance_is_bound u d (leads.0.weight + leads.1) leads.4, omega arith)

  pub no_stretch_is_compact : (order : List ℕ) (table : ℕ → ℕ → Option ℕ) → IsLandmarkTable net landmarks 100 order table → IsCompactTable net order table
  no_stretch_is_compact order table is = record {
    nearer = record {
      own = is.keeps.own;
      port = λ u d u_in d_in other. let w = is.keeps.port u d u_in d_in other in (w.0, w.1, port_to_nearer u d w.0 w.2);
    };
    chosen = λ a ha.
        choices_same (node_count net) a (MayLead net (IsLandmarkBound net landmarks 100) order a) (IsTied net order a) ha
        (λ d p hd ne. (port_to_nearer (slice_index order a) (slice_index order d) p, port_from_nearer (slice_index order a) (slice_index order d) p))
        (map (table (slice_index order a)) order) (is.chosen a ha);
  }

  pub compact_is_no_stretch : (order : List ℕ) (table : ℕ → ℕ → Option ℕ) → IsCompactTable net order table → IsLandmarkTable net landmarks 100 order table
  compact_is_no_stretch order table is = record {
    keeps = record {
      own = is.nearer.own;
      port = λ u d u_in d_in other. let w = is.nearer.port u d u_in d_in other in (w.0, w.1, port_from_nearer u d w.0 w.2);
    };
    chosen = λ a ha.
        choices_same (node_count net) a (IsTied net order a) (MayLead net (IsLandmarkBound net landmarks 100) order a) ha
        (λ d p hd ne. (port_from_nearer (slice_index order a) (slice_index order d) p, port_to_nearer (slice_index order a) (slice_index order d) p))
        (map (table (slice_index order a)) order) (is.chosen a ha);
  }

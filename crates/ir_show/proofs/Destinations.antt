-- The walks of a plan and the distances, destination by destination.
use Rattle.std.proofs.Common.{◌≡◌, ◌≢◌, ℕ, ◌+◌, ◌-◌, ◌<◌, ◌≤◌, ◌⊎◌, inl, inr, ⊎_elim, List, [], ◌∷◌, length, Option, Some, None, refl, sym, ap, ◌∙◌, subst, arith}
use Rattle.std.specs.Option.{option_map, IfSome}
use Rattle.std.proofs.lemmas.Bool.{cases_lt}
use Rattle.ir_model.specs.Graph.{Name}
use Rattle.ir_model.specs.Topology.{Topology, IsTopology, node_count}
use Rattle.ir_model.specs.Walk.{IsWalk, walk_weight, IsConnected, IsDistance}
use Rattle.ir_model.specs.Table.{IsPrescribedWalk}
use Rattle.ir_model.specs.Plan.{Plan, IsPlan, table_port}
use Rattle.ir_model.proofs.Tables.{prescribed_unique, distance_unique}
use Rattle.ir_model.proofs.Walks.{step_weight}
use Rattle.ir_tables.specs.Relaxation.{at, unreached, IsRelaxed}
use Rattle.ir_tables.specs.Listed.{IsWay, AreWays}
use Rattle.ir_tables.proofs.Settled.{settled_within, unreached_large, relaxed_distance}
use Rattle.ir_tables.proofs.Ways.{continues_short, IsWalked}
use Rattle.ir_show.specs.declared.worst.Weighed.{Weighed}
use Rattle.ir_show.specs.declared.figures.Figures.{Figures}
use Rattle.ir_show.specs.StatsText.{AreWalkWeights, ArePlanDistances, worst_line, weights_text}
use Rattle.ir_show.specs.Before.{ArePositive, IsWeighed}
use Rattle.ir_show.specs.Figures.{AreTo, AreDistancesTo, IsWorstWithThoseTo, sum_to, AreFiguresBefore, AreFigures, weighed_line, figures_text}
use Rattle.ir_show.proofs.StatsSums.{same_sum_to, sum_before_more, sum_by_destinations}
use Rattle.ir_show.proofs.Pairs.{none_yet, at_last, worst_weighed}

-- the walk from a node, before its first step
pub walk_starts : (s : Plan) → IsPlan s → (u d : ℕ) → u < node_count s.topology → d < node_count s.topology → IsWalked s.topology (table_port s) d u u 0 0
walk_starts s is u d u_in d_in = by (is.walks u d u_in d_in).0 (is.walks u d u_in d_in).1
  where
    by : (walk : List ℕ) → IsPrescribedWalk s.topology (table_port s) u d walk → IsWalked s.topology (table_port s) d u u 0 0
    by [] prescribed = absurd prescribed
    by (y ∷ rest) prescribed =
        let short : length (u ∷ rest) ≤ node_count s.topology = continues_short s.topology is.topology (table_port s) d u u_in rest prescribed.1 in
        record {
          in_net = u_in;
          light = omega arith;
          left = node_count s.topology - 1;
          left_is = omega (arith, u_in);
          short = record { rest = rest; continues = prescribed.1; short = omega (arith, short) };
          comes = λ weight way. let P : ℕ → Type 0 = λ w. IsWay s.topology (table_port s) d u w in let same : weight ≡ 0 + weight = omega arith in subst P same way;
        }

-- the weights of ways are those of the walks
pub walks_to : (s : Plan) (walk : ℕ → ℕ → ℕ) → AreWalkWeights s walk → (d : ℕ) → d < node_count s.topology → (weights : List ℕ) → AreWays s.topology (table_port s) d weights → AreTo (node_count s.topology) walk d weights
walks_to s walk are d d_in weights ways = record {
  every = ways.len;
  each = λ u u_in.
      let way = ways.ways u u_in in
      let one = are u d u_in d_in in
      let same : one.0 ≡ u ∷ way.rest = prescribed_unique s.topology (table_port s) u d one.0 (u ∷ way.rest) one.1 (refl, way.continues) in
      sym way.weighs ∙ sym (ap (walk_weight s.topology) same) ∙ one.2;
}

-- relaxation finds a way where there is a walk
found_below : (net : Topology) → IsTopology net → (d : ℕ) (weights : List ℕ) → IsRelaxed net d weights → (u : ℕ) (walk : List ℕ) → IsWalk net u d walk → at weights u < unreached
found_below net ok d weights done u [] is = absurd is
found_below net ok d weights done u (x ∷ rest) is =
    settled_within net ok d unreached (at weights) done.settled (unreached_large net ok) done.reached u rest is.1

-- what relaxation ends with in a connected network are the distances
pub relaxed_to : (net : Topology) → IsTopology net → IsConnected net → (d : ℕ) → d < node_count net → (weights : List ℕ) → IsRelaxed net d weights → AreDistancesTo net d weights
relaxed_to net ok connected d d_in weights done = record {
  every = done.len;
  each = λ u u_in. let way = connected u d u_in d_in in relaxed_distance net ok d weights done u u_in (found_below net ok d weights done u way.0 way.1);
}

pub distances_agree : (s : Plan) (distance : ℕ → ℕ → ℕ) → ArePlanDistances s distance → (d : ℕ) → d < node_count s.topology → (weights : List ℕ) → AreDistancesTo s.topology d weights → AreTo (node_count s.topology) distance d weights
distances_agree s distance are d d_in weights to = record {
  every = to.every;
  each = λ u u_in. distance_unique s.topology u d (at weights u) (distance u d) (to.each u u_in) (are u d u_in d_in);
}

-- two nodes are apart
walk_apart : (net : Topology) → IsTopology net → (u d : ℕ) → u ≢ d → (walk : List ℕ) → IsWalk net u d walk → 0 < walk_weight net walk
walk_apart net ok u d other [] way = absurd way
walk_apart net ok u d other (x ∷ []) way = absurd (other way.1.0)
walk_apart net ok u d other (x ∷ y ∷ rest) way =
    let P : ℕ → Type 0 = λ v. 0 < walk_weight net (v ∷ y ∷ rest) in
    subst P (sym way.0) (omega (arith, (step_weight net ok u y way.1.0).0))

pub apart : (s : Plan) → IsPlan s → (distance : ℕ → ℕ → ℕ) → ArePlanDistances s distance → ArePositive (node_count s.topology) distance
apart s is distance are = λ u d u_in d_in other.
    let reached = (are u d u_in d_in).reached in
    let some = walk_apart s.topology is.topology u d other reached.0 reached.1 in
    omega (arith, some, reached.2)

-- ---- weights as a function

-- what each two nodes have, as a function of them
chosen : (n : ℕ) (P : ℕ → ℕ → ℕ → Type 0) → ((u d : ℕ) → u < n → d < n → (w : ℕ) × P u d w) → (f : ℕ → ℕ → ℕ) × ((u d : ℕ) → u < n → d < n → P u d (f u d))
chosen n P all = (λ u d. value u d (cases_lt u n) (cases_lt d n), λ u d u_in d_in. holds u d u_in d_in (cases_lt u n) (cases_lt d n))
  where
    value : (u d : ℕ) → (u < n) ⊎ (n ≤ u) → (d < n) ⊎ (n ≤ d) → ℕ
    value u d (inl u_in) (inl d_in) = (all u d u_in d_in).0
    value u d (inl u_in) (inr past) = 0
    value u d (inr past) b = 0

    holds : (u d : ℕ) → u < n → d < n → (a : (u < n) ⊎ (n ≤ u)) (b : (d < n) ⊎ (n ≤ d)) → P u d (value u d a b)
    holds u d u_in d_in (inl x) (inl y) = (all u d x y).1
    holds u d u_in d_in (inl x) (inr past) = absurd (omega (arith, past, d_in))
    holds u d u_in d_in (inr past) b = absurd (omega (arith, past, u_in))

some_walks : (s : Plan) → IsPlan s → (walk : ℕ → ℕ → ℕ) × AreWalkWeights s walk
some_walks s is =
    chosen (node_count s.topology) (λ u d w. (nodes : List ℕ) × IsPrescribedWalk s.topology (table_port s) u d nodes × (walk_weight s.topology nodes ≡ w))
    (λ u d u_in d_in. let walk = is.walks u d u_in d_in in (walk_weight s.topology walk.0, (walk.0, walk.1, refl)))

some_distances : (s : Plan) → ((u d : ℕ) → u < node_count s.topology → d < node_count s.topology → (w : ℕ) × IsDistance s.topology u d w) → (distance : ℕ → ℕ → ℕ) × ArePlanDistances s distance
some_distances s reached = chosen (node_count s.topology) (λ u d w. IsDistance s.topology u d w) reached

-- ---- figures

pub no_figures : (s : Plan) → AreFiguresBefore s 0 (record { walks = 0; distances = 0; worst = None })
no_figures s = record {
  light_walks = omega arith;
  light_distances = omega arith;
  reached = λ u d u_in d_in. absurd (omega (arith, d_in));
  walks = λ walk are. refl;
  distances = λ distance are. refl;
  worst = λ walk distance are are'. none_yet (node_count s.topology) walk distance;
}

-- a column's sum
pub column_sum : (n : ℕ) (weight : ℕ → ℕ → ℕ) (d : ℕ) (weights : List ℕ) (sum : ℕ) → AreTo n weight d weights → sum ≡ sum_to (length weights) (at weights) d → sum ≡ sum_to n (λ u. weight u d) d
column_sum n weight d weights sum to e =
    e ∙ ap (λ (m : ℕ). sum_to m (at weights) d) to.every ∙ same_sum_to n (at weights) (λ u. weight u d) d to.each

-- the figures with those of one more destination
pub one_more : (s : Plan) → IsPlan s → (d : ℕ) → d < node_count s.topology → (before f : Figures) (walks distances : List ℕ) (walks_sum distances_sum : ℕ) → AreFiguresBefore s d before
    → AreWays s.topology (table_port s) d walks → AreDistancesTo s.topology d distances
    → walks_sum ≡ sum_to (length walks) (at walks) d → walks_sum ≤ 140737488355328 → distances_sum ≡ sum_to (length distances) (at distances) d → distances_sum ≤ 140737488355328
    → f.walks ≡ before.walks + walks_sum → f.distances ≡ before.distances + distances_sum
    → IsWorstWithThoseTo d walks distances before.worst f.worst
    → AreFiguresBefore s (d + 1) f
one_more s is d d_in before f walks distances walks_sum distances_sum are ways to walks_are walks_light distances_are distances_light walks_more distances_more worst_more = record {
  light_walks = omega (arith, walks_more, walks_light, are.light_walks);
  light_distances = omega (arith, distances_more, distances_light, are.light_distances);
  reached = λ u x u_in x_in. ⊎_elim (λ (less : x < d). are.reached u x u_in less) (λ (ge : d ≤ x). let same : x ≡ d = omega (arith, x_in, ge) in
      let P : ℕ → Type 0 = λ y. (weight : ℕ) × IsDistance s.topology u y weight in
      subst P (sym same) (at distances u, to.each u u_in)) (cases_lt x d);
  walks = λ walk of_walks. walks_more
      ∙ sum_before_more n walk d before.walks walks_sum (are.walks walk of_walks) (column_sum n walk d walks walks_sum (walks_to s walk of_walks d d_in walks ways) walks_are);
  distances = λ distance of_distances. distances_more
      ∙ sum_before_more n distance d before.distances distances_sum (are.distances distance of_distances) (column_sum n distance d distances distances_sum (distances_agree s distance of_distances d d_in distances to) distances_are);
  worst = λ walk distance of_walks of_distances.
      worst_more n walk distance d_in (walks_to s walk of_walks d d_in walks ways) (distances_agree s distance of_distances d d_in distances to) (apart s is distance of_distances) (are.worst walk distance of_walks of_distances);
}
  where
    n : ℕ
    n = node_count s.topology

-- those of all destinations
pub all_figures : (s : Plan) → IsPlan s → (f : Figures) → AreFiguresBefore s (node_count s.topology) f → AreFigures s f
all_figures s is f are =
    let n = node_count s.topology in
    let walks = some_walks s is in
    let distances = some_distances s are.reached in
    let worst = are.worst walks.0 distances.0 walks.1 distances.1 in
    record {
      walk = walks.0;
      walks = walks.1;
      distance = distances.0;
      distances = distances.1;
      walks_sum = are.walks walks.0 walks.1 ∙ sum_by_destinations n walks.0;
      distances_sum = are.distances distances.0 distances.1 ∙ sum_by_destinations n distances.0;
      worst_pair = at_last n walks.0 distances.0 f.worst worst;
      weighed = worst_weighed n walks.0 distances.0 f.worst worst;
    }

-- ---- their text

weighed_words : (nodes : List Name) (walk distance : ℕ → ℕ → ℕ) (worst : Option Weighed) → IfSome worst (IsWeighed walk distance) → weighed_line nodes worst ≡ worst_line nodes walk distance (option_map (λ p. p.ends) worst)
weighed_words nodes walk distance None is = refl
weighed_words nodes walk distance (Some p) is = rw (is.0, is.1) refl

pub figures_words : (nodes : List Name) (s : Plan) (f : Figures) (are : AreFigures s f) → figures_text nodes f ≡ weights_text nodes (node_count s.topology) are.walk are.distance (option_map (λ p. p.ends) f.worst)
figures_words nodes s f are =
    rw (are.walks_sum, are.distances_sum, weighed_words nodes are.walk are.distance f.worst are.weighed) refl

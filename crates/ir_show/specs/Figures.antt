-- The weights to one destination, and the figures that are added up from them.
use Rattle.std.specs.Prelude.{◌≡◌, ℕ, ◌+◌, ◌*◌, ◌<◌, ◌≤◌, ◌==◌, if◌then◌else◌, List, [], ◌∷◌, ◌++◌, length, sum_by, decimal, codes, Option, None, Some, IfSome, option_map}
use Rattle.std.specs.List.{range_with_len}
use Rattle.ir_model.specs.Graph.{Name}
use Rattle.ir_model.specs.Topology.{Topology, node_count}
use Rattle.ir_model.specs.Walk.{IsDistance}
use Rattle.ir_model.specs.Plan.{Plan}
use Rattle.ir_tables.specs.Relaxation.{at}
use Rattle.ir_trace.specs.Written.{name_at}
use Rattle.ir_show.specs.declared.worst.Weighed.{Weighed}
use Rattle.ir_show.specs.declared.figures.Figures.{Figures}
use Rattle.ir_show.specs.StatsText.{AreWalkWeights, ArePlanDistances, sum_of_pairs, IsWorstOf, count_line}
use Rattle.ir_show.specs.Before.{ArePositive, IsWeighed, IsWorstBefore}
use Rattle.ir_show.specs.Words.{line_text}

-- weights by node are those to d
pub record AreTo (n : ℕ) (weight : ℕ → ℕ → ℕ) (d : ℕ) (weights : List ℕ) : Type 0 where
  pub every : length weights ≡ n
  pub each : (u : ℕ) → u < n → at weights u ≡ weight u d

-- weights by node are the distances to d
pub record AreDistancesTo (topology : Topology) (d : ℕ) (weights : List ℕ) : Type 0 where
  pub every : length weights ≡ node_count topology
  pub each : (u : ℕ) → u < node_count topology → IsDistance topology u d (at weights u)

-- if the one option is the worst of the pairs to the nodes before d, the other is the worst of these and those to d
abbrev pub IsWorstWithThoseTo : ℕ → List ℕ → List ℕ → Option Weighed → Option Weighed → Type 0
IsWorstWithThoseTo d walks distances best worst =
    (n : ℕ) (walk distance : ℕ → ℕ → ℕ) → d < n → AreTo n walk d walks → AreTo n distance d distances → ArePositive n distance
    → IsWorstBefore n walk distance 0 d best → IsWorstBefore n walk distance 0 (d + 1) worst

-- the sum over all nodes but d
abbrev pub sum_to : ℕ → (ℕ → ℕ) → ℕ → ℕ
sum_to n weight d = sum_by (λ u. if u == d then 0 else weight u) (range_with_len 0 n)

-- the sum over the first so many destinations
abbrev pub sum_before : ℕ → (ℕ → ℕ → ℕ) → ℕ → ℕ
sum_before n weight count = sum_by (λ d. sum_to n (λ u. weight u d) d) (range_with_len 0 count)

-- The figures are those of the first so many destinations.
pub record AreFiguresBefore (plan : Plan) (count : ℕ) (f : Figures) : Type 0 where
  pub light_walks : f.walks ≤ 140737488355328 * count
  pub light_distances : f.distances ≤ 140737488355328 * count
  pub reached : (u d : ℕ) → u < node_count plan.topology → d < count → (weight : ℕ) × IsDistance plan.topology u d weight
  pub walks : (walk : ℕ → ℕ → ℕ) → AreWalkWeights plan walk → f.walks ≡ sum_before (node_count plan.topology) walk count
  pub distances : (distance : ℕ → ℕ → ℕ) → ArePlanDistances plan distance → f.distances ≡ sum_before (node_count plan.topology) distance count
  pub worst : (walk distance : ℕ → ℕ → ℕ) → AreWalkWeights plan walk → ArePlanDistances plan distance → IsWorstBefore (node_count plan.topology) walk distance 0 count f.worst

-- The figures are the sums over all pairs of two nodes, and the worst of the pairs.
pub record AreFigures (plan : Plan) (f : Figures) : Type 0 where
  pub walk : ℕ → ℕ → ℕ
  pub walks : AreWalkWeights plan walk
  pub distance : ℕ → ℕ → ℕ
  pub distances : ArePlanDistances plan distance
  pub walks_sum : f.walks ≡ sum_of_pairs (node_count plan.topology) walk
  pub distances_sum : f.distances ≡ sum_of_pairs (node_count plan.topology) distance
  pub worst_pair : IsWorstOf (node_count plan.topology) walk distance (option_map (λ p. p.ends) f.worst)
  pub weighed : IfSome f.worst (IsWeighed walk distance)

-- the line of the worst pair, where there is one
abbrev pub weighed_line : List Name → Option Weighed → List ℕ
weighed_line nodes None = []
weighed_line nodes (Some p) =
    line_text (codes "worst" ∷ name_at nodes p.ends.from ∷ name_at nodes p.ends.to ∷ decimal p.walk ∷ decimal p.distance ∷ [])

-- the lines of the figures
abbrev pub figures_text : List Name → Figures → List ℕ
figures_text nodes f = (count_line (codes "walks") f.walks ++ count_line (codes "distances") f.distances) ++ weighed_line nodes f.worst

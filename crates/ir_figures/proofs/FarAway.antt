-- The figures of plans of shortest ways.
use Rattle.std.proofs.Common.{◌≡◌, ◌≢◌, ◌∙◌, ℕ, ◌+◌, ◌-◌, ◌*◌, ◌<◌, ◌≤◌, inl, inr, ⊎_elim, List, Option, None, Some, refl, sym, ap, ap₂, subst, min, arith}
use Rattle.std.specs.Prelude.{IfSome, length}
use Rattle.std.proofs.Math.Nat.{min-eq_left, min-eq_right, mul_comm}
use Rattle.std.proofs.lemmas.Bool.{cases_lt}
use Rattle.ir_model.specs.declared.Kind.{Kind}
use Rattle.ir_model.specs.declared.Kind.TheVariants.{Tree, Shortest, Compact, Landmark}
use Rattle.ir_model.specs.Topology.{Topology, IsTopology, node_count}
use Rattle.ir_model.specs.Walk.{IsDistance}
use Rattle.ir_model.specs.Table.{IsNearerTable}
use Rattle.ir_model.specs.Plan.{Plan, IsPlan, IsTableOf, table_port}
use Rattle.ir_model.proofs.Tables.{distance_unique, nearer_distance, prescribed_nearer, shortest_is_nearer}
use Rattle.ir_model.proofs.Ways.{symmetric}
use Rattle.ir_lanes.specs.Outward.{OutwardLanes, source_at}
use Rattle.ir_plan.specs.Starts.{IsOfShortestWays}
use Rattle.ir_tables.specs.FromNode.{AreFrom}
use Rattle.ir_tables.specs.Relaxation.{at}
use Rattle.ir_show.specs.declared.worst.Weighed.{Weighed}
use Rattle.ir_show.specs.StatsText.{AreWalkWeights, ArePlanDistances, IsEarlier}
use Rattle.ir_show.specs.Before.{IsWorstBefore}
use Rattle.ir_show.specs.Figures.{AreDistancesTo, AreFigures, sum_to}
use Rattle.ir_show.proofs.Destinations.{all_figures, column_sum, distances_agree}
use Rattle.ir_show.proofs.StatsSums.{sum_before_more}
use Rattle.ir_figures.specs.Far.{IsFarSum, IsFirstPair}

-- the distances from a node are those to it
pub from_is_to : (net : Topology) → IsTopology net → (d source : ℕ) (weights : List ℕ) → source ≡ d → AreFrom net source weights → AreDistancesTo net d weights
from_is_to net ok d source weights same from = record {
  every = from.every;
  each = λ u u_in. subst (λ (x : ℕ). IsDistance net u x (at weights u)) same (symmetric net ok source u (at weights u) (from.each u u_in));
}

pub nothing_far : (s : Plan) → IsFarSum s 0 0
nothing_far s = record { light = omega arith; far = λ distance are. refl }

-- with the distances to one more node
pub one_farther : (s : Plan) (d sum more : ℕ) (weights : List ℕ) → d < node_count s.topology → IsFarSum s d sum → AreDistancesTo s.topology d weights
    → more ≡ sum_to (length weights) (at weights) d → more ≤ 140737488355328 → IsFarSum s (d + 1) (sum + more)
one_farther s d sum more weights d_in is to added light = record {
  light = omega (arith, is.light, light);
  far = λ distance are. sum_before_more (node_count s.topology) distance d sum more (is.far distance are)
      (column_sum (node_count s.topology) distance d weights more (distances_agree s distance are d d_in weights to) added);
}

no_earlier : (u d a b : ℕ) → a ≡ 0 → b ≡ 1 → u ≢ d → IsEarlier u d a b → ⊥
no_earlier u d a b zero_is one_is other (inl less) = omega (arith, zero_is, less)
no_earlier u d a b zero_is one_is other (inr same) = other (omega (arith, same.0, same.1, zero_is, one_is))

-- ---- a plan of shortest ways

nearer_by : (kind : Kind) (net : Topology) (order parents : List ℕ) (table : ℕ → ℕ → Option ℕ) → IsTableOf kind net order parents table → IsOfShortestWays kind → IsNearerTable net table
nearer_by Tree net order parents table is ways = absurd ways
nearer_by Shortest net order parents table is ways = shortest_is_nearer net table is
nearer_by Compact net order parents table is ways = is.nearer
nearer_by (Landmark t) net order parents table is ways = absurd ways

module _ (s : Plan) (is : IsPlan s) (ways : IsOfShortestWays s.kind) where
  nearer : IsNearerTable s.topology (table_port s)
  nearer = nearer_by s.kind s.topology s.order is.parents (table_port s) is.table ways

  walks_are_far : (walk : ℕ → ℕ → ℕ) → AreWalkWeights s walk → ArePlanDistances s walk
  walks_are_far walk are = λ u d u_in d_in.
      let one = are u d u_in d_in in
      let far = prescribed_nearer s.topology is.topology (table_port s) nearer u d u_in d_in one.0 one.1 in
      subst (λ (w : ℕ). IsDistance s.topology u d w) one.2 far.1

  module _ (walk distance : ℕ → ℕ → ℕ) (walks : AreWalkWeights s walk) (distances : ArePlanDistances s distance) where
    same : (u d : ℕ) → u < node_count s.topology → d < node_count s.topology → walk u d ≡ distance u d
    same u d u_in d_in = distance_unique s.topology u d (walk u d) (distance u d) (walks_are_far walk walks u d u_in d_in) (distances u d u_in d_in)

    worst : (pair : Option Weighed) → IsFirstPair s pair → IsWorstBefore (node_count s.topology) walk distance 0 (node_count s.topology) pair
    worst None few = λ u d u_in d_in other seen. other (omega (arith, few, u_in, d_in))
    worst (Some p) first =
        let zero_in : 0 < node_count s.topology = omega (arith, first.two) in
        let two = first.two in
        let far : p.distance ≡ distance 0 1 = distance_unique s.topology 0 1 p.distance (distance 0 1) first.far (distances 0 1 zero_in two) in
        let ends : distance 0 1 ≡ distance p.ends.from p.ends.to = ap₂ distance (sym first.from) (sym first.to) in
        let walked : walk 0 1 ≡ walk p.ends.from p.ends.to = ap₂ walk (sym first.from) (sym first.to) in
        let both = same 0 1 zero_in two in (
          record {
            from = omega (arith, first.from, zero_in);
            to = omega (arith, first.to, two);
            two = λ e. omega (arith, e, first.from, first.to);
            greatest = λ u d u_in d_in other seen.
                let e : walk u d * distance p.ends.from p.ends.to ≡ walk p.ends.from p.ends.to * distance u d =
                ap (λ (x : ℕ). x * distance p.ends.from p.ends.to) (same u d u_in d_in) ∙ mul_comm (distance u d) (distance p.ends.from p.ends.to)
                ∙ ap (λ (x : ℕ). x * distance u d) (sym ends ∙ sym both ∙ walked) in
                omega (arith, e);
            first = λ u d u_in d_in other seen early. absurd (no_earlier u d p.ends.from p.ends.to first.from first.to other early);
          },
          (first.walk ∙ far ∙ sym both ∙ walked, far ∙ ends),
        )

  pub far_are : (sum : ℕ) (pair : Option Weighed) → IsFarSum s (node_count s.topology) sum → IsFirstPair s pair → AreFigures s (record { walks = sum; distances = sum; worst = pair })
  far_are sum pair far first = all_figures s is (record { walks = sum; distances = sum; worst = pair }) (record {
    light_walks = far.light;
    light_distances = far.light;
    reached = λ u d u_in d_in. nearer_distance s.topology (table_port s) nearer u d u_in d_in;
    walks = λ walk are. far.far walk (walks_are_far walk are);
    distances = λ distance are. far.far distance are;
    worst = λ walk distance walks distances. worst walk distance walks distances pair first;
  })

-- ---- batches

-- the node of a lane, where there are so many nodes from the first one of the batch on
pub source_of : (found : Option OutwardLanes) (first lane n : ℕ) → lane < 16 → first + lane < n → IfSome found (λ ways. (k : ℕ) → k < 16 → source_at ways k ≡ min (first + k) (n - 1))
    → IfSome found (λ ways. source_at ways lane ≡ first + lane)
source_of None first lane n low inside each = tt
source_of (Some ways) first lane n low inside each = each lane low ∙ min-eq_left (omega (arith, inside))

-- where a batch ends
pub batch_end : (first n lane : ℕ) → first < n → lane ≡ min 16 (n - first) → first + lane ≡ min (first + 16) n
batch_end first n lane inside is = ⊎_elim
    (λ (all : first + 16 < n). (let e : min 16 (n - first) ≡ 16 = min-eq_left (omega (arith, all)) in let f : min (first + 16) n ≡ first + 16 = min-eq_left (omega (arith, all)) in omega (arith, is, e, f)))
    (λ (few : n ≤ first + 16). (let e : min 16 (n - first) ≡ n - first = min-eq_right (omega (arith, few)) in let f : min (first + 16) n ≡ n = min-eq_right (omega (arith, few)) in omega (arith, is, e, f, inside)))
    (cases_lt (first + 16) n)

pub sum_at : (s : Plan) (count other sum : ℕ) → count ≡ other → IsFarSum s count sum → IsFarSum s other sum
sum_at s count other sum same is = subst (λ (k : ℕ). IsFarSum s k sum) same is

-- a batch that begins before the end
pub batch_begins : (s : Plan) (batch n sum : ℕ) → batch * 16 < n → IsFarSum s (min (batch * 16) n) sum → IsFarSum s (batch * 16) sum
batch_begins s batch n sum inside is = let e : min (batch * 16) n ≡ batch * 16 = min-eq_left (omega (arith, inside)) in sum_at s (min (batch * 16) n) (batch * 16) sum e is

-- all batches reach the end
pub batches_end : (s : Plan) (batch n sum : ℕ) → n ≤ batch * 16 → IsFarSum s (min (batch * 16) n) sum → IsFarSum s n sum
batches_end s batch n sum past is = let e : min (batch * 16) n ≡ n = min-eq_right past in sum_at s (min (batch * 16) n) n sum e is

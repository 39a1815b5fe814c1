-- The figures of a plan, and their text.
use Rattle.std.specs.Prelude.{◌≡◌, ◌≢◌, ℕ, ◌-◌, ◌*◌, ◌<◌, ◌≤◌, ◌⊎◌, ◌==◌, if◌then◌else◌, List, [], ◌∷◌, ◌++◌, length, sum_by, decimal, codes, Option, None, Some}
use Rattle.std.specs.List.{range_with_len}
use Rattle.ir_model.specs.Graph.{Name}
use Rattle.ir_model.specs.Topology.{node_count}
use Rattle.ir_model.specs.Walk.{walk_weight, IsDistance}
use Rattle.ir_model.specs.Table.{IsPrescribedWalk}
use Rattle.ir_model.specs.Plan.{Plan, row_in, table_port}
use Rattle.ir_trace.specs.Written.{name_at}
use Rattle.ir_show.specs.declared.worst.Pair.{Pair}
use Rattle.ir_show.specs.PlanText.{kind_text}
use Rattle.ir_show.specs.Words.{line_text}

-- walk u d is the weight of the walk that the full table prescribes from u to d
abbrev pub AreWalkWeights : Plan → (ℕ → ℕ → ℕ) → Type 0
AreWalkWeights plan walk =
    (u d : ℕ) → u < node_count plan.topology → d < node_count plan.topology → (nodes : List ℕ) × IsPrescribedWalk plan.topology (table_port plan) u d nodes × (walk_weight plan.topology nodes ≡ walk u d)

-- distance u d is the distance from u to d
abbrev pub ArePlanDistances : Plan → (ℕ → ℕ → ℕ) → Type 0
ArePlanDistances plan distance = (u d : ℕ) → u < node_count plan.topology → d < node_count plan.topology → IsDistance plan.topology u d (distance u d)

-- the sum over all nodes but u, and over all ordered pairs of two nodes
abbrev pub sum_from : ℕ → (ℕ → ℕ → ℕ) → ℕ → ℕ
sum_from n weight u = sum_by (λ d. if u == d then 0 else weight u d) (range_with_len 0 n)

abbrev pub sum_of_pairs : ℕ → (ℕ → ℕ → ℕ) → ℕ
sum_of_pairs n weight = sum_by (sum_from n weight) (range_with_len 0 n)

-- Of the first so many nodes u has a row that none exceeds, and it is the first that has.
pub record IsGreatestAmong (plan : Plan) (count u : ℕ) : Type 0 where
  pub node : u < count
  pub greatest : (v : ℕ) → v < count → length (row_in plan v) ≤ length (row_in plan u)
  pub first : (v : ℕ) → v < u → length (row_in plan v) < length (row_in plan u)

abbrev pub IsGreatestRow : Plan → ℕ → Type 0
IsGreatestRow plan u = IsGreatestAmong plan (node_count plan.topology) u

-- the pair u, d is before a, b: by the first node, then by the second
abbrev pub IsEarlier : ℕ → ℕ → ℕ → ℕ → Type 0
IsEarlier u d a b = (u < a) ⊎ ((u ≡ a) × (d < b))

-- Of all pairs of two nodes a, b has a walk that is as great a multiple of its distance as any, and it is the first that
-- has. That u, d has no greater one is said by products.
pub record IsWorst (n : ℕ) (walk distance : ℕ → ℕ → ℕ) (a b : ℕ) : Type 0 where
  pub from : a < n
  pub to : b < n
  pub two : a ≢ b
  pub greatest : (u d : ℕ) → u < n → d < n → u ≢ d → walk u d * distance a b ≤ walk a b * distance u d
  pub first : (u d : ℕ) → u < n → d < n → u ≢ d → IsEarlier u d a b → walk u d * distance a b < walk a b * distance u d

-- the worst pair, if there are two nodes
abbrev pub IsWorstOf : ℕ → (ℕ → ℕ → ℕ) → (ℕ → ℕ → ℕ) → Option Pair → Type 0
IsWorstOf n walk distance None = n ≤ 1
IsWorstOf n walk distance (Some p) = IsWorst n walk distance p.from p.to

-- `worst A B WALK DISTANCE`, where there is a pair
abbrev pub worst_line : List Name → (ℕ → ℕ → ℕ) → (ℕ → ℕ → ℕ) → Option Pair → List ℕ
worst_line nodes walk distance None = []
worst_line nodes walk distance (Some p) =
    line_text (codes "worst" ∷ name_at nodes p.from ∷ name_at nodes p.to ∷ decimal (walk p.from p.to) ∷ decimal (distance p.from p.to) ∷ [])

-- `WHAT COUNT`
abbrev pub count_line : List ℕ → ℕ → List ℕ
count_line what count = line_text (what ∷ decimal count ∷ [])

-- `stats KIND N`
abbrev pub stats_head : Plan → List (List ℕ)
stats_head plan = codes "stats" ∷ kind_text plan.kind ∷ decimal (node_count plan.topology) ∷ []

-- `WHAT NODE COUNT`
abbrev pub node_count_line : List Name → List ℕ → ℕ → ℕ → List ℕ
node_count_line nodes what u count = line_text (what ∷ name_at nodes u ∷ decimal count ∷ [])

-- the row of a node as the greatest
abbrev pub greatest_line : List Name → Plan → ℕ → List ℕ
greatest_line nodes plan u = node_count_line nodes (codes "greatest-row") u (length (row_in plan u))

-- the lines that count what a plan holds; full tables would hold an entry for each ordered pair of two nodes
abbrev pub rows_text : List Name → Plan → ℕ → List ℕ
rows_text nodes plan greatest =
    (((line_text (stats_head plan) ++ count_line (codes "links") (length plan.topology.links)) ++ count_line (codes "starts") (sum_by length plan.rows))
    ++ count_line (codes "entries") (node_count plan.topology * (node_count plan.topology - 1)))
    ++ greatest_line nodes plan greatest

-- the lines that weigh its walks
abbrev pub weights_text : List Name → ℕ → (ℕ → ℕ → ℕ) → (ℕ → ℕ → ℕ) → Option Pair → List ℕ
weights_text nodes n walk distance worst =
    (count_line (codes "walks") (sum_of_pairs n walk) ++ count_line (codes "distances") (sum_of_pairs n distance)) ++ worst_line nodes walk distance worst

-- The text has the figures of a plan.
pub record IsStatsOf (nodes : List Name) (plan : Plan) (text : List ℕ) : Type 0 where
  pub greatest : ℕ
  pub greatest_row : IsGreatestRow plan greatest
  pub walk : ℕ → ℕ → ℕ
  pub walks : AreWalkWeights plan walk
  pub distance : ℕ → ℕ → ℕ
  pub distances : ArePlanDistances plan distance
  pub worst : Option Pair
  pub worst_pair : IsWorstOf (node_count plan.topology) walk distance worst
  pub whole : text ≡ rows_text nodes plan greatest ++ weights_text nodes (node_count plan.topology) walk distance worst

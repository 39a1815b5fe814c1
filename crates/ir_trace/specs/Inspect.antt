-- What the checker computes of a row.
use Rattle.std.specs.Prelude.{◌≡◌, ℕ, ◌<◌, ◌≤◌, ◌==◌, Bool, true, false, not, ◌&&◌, ◌||◌, List, [], ◌∷◌, length, sum_by, nat_lt, nat_le, Option, Some, None, slice_get, if◌then◌else◌}
use Rattle.std.specs.Option.{option_map_or}
use Rattle.std.specs.List.{list_all}
use Rattle.ir_model.specs.Topology.{Topology, node_count}
use Rattle.ir_model.specs.Walk.{walk_weight}
use Rattle.ir_model.specs.Table.{next_node}
use Rattle.ir_model.specs.Plan.{Plan, table_port, IsPlan}
use Rattle.ir_core.specs.Sound.{last_of}
use Rattle.ir_trace.specs.declared.row.RowFate.{RowFate}
use Rattle.ir_trace.specs.declared.row.RowFate.TheVariants.{Delivered, Retired, Down, Full, Left}
use Rattle.ir_trace.specs.declared.finding.FindingKind.{FindingKind}
use Rattle.ir_trace.specs.declared.finding.FindingKind.TheVariants.{UnknownEpoch, NotAPrefix, NotAtDestination, BadWeight, NoMemory}
use Rattle.ir_trace.specs.Row.{Segment, TraceRow}
use Rattle.ir_trace.specs.Checked.{plan_at, last_part, is_part_over, IsFirstFinding}

-- the node is this one
abbrev pub is_node : Option ℕ → ℕ → Bool
is_node next v = option_map_or (λ w. w == v) next false

-- the node that the plan's table sends on to
abbrev pub next_of : Plan → ℕ → ℕ → Option ℕ
next_of t u d = next_node t.topology (table_port t) u d

-- the table leads from u through these nodes
abbrev pub leads_through : Plan → ℕ → ℕ → List ℕ → Bool
leads_through t d u [] = true
leads_through t d u (v ∷ rest) = is_node (next_of t u d) v && leads_through t d v rest

-- the hops begin with u, and the table leads through the others
abbrev pub follows_from : Plan → ℕ → ℕ → List ℕ → Bool
follows_from t d u [] = false
follows_from t d u (x ∷ rest) = (x == u) && leads_through t d x rest

abbrev pub are_known : ℕ → List Segment → Bool
are_known epochs parts = list_all (λ part. nat_lt 0 part.epoch && nat_le part.epoch epochs) parts

abbrev pub are_joined : List Plan → ℕ → ℕ → ℕ → List Segment → Bool
are_joined plans d u above [] = true
are_joined plans d u above (part ∷ parts) =
    nat_lt above part.epoch && (follows_from (plan_at plans part.epoch) d u part.hops && are_joined plans d (last_of part.hops) part.epoch parts)

-- where the packet is, and where its table sends it on to, fit the fate
abbrev pub fits_fate : RowFate → ℕ → Option ℕ → Bool
fits_fate Delivered u next = true
fits_fate Retired u next = true
fits_fate (Down low high) u next = ((u == low) && is_node next high) || ((u == high) && is_node next low)
fits_fate (Full from to) u next = (u == from) && is_node next to
fits_fate Left u next = true

abbrev pub goes_on : List Plan → ℕ → RowFate → List Segment → Bool
goes_on plans d fate parts =
    fits_fate fate (last_of (last_part parts).hops) (next_of (plan_at plans (last_part parts).epoch) (last_of (last_part parts).hops) d)

abbrev pub is_delivered : RowFate → Bool
is_delivered Delivered = true
is_delivered Retired = false
is_delivered (Down low high) = false
is_delivered (Full from to) = false
is_delivered Left = false

abbrev pub has_arrived : ℕ → RowFate → List Segment → Bool
has_arrived d fate parts = not (is_delivered fate) || (last_of (last_part parts).hops == d)

-- the sum of the weights of the parts
abbrev pub segments_weight : Topology → List Segment → ℕ
segments_weight topology parts = sum_by (λ part. walk_weight topology part.hops) parts

-- the first that doesn't hold
abbrev pub first_of_four : Bool → Bool → Bool → Bool → Option FindingKind
first_of_four known follows arrived weighs =
    if not known then Some UnknownEpoch
    else if not follows then Some NotAPrefix
    else if not arrived then Some NotAtDestination
    else if not weighs then Some BadWeight
    else None

-- what is found of a row alone
abbrev pub found_of : Topology → List Plan → TraceRow → Option FindingKind
found_of topology plans row = first_of_four
    (are_known (length plans) row.parts)
    (are_joined plans row.dest row.source 0 row.parts && goes_on plans row.dest row.fate row.parts)
    (has_arrived row.dest row.fate row.parts)
    (segments_weight topology row.parts == row.weight)

-- the plans of the epochs are over so many nodes
abbrev pub AreOver : ℕ → List Plan → Type 0
AreOver nodes plans = (e : ℕ) → 0 < e → e ≤ length plans → IsPlan (plan_at plans e) × (node_count (plan_at plans e).topology ≡ nodes)

-- the epoch of a part is known, and its nodes and d are nodes of that epoch's plan
pub record IsOverPlan (plans : List Plan) (d : ℕ) (part : Segment) : Type 0 where
  pub above : 0 < part.epoch
  pub within : part.epoch ≤ length plans
  pub hops : is_part_over (node_count (plan_at plans part.epoch).topology) part ≡ true
  pub dest : d < node_count (plan_at plans part.epoch).topology

abbrev pub AreOverPlans : List Plan → ℕ → List Segment → Type 0
AreOverPlans plans d parts = (i : ℕ) (part : Segment) → slice_get parts i ≡ Some part → IsOverPlan plans d part

-- what is found in rows, by the plans of the epochs
abbrev pub FindsBy : Topology → List Plan → List TraceRow → ℕ → FindingKind → Type 0
FindsBy topology plans rows line NoMemory = line ≡ 0
FindsBy topology plans rows line kind = IsFirstFinding topology plans rows line kind

-- The distances of a network, added up destination by destination.
use Rattle.std.specs.Prelude.{◌≡◌, ℕ, ◌*◌, ◌<◌, ◌≤◌, Option, None, Some}
use Rattle.ir_model.specs.Topology.{node_count}
use Rattle.ir_model.specs.Walk.{IsDistance}
use Rattle.ir_model.specs.Plan.{Plan}
use Rattle.ir_show.specs.declared.worst.Weighed.{Weighed}
use Rattle.ir_show.specs.StatsText.{ArePlanDistances}
use Rattle.ir_show.specs.Figures.{sum_before}

-- the sum of the distances to the first so many nodes
pub record IsFarSum (plan : Plan) (count sum : ℕ) : Type 0 where
  pub light : sum ≤ 140737488355328 * count
  pub far : (distance : ℕ → ℕ → ℕ) → ArePlanDistances plan distance → sum ≡ sum_before (node_count plan.topology) distance count

-- the pair of the nodes 0 and 1, with its distance as the weight of its walk
pub record IsPairOfFirst (plan : Plan) (pair : Weighed) : Type 0 where
  pub two : 1 < node_count plan.topology
  pub from : pair.ends.from ≡ 0
  pub to : pair.ends.to ≡ 1
  pub far : IsDistance plan.topology 0 1 pair.distance
  pub walk : pair.walk ≡ pair.distance

-- the same, where there are two nodes
abbrev pub IsFirstPair : Plan → Option Weighed → Type 0
IsFirstPair plan None = node_count plan.topology ≤ 1
IsFirstPair plan (Some pair) = IsPairOfFirst plan pair

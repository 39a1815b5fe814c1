-- How far from each node the searches for near nodes go, and the weights that they find.
use Rattle.std.specs.Prelude.{◌≡◌, ℕ, ◌<◌, ◌≤◌, false, Option, IfSome, List, length}
use Rattle.std.specs.Global.{Vec}
use Rattle.ir_model.specs.Topology.{Topology, node_count}
use Rattle.ir_model.specs.Walk.{IsDistance}
use Rattle.ir_model.specs.Landmark.{is_far}
use Rattle.ir_tables.specs.Relaxation.{at, IsTight}
use Rattle.ir_bounds.specs.declared.landmarks.Owners.{Owners}

-- The reach of each node is more than any distance from which the node is not far. Along a link it falls by no more
-- than the link weighs: so the nodes on a shortest way to a node within its reach are within theirs.
pub record AreReaches (net : Topology) (stretch : ℕ) (radii reaches : List ℕ) : Type 0 where
  pub every : length reaches ≡ node_count net
  pub near : (d : ℕ) → d < node_count net → (away : ℕ) → is_far stretch away (at radii d) ≡ false → away < at reaches d
  pub slow : IsTight net (at reaches)

-- such reaches, where there are some: only ways longer than the distance are allowed then
abbrev pub AreShortReaches : Topology → ℕ → Owners → Option (Vec ℕ) → Type 0
AreShortReaches net stretch owners found = IfSome found (λ reaches. (100 < stretch) × AreReaches net stretch owners.radii.items reaches.items)

-- no weight is less than the distance from u, and it is the distance where that is within the reach
pub record IsWithinReach (net : Topology) (u d reach weight : ℕ) : Type 0 where
  pub away : ℕ
  pub direct : IsDistance net u d away
  pub least : away ≤ weight
  pub within : away < reach → weight ≡ away

-- such are the weights of all nodes
pub record AreWithin (net : Topology) (u : ℕ) (reaches weights : List ℕ) : Type 0 where
  pub every : length weights ≡ node_count net
  pub each : (d : ℕ) → d < node_count net → IsWithinReach net u d (at reaches d) (at weights d)

-- The weights tell which nodes are far from u, and are the distances to the others.
pub record TellsNear (net : Topology) (stretch u d radius weight : ℕ) : Type 0 where
  pub away : ℕ
  pub direct : IsDistance net u d away
  pub far : is_far stretch weight radius ≡ is_far stretch away radius
  pub near : is_far stretch away radius ≡ false → weight ≡ away

pub record TellNear (net : Topology) (stretch u : ℕ) (radii weights : List ℕ) : Type 0 where
  pub every : length weights ≡ node_count net
  pub each : (d : ℕ) → d < node_count net → TellsNear net stretch u d (at radii d) (at weights d)

-- The bounds of a landmark plan that are held for its rows.
use Rattle.std.specs.Prelude.{◌≡◌, ℕ}
use Rattle.ir_model.specs.declared.Detour.{Detour}
use Rattle.ir_model.specs.Topology.{Topology}
use Rattle.ir_model.specs.Landmark.{AreLandmarks, AreMostLinked, IsPathStretch}
use Rattle.ir_bounds.specs.Bounds.{AreOwners, held_lists}
use Rattle.ir_bounds.specs.Around.{AreAround}
use Rattle.ir_bounds.specs.Near.{AreNearBatches}
use Rattle.ir_bounds.specs.declared.landmarks.Owners.{Owners}
use Rattle.ir_bounds.specs.declared.detours.LandmarkBounds.{LandmarkBounds}

-- the landmark of each node, the distances to the landmarks, and the bounds to near nodes, by the landmarks and the
-- stretch that are held with them
pub record AreHeldBounds (net : Topology) (held : LandmarkBounds) : Type 0 where
  pub landmarks : AreLandmarks net held.owners.landmarks.items
  pub stretch : IsPathStretch held.stretch
  pub owners : AreOwners net held.owners.landmarks.items held.owners
  pub around : AreAround net held.owners
  pub near : AreNearBatches net held.owners.landmarks.items held.stretch (held_lists held.near.items)

-- the landmarks that a root and a detour choose, the landmark of each node, and the distances to them
pub record AreChosenOwners (net : Topology) (root : ℕ) (detour : Detour) (held : Owners) : Type 0 where
  pub chosen : AreMostLinked net root detour.landmarks held.landmarks.items
  pub landmarks : AreLandmarks net held.landmarks.items
  pub owners : AreOwners net held.landmarks.items held
  pub around : AreAround net held

-- those by the landmarks that a root and a detour choose
pub record AreDetourBounds (net : Topology) (root : ℕ) (detour : Detour) (held : LandmarkBounds) : Type 0 where
  pub chosen : AreMostLinked net root detour.landmarks held.owners.landmarks.items
  pub stretch : held.stretch ≡ detour.stretch
  pub are : AreHeldBounds net held

-- The distances to landmarks.
use Rattle.std.specs.Prelude.{◌≡◌, ℕ, ◌<◌, List, [], length, slice_index, slice_index_or}
use Rattle.ir_model.specs.Topology.{Topology, node_count, ports_of}
use Rattle.ir_model.specs.Walk.{IsDistance}
use Rattle.ir_tables.specs.FromNode.{AreFrom}
use Rattle.ir_bounds.specs.Bounds.{held_lists}
use Rattle.ir_bounds.specs.Words.{IsWordBy}
use Rattle.ir_bounds.specs.declared.landmarks.Owners.{Owners}

-- the slot at each of the first m landmarks is a place of it
abbrev pub AreSlots : List ℕ → ℕ → List ℕ → Type 0
AreSlots landmarks m slots =
    (i : ℕ) → i < m → (slice_index slots (slice_index landmarks i) < length landmarks) × (slice_index landmarks (slice_index slots (slice_index landmarks i)) ≡ slice_index landmarks i)

-- the distances from the first m landmarks, by their places
abbrev pub AreAways : Topology → List ℕ → ℕ → List (List ℕ) → Type 0
AreAways net landmarks m lists = (i : ℕ) → i < m → AreFrom net (slice_index landmarks i) (slice_index_or lists i [])

-- the distances from all landmarks, and the slot at each
pub record AreAround (net : Topology) (owners : Owners) : Type 0 where
  pub lists : length (held_lists owners.away.items) ≡ length owners.landmarks.items
  pub away : AreAways net owners.landmarks.items (length owners.landmarks.items) (held_lists owners.away.items)
  pub every : length owners.slots.items ≡ node_count net
  pub slots : AreSlots owners.landmarks.items (length owners.landmarks.items) owners.slots.items

-- the distances from u to the first m landmarks, by node
pub record AreDistancesIn (net : Topology) (landmarks : List ℕ) (u m : ℕ) (around : List ℕ) : Type 0 where
  pub every : length around ≡ node_count net
  pub each : (i : ℕ) → i < m → IsDistance net u (slice_index landmarks i) (slice_index around (slice_index landmarks i))

-- at each of the first m landmarks the word of the ports of u that lead as near to it as u is
pub record AreBlockWords (net : Topology) (owners : Owners) (u m : ℕ) (blocks : List ℕ) : Type 0 where
  pub every : length blocks ≡ node_count net
  pub each : (i : ℕ) → i < m → (away : List ℕ) × AreFrom net (slice_index owners.landmarks.items i) away × IsWordBy net away 0 (slice_index away u) u (length (ports_of net u)) (slice_index blocks (slice_index owners.landmarks.items i))

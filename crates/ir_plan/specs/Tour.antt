-- The tour of a network from a root: an order of its nodes in which neighbours are sent alike by most nodes.
use Rattle.std.specs.Prelude.{◌≡◌, ◌⊎◌, ℕ, zero, suc, ◌+◌, ◌-◌, ◌<◌, ◌≤◌, Bool, true, false, not, ◌==◌, nat_lt, if◌then◌else◌, Option, Some, None, List, ◌++◌, length, take, drop, reverse, fold, count_by, slice_index, slice_range}
use Rattle.std.specs.List.{range_with_len}
use Rattle.ir_model.specs.Topology.{Topology, node_count}
use Rattle.ir_model.specs.Table.{IsShortestTable}
use Rattle.ir_numbering.specs.Numbering.{IsListing}

-- whether two ports, each of them none at a destination itself, are different
abbrev pub differ : Option ℕ → Option ℕ → Bool
differ None None = false
differ None (Some q) = true
differ (Some p) None = true
differ (Some p) (Some q) = not (p == q)

-- the difference of two destinations: at how many of n nodes a table has different ports to them
unfoldable pub difference : ℕ → (ℕ → ℕ → Option ℕ) → ℕ → ℕ → ℕ
difference n table a b = count_by (λ u. differ (table u a) (table u b)) (range_with_len 0 n)

-- v is nearer than w, or as near and of no greater number
abbrev pub IsNoFarther : (ℕ → ℕ) → ℕ → ℕ → Type 0
IsNoFarther far v w = (far v < far w) ⊎ ((far v ≡ far w) × (v ≤ w))

-- The order by nearest: all numbers below n, the root first, and after each the nearest of all that are not before.
pub record IsNearestOrder (n : ℕ) (far : ℕ → ℕ → ℕ) (root : ℕ) (order : List ℕ) : Type 0 where
  pub listing : IsListing n order
  pub first : slice_index order 0 ≡ root
  pub nearest : (i j : ℕ) → i < j → j < n → IsNoFarther (far (slice_index order i)) (slice_index order (i + 1)) (slice_index order j)

-- the node after place j of the closed tour
abbrev pub next_in_tour : List ℕ → ℕ → ℕ
next_in_tour order j = slice_index order (if nat_lt (j + 1) (length order) then j + 1 else 0)

-- whether the closed tour gets shorter where the stretch from place i to place j is turned: only the edges at its ends change
unfoldable pub is_shorter : (ℕ → ℕ → ℕ) → List ℕ → ℕ → ℕ → Bool
is_shorter far order i j =
    nat_lt (far (slice_index order (i - 1)) (slice_index order j) + far (slice_index order i) (next_in_tour order j))
    (far (slice_index order (i - 1)) (slice_index order i) + far (slice_index order j) (next_in_tour order j))

-- that stretch turned
unfoldable pub turned : List ℕ → ℕ → ℕ → List ℕ
turned order i j = take i order ++ (reverse (slice_range order i (j + 1)) ++ drop (j + 1) order)

-- the stretch is tried: turned where that makes the tour shorter
unfoldable pub tried : (ℕ → ℕ → ℕ) → ℕ → List ℕ → ℕ → List ℕ
tried far i order j = if is_shorter far order i j then turned order i j else order

-- the stretches from place i on are tried, the shortest first
unfoldable pub tried_from : (ℕ → ℕ → ℕ) → List ℕ → ℕ → List ℕ
tried_from far order i = fold (tried far i) order (range_with_len (i + 1) (length order - (i + 1)))

-- a sweep: all stretches after the first place are tried, by where they begin
unfoldable pub swept : (ℕ → ℕ → ℕ) → List ℕ → List ℕ
swept far order = fold (tried_from far) order (range_with_len 1 (length order - 1))

-- so many sweeps; those after one that changes nothing change nothing
unfoldable pub shortened : (ℕ → ℕ → ℕ) → ℕ → List ℕ → List ℕ
shortened far zero order = order
shortened far (suc sweeps) order = shortened far sweeps (swept far order)

-- The tour of a network from a root: the order by nearest, shortened by 16 sweeps, where nodes are as far apart as their
-- difference in the shortest table.
pub record IsTour (topology : Topology) (root : ℕ) (tour : List ℕ) : Type 0 where
  pub table : ℕ → ℕ → Option ℕ
  pub shortest : IsShortestTable topology table
  pub start : List ℕ
  pub nearest : IsNearestOrder (node_count topology) (difference (node_count topology) table) root start
  pub short : tour ≡ shortened (difference (node_count topology) table) 16 start

-- a listing of all nodes that is the tour and begins with the root
pub record IsTourOf (topology : Topology) (root : ℕ) (order : List ℕ) : Type 0 where
  pub tour : IsTour topology root order
  pub listing : IsListing (node_count topology) order
  pub first : slice_index order 0 ≡ root

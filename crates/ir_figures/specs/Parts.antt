-- The directed links of a part of a network, in a row, as those of the whole network, and what they wait for marked there.
use Rattle.std.specs.Prelude.{◌≡◌, ℕ, ◌+◌, ◌<◌, ◌≤◌, ◌⊎◌, Bool, Option, Some, None, List, length, slice_index, slice_index_or}
use Rattle.ir_model.specs.Topology.{Topology, node_count, ports_of}
use Rattle.ir_model.specs.Plan.{Plan}
use Rattle.ir_figures.specs.declared.waits.Waiting.{Waiting}
use Rattle.ir_figures.specs.Arcs.{marks_of, width_of, IsArcMarked}
use Rattle.ir_figures.specs.Exits.{exits_before, AreExits, AreLinks}
use Rattle.ir_figures.specs.Waits.{Waits, IsSameLink}

-- the directed links of a plan's network, and which of them wait for which
pub record AreWaitsOf (plan : Plan) (w : Waiting) : Type 0 where
  pub exits : AreExits plan.topology (node_count plan.topology) w.exits.first.items w.exits.nodes.items
  pub links : AreLinks plan.topology (Waits plan) w.links.begins.items (marks_of w.links.marks.items) (exits_before plan.topology (node_count plan.topology))

-- the link with the number c in the part is the one with the number d in the whole network
pub record IsNumbered (whole : Topology) (number : ℕ → ℕ) (part : Topology) (c d : ℕ) : Type 0 where
  pub x : ℕ
  pub r : ℕ
  pub u : ℕ
  pub p : ℕ
  pub node : x < node_count part
  pub port : r < length (ports_of part x)
  pub inner : exits_before part x + r ≡ c
  pub same : IsSameLink whole number part u p x r
  pub outer : exits_before whole u + p ≡ d

-- it is none of the whole network
abbrev pub IsNoLink : Topology → (ℕ → ℕ) → Topology → ℕ → Type 0
IsNoLink whole number part c =
    (u p x r : ℕ) → x < node_count part → r < length (ports_of part x) → exits_before part x + r ≡ c → IsSameLink whole number part u p x r → ⊥

-- its number in the whole network, if it is one of it
abbrev pub IsNumberIn : Topology → (ℕ → ℕ) → Topology → ℕ → Option ℕ → Type 0
IsNumberIn whole number part c None = IsNoLink whole number part c
IsNumberIn whole number part c (Some d) = IsNumbered whole number part c d

-- those of the first so many links
pub record AreNumbersIn (whole : Topology) (number : ℕ → ℕ) (part : Topology) (count : ℕ) (numbers : List (Option ℕ)) : Type 0 where
  pub every : length numbers ≡ count
  pub each : (c : ℕ) → c < count → IsNumberIn whole number part c (slice_index_or numbers c None)

-- the mark at place k of row a in the part stands at place q of row c in the whole network
pub record StandsAt (begins inner : List ℕ) (marks : List (List Bool)) (numbers : List (Option ℕ)) (a k c q : ℕ) : Type 0 where
  pub marked : IsArcMarked marks a k
  pub row : slice_index_or numbers a None ≡ Some c
  pub target : slice_index_or numbers (slice_index inner a + k) None ≡ Some (slice_index begins c + q)

-- Rows in which also those marks stand that are done, and no other ones.
pub record AreMarkedToo (stands : ℕ → ℕ → ℕ → ℕ → Type 0) (done : ℕ → ℕ → Type 0) (old new : List (List Bool)) : Type 0 where
  pub every : length new ≡ length old
  pub wide : (c : ℕ) → width_of new c ≡ width_of old c
  pub kept : (c q : ℕ) → IsArcMarked old c q → IsArcMarked new c q
  pub too : (a k c q : ℕ) → done a k → stands a k c q → IsArcMarked new c q
  pub only : (c q : ℕ) → IsArcMarked new c q → IsArcMarked old c q ⊎ ((a k : ℕ) × stands a k c q)

-- Each mark has its place in the rows: what the numbers are is of one length with the marks, and leads to places of rows.
pub record HavePlaces (begins inner : List ℕ) (marks : List (List Bool)) (numbers : List (Option ℕ)) (rows : List (List Bool)) : Type 0 where
  pub every : length numbers ≡ length marks
  pub every_block : length inner ≡ length marks
  pub every_row : length begins ≡ length rows
  pub block : (a : ℕ) → a < length marks → slice_index inner a + width_of marks a ≤ length marks
  pub row : (a c : ℕ) → slice_index_or numbers a None ≡ Some c → c < length rows
  pub place : (a k c d : ℕ) → IsArcMarked marks a k → slice_index_or numbers a None ≡ Some c → slice_index_or numbers (slice_index inner a + k) None ≡ Some d
      → (slice_index begins c ≤ d) × (d < slice_index begins c + width_of rows c)

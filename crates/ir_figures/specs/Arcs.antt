-- Digraphs whose arcs from a node lead into a block of nodes: numbers along which arcs rise, and rings of arcs.
use Rattle.std.specs.Prelude.{◌≡◌, ◌≢◌, ℕ, ◌+◌, ◌-◌, ◌<◌, ◌≤◌, Bool, true, false, List, [], length, map, slice_index, slice_index_or}
use Rattle.std.specs.Global.{Vec}

-- the marks of each node's block
abbrev pub marks_of : List (Vec Bool) → List (List Bool)
marks_of leads = map (λ row. row.items) leads

-- how many nodes there are in the block of c
abbrev pub width_of : List (List Bool) → ℕ → ℕ
width_of marks c = length (slice_index_or marks c [])

-- the node at place q of the block of c is marked
abbrev pub IsArcMarked : List (List Bool) → ℕ → ℕ → Type 0
IsArcMarked marks c q = slice_index_or (slice_index_or marks c []) q false ≡ true

-- an arc leads from c to d: d is in the block of c, and is marked there
pub record IsArc (first : List ℕ) (marks : List (List Bool)) (c d : ℕ) : Type 0 where
  pub place : ℕ
  pub within : place < width_of marks c
  pub marked : IsArcMarked marks c place
  pub leads : slice_index first c + place ≡ d

-- as many nodes as there are blocks, and each block is one of nodes
pub record IsDigraph (first : List ℕ) (marks : List (List Bool)) : Type 0 where
  pub every : length first ≡ length marks
  pub few : length marks ≤ 4294967295
  pub narrow : (c : ℕ) → c < length marks → width_of marks c ≤ 65535
  pub within : (c : ℕ) → c < length marks → slice_index first c + width_of marks c ≤ length marks

-- each arc rises along the numbers
abbrev pub ArcsRise : List ℕ → List (List Bool) → (ℕ → ℕ) → Type 0
ArcsRise first marks number = (c d : ℕ) → c < length marks → IsArc first marks c d → number c < number d

-- there are such numbers
abbrev pub IsAcyclic : List ℕ → List (List Bool) → Type 0
IsAcyclic first marks = (number : ℕ → ℕ) × ArcsRise first marks number

-- nodes, none twice, of which an arc leads from each to the next one, and from the last to the first
pub record IsRing (first : List ℕ) (marks : List (List Bool)) (ring : List ℕ) : Type 0 where
  pub some : 0 < length ring
  pub nodes : (i : ℕ) → i < length ring → slice_index ring i < length marks
  pub once : (i j : ℕ) → i < j → j < length ring → slice_index ring i ≢ slice_index ring j
  pub arcs : (i : ℕ) → i + 1 < length ring → IsArc first marks (slice_index ring i) (slice_index ring (i + 1))
  pub closed : IsArc first marks (slice_index ring (length ring - 1)) (slice_index ring 0)

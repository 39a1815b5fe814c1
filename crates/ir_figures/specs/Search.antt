-- What holds on the way through a digraph.
use Rattle.std.specs.Prelude.{◌≡◌, ◌≢◌, ℕ, ◌+◌, ◌-◌, ◌<◌, ◌≤◌, Bool, List, length, sum, drop, slice_index}
use Rattle.std.specs.Global.{Vec}
use Rattle.ir_figures.specs.declared.search.Search.{Search}
use Rattle.ir_figures.specs.Arcs.{marks_of, width_of, IsArcMarked, IsArc}

-- A node takes a step to be entered, one for each place of its block, and one to be left: it is fresh while all these
-- are due, and done when none is. In between it is open.
pub record IsOpen (marks : List (List Bool)) (due : List ℕ) (c : ℕ) : Type 0 where
  pub node : c < length marks
  pub begun : slice_index due c ≤ width_of marks c + 1
  pub not_done : 0 < slice_index due c

-- no more steps are due of each node than it takes, and of all as many as `total`
pub record AreDue (marks : List (List Bool)) (due : List ℕ) (total : ℕ) : Type 0 where
  pub every : length due ≡ length marks
  pub sum_is : sum due ≡ total
  pub most : (c : ℕ) → c < length marks → slice_index due c ≤ width_of marks c + 2

-- the path has the open nodes, each once, and an arc leads from each to the next one
pub record IsOpenPath (first : List ℕ) (marks : List (List Bool)) (due path : List ℕ) : Type 0 where
  pub opened : (i : ℕ) → i < length path → IsOpen marks due (slice_index path i)
  pub once : (i j : ℕ) → i < j → j < length path → slice_index path i ≢ slice_index path j
  pub held : (c : ℕ) → IsOpen marks due c → (i : ℕ) × (i < length path) × (slice_index path i ≡ c)
  pub arcs : (i : ℕ) → i + 1 < length path → IsArc first marks (slice_index path i) (slice_index path (i + 1))

-- where a place was passed and an arc leads there, that node is done
abbrev pub LeadToDone : List ℕ → List (List Bool) → List ℕ → Type 0
LeadToDone first marks due =
    (c q : ℕ) → c < length marks → q < width_of marks c → q + slice_index due c ≤ width_of marks c → IsArcMarked marks c q
    → slice_index due (slice_index first c + q) ≡ 0

-- the numbers of the nodes that are done rise along arcs, and none is below `total`
pub record AreRisingNumbers (first : List ℕ) (marks : List (List Bool)) (due numbers : List ℕ) (total : ℕ) : Type 0 where
  pub every : length numbers ≡ length marks
  pub rises : (c d : ℕ) → c < length marks → slice_index due c ≡ 0 → IsArc first marks c d → slice_index numbers c < slice_index numbers d
  pub late : (c : ℕ) → c < length marks → slice_index due c ≡ 0 → total ≤ slice_index numbers c

pub record IsSearch (first : List ℕ) (marks : List (List Bool)) (due numbers path : List ℕ) (total : ℕ) : Type 0 where
  pub due_are : AreDue marks due total
  pub path_is : IsOpenPath first marks due path
  pub passed : LeadToDone first marks due
  pub numbered : AreRisingNumbers first marks due numbers total

-- the same of a search of the program
abbrev pub Searches : List ℕ → List (Vec Bool) → Search → Type 0
Searches first leads s = IsSearch first (marks_of leads) s.due.items s.numbers.items s.path.items s.total

-- no step comes due again
abbrev pub OnlyFall : Search → Search → Type 0
OnlyFall old new = (c : ℕ) → slice_index new.due.items c ≤ slice_index old.due.items c

-- c is the last node of the path
abbrev pub IsLast : Search → ℕ → Type 0
IsLast s c = (0 < length s.path.items) × (slice_index s.path.items (length s.path.items - 1) ≡ c)

-- an arc leads from the last node of the path to the open node d
pub record IsBack (first : List ℕ) (leads : List (Vec Bool)) (s : Search) (d : ℕ) : Type 0 where
  pub some : 0 < length s.path.items
  pub opened : IsOpen (marks_of leads) s.due.items d
  pub arc : IsArc first (marks_of leads) (slice_index s.path.items (length s.path.items - 1)) d

-- where a step of c passes a place that is marked, the node there is done
abbrev pub IsPassed : List ℕ → List (Vec Bool) → Search → ℕ → Type 0
IsPassed first leads s c =
    (q : ℕ) → q + slice_index s.due.items c ≡ width_of (marks_of leads) c + 1 → IsArcMarked (marks_of leads) c q
    → slice_index s.due.items (slice_index first c + q) ≡ 0

-- an arc leads to d from the last node of the path, where there is one
abbrev pub ArcLeadsOn : List ℕ → List (Vec Bool) → Search → ℕ → Type 0
ArcLeadsOn first leads s d = (i : ℕ) → i + 1 ≡ length s.path.items → IsArc first (marks_of leads) (slice_index s.path.items i) d

-- the path has the node d
abbrev pub HasOnPath : Search → ℕ → Type 0
HasOnPath s d = (i : ℕ) × (i < length s.path.items) × (slice_index s.path.items i ≡ d)

-- the nodes are those of the path from d on
abbrev pub IsPathFrom : Search → ℕ → List ℕ → Type 0
IsPathFrom s d nodes = (i : ℕ) × (i < length s.path.items) × (slice_index s.path.items i ≡ d) × (nodes ≡ drop i s.path.items)

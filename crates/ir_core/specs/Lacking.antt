-- Ways over nodes of which some lack their row of a packet's epoch, as routers on many machines may. A node has its
-- whole row of the epoch's plan or none. This may change while the packet is under way; it ends where it finds none.
use Rattle.std.specs.Prelude.{◌≡◌, ◌≢◌, ℕ, ◌+◌, ◌-◌, ◌<◌, ◌⊎◌, Option, Some, None, List, [], ◌∷◌, length, IsSome}
use mathlib.Core.List.{IsPrefix}
use Rattle.ir_model.specs.declared.Hop.{Hop}
use Rattle.ir_model.specs.Topology.{node_count, port_at}
use Rattle.ir_model.specs.Row.{Start, HasPort}
use Rattle.ir_model.specs.Table.{IsPrescribedWalk}
use Rattle.ir_model.specs.Plan.{Plan, IsPlan, label_in, row_in, table_port}
use Rattle.ir_core.specs.Sound.{last_of}

-- What a packet finds: at its k-th hop, at a node, the row that the node has for the packet's epoch then, or none. Each
-- row that is there is the node's whole row of the plan.
abbrev pub AreWholeRows : Plan → (ℕ → ℕ → Option (List Start)) → Type 0
AreWholeRows plan found = (k u : ℕ) (row : List Start) → found k u ≡ Some row → row ≡ row_in plan u

-- no node ever lacks its row
abbrev pub LackNone : Plan → (ℕ → ℕ → Option (List Start)) → Type 0
LackNone plan found = (k u : ℕ) → u < node_count plan.topology → IsSome (found k u)

-- by a row, x sends what is for d to y: the row's port at d's label is one of x that leads to y
abbrev pub SendsOn : Plan → List Start → ℕ → ℕ → ℕ → Type 0
SendsOn plan row d x y =
    (port : ℕ) × (hop : Hop) × HasPort (node_count plan.topology) row (label_in plan d) port × (port_at plan.topology x port ≡ Some hop) × (hop.node ≡ y)

-- From its k-th hop x on, a packet for d goes over these nodes: each sends it on by the row that it finds there. It ends
-- at d, or where it finds none.
abbrev pub GoesOver : Plan → (ℕ → ℕ → Option (List Start)) → ℕ → ℕ → ℕ → List ℕ → Type 0
GoesOver plan found d k x [] = (x ≡ d) ⊎ ((x ≢ d) × (found k x ≡ None))
GoesOver plan found d k x (y ∷ rest) =
    (x ≢ d) × ((row : List Start) × (found k x ≡ Some row) × SendsOn plan row d x y) × GoesOver plan found d (k + 1) y rest

-- the whole way of a packet from u to d, by the rows that it finds
abbrev pub IsWayOver : Plan → (ℕ → ℕ → Option (List Start)) → ℕ → ℕ → List ℕ → Type 0
IsWayOver plan found u d [] = ⊥
IsWayOver plan found u d (x ∷ rest) = (x ≡ u) × GoesOver plan found d 0 u rest

-- it ended at a node other than d, where it found no row
abbrev pub EndsWithoutRow : (ℕ → ℕ → Option (List Start)) → ℕ → List ℕ → Type 0
EndsWithoutRow found d way = (last_of way ≢ d) × (found (length way - 1) (last_of way) ≡ None)

-- Such a way is a prefix of the walk that the plan's full table prescribes: all of it, or it ended where it found no row.
abbrev pub IsFrontOfTheWalk : Plan → (ℕ → ℕ → Option (List Start)) → ℕ → ℕ → List ℕ → Type 0
IsFrontOfTheWalk plan found u d way =
    (walk : List ℕ) × IsPrescribedWalk plan.topology (table_port plan) u d walk × IsPrefix way walk × ((way ≡ walk) ⊎ EndsWithoutRow found d way)

-- a plan, what is found of it, and two of its nodes
pub record IsSentOver (plan : Plan) (found : ℕ → ℕ → Option (List Start)) (u d : ℕ) : Type 0 where
  pub plan_is : IsPlan plan
  pub whole : AreWholeRows plan found
  pub source_in : u < node_count plan.topology
  pub dest_in : d < node_count plan.topology

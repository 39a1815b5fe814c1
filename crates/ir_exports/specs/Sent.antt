-- How what is sent to a number goes from node to node by the lines of each, whole tables or parts of them.
use Rattle.std.specs.Prelude.{◌≡◌, ◌≢◌, ℕ, ◌-◌, ◌<◌, ◌^◌, All, Contains, List, [], ◌∷◌, ◌++◌, Some, option_map, if◌then◌else◌, nat_lt, slice_index_or, take}
use Rattle.ir_model.specs.declared.Hop.{Hop}
use Rattle.ir_model.specs.Topology.{node_count, port_at}
use Rattle.ir_model.specs.Table.{IsPrescribedWalk}
use Rattle.ir_model.specs.Plan.{Plan, label_in, node_in, table_port}
use Rattle.ir_prefix.specs.Forwarding.{IsMatch}
use Rattle.ir_prefix.specs.declared.line.TableLine.{TableLine}

-- the node to which a number is sent: that with the label, and for numbers beyond the labels that with the last one
abbrev pub end_of : Plan → ℕ → ℕ
end_of plan x = node_in plan (if nat_lt x (node_count plan.topology) then x else node_count plan.topology - 1)

-- What is sent to x goes on from u to v: u has another label, and a longest match of x in u's lines names the port to
-- v.
pub record IsSentOn (plan : Plan) (bits : ℕ) (lines : ℕ → List TableLine) (x u v : ℕ) : Type 0 where
  pub other : label_in plan u ≢ x
  pub line : TableLine
  pub match : IsMatch bits (lines u) x line
  pub port : ℕ
  pub by : line.port ≡ Some port
  pub to : option_map (λ (hop : Hop). hop.node) (port_at plan.topology u port) ≡ Some v

-- from u on it goes through these nodes
abbrev pub GoesThrough : Plan → ℕ → (ℕ → List TableLine) → ℕ → ℕ → List ℕ → Type 0
GoesThrough plan bits lines x u [] = Unit {0}
GoesThrough plan bits lines x u (v ∷ rest) = IsSentOn plan bits lines x u v × GoesThrough plan bits lines x v rest

-- after these nodes it goes on to no node
abbrev pub EndsAfter : Plan → ℕ → (ℕ → List TableLine) → ℕ → ℕ → List ℕ → Type 0
EndsAfter plan bits lines x u [] = (v : ℕ) → IsSentOn plan bits lines x u v → ⊥
EndsAfter plan bits lines x u (v ∷ rest) = EndsAfter plan bits lines x v rest

-- wherever it is sent from, the nodes that it goes through are the first ones of the walk that is prescribed to this
-- end
abbrev pub KeepsToWalk : Plan → ℕ → (ℕ → List TableLine) → ℕ → ℕ → Type 0
KeepsToWalk plan bits lines x d =
    (u : ℕ) (rest : List ℕ) → u < node_count plan.topology → GoesThrough plan bits lines x u rest
    → (more : List ℕ) × IsPrescribedWalk plan.topology (table_port plan) u d (u ∷ rest ++ more)

-- wherever it is sent from, it can go the prescribed walk, and where it ends it has gone all of it
pub record GoesAllTheWay (plan : Plan) (bits : ℕ) (lines : ℕ → List TableLine) (x d : ℕ) : Type 0 where
  pub goes : (u : ℕ) (rest : List ℕ) → u < node_count plan.topology → IsPrescribedWalk plan.topology (table_port plan) u d (u ∷ rest) → GoesThrough plan bits lines x u rest
  pub ends : (u : ℕ) (rest : List ℕ) → u < node_count plan.topology → GoesThrough plan bits lines x u rest → EndsAfter plan bits lines x u rest
      → IsPrescribedWalk plan.topology (table_port plan) u d (u ∷ rest)

-- with the first ones of each node's lines alone it keeps to the walk, for each number
abbrev pub FrontsKeepToWalks : Plan → ℕ → List (List TableLine) → Type 0
FrontsKeepToWalks plan bits tables =
    (counts : ℕ → ℕ) (x : ℕ) → x < 2 ^ bits → KeepsToWalk plan bits (λ u. take (counts u) (slice_index_or tables u [])) x (end_of plan x)

-- with any of each node's lines it keeps to the walk, for each label
abbrev pub PartsKeepToWalks : Plan → ℕ → List (List TableLine) → Type 0
PartsKeepToWalks plan bits tables =
    (lines : ℕ → List TableLine) (x : ℕ) → ((u : ℕ) → All (λ m. Contains (slice_index_or tables u []) m) (lines u)) → x < node_count plan.topology
    → KeepsToWalk plan bits lines x (end_of plan x)

-- with all lines it goes all the way, for each number below this one
abbrev pub GoAllTheWay : Plan → ℕ → List (List TableLine) → ℕ → Type 0
GoAllTheWay plan bits tables count = (x : ℕ) → x < count → GoesAllTheWay plan bits (λ u. slice_index_or tables u []) x (end_of plan x)

-- the same for each label
abbrev pub LabelsGoAllTheWay : Plan → ℕ → List (List TableLine) → Type 0
LabelsGoAllTheWay plan bits tables = GoAllTheWay plan bits tables (node_count plan.topology)

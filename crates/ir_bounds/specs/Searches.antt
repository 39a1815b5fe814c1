-- A search from a node that ends at reaches.
use Rattle.std.specs.Prelude.{◌≡◌, ◌⊎◌, ℕ, ◌+◌, ◌≤◌, ◌<◌, Some, List, length, All, Contains}
use Rattle.ir_model.specs.declared.Hop.{Hop}
use Rattle.ir_model.specs.Topology.{Topology, node_count, port_at}
use Rattle.ir_tables.specs.Relaxation.{at, AllReached}
use Rattle.ir_tables.specs.Keys.{KeyEntry, key_entry, IsEntry}

-- where the hop leads, the weight is no more than this and that of the hop, or the reach ends before
abbrev pub IsOffered : List ℕ → List ℕ → ℕ → Hop → Type 0
IsOffered reaches weights own hop = (at weights hop.node ≤ own + hop.weight) ⊎ (at reaches hop.node ≤ own + hop.weight)

-- no neighbour of x would have a lesser weight by way of x that is within its reach
abbrev pub IsSpent : Topology → List ℕ → List ℕ → ℕ → Type 0
IsSpent net reaches weights x = (p : ℕ) (hop : Hop) → port_at net x p ≡ Some hop → IsOffered reaches weights (at weights x) hop

-- weights of ways from u, and entries that wait, where each node but those left out is spent or waits
pub record IsSearching (net : Topology) (u : ℕ) (reaches : List ℕ) (out : ℕ → Type 0) (weights : List ℕ) (entries : List KeyEntry) : Type 0 where
  pub every : length weights ≡ node_count net
  pub small : (v : ℕ) → at weights v ≤ 4294967295
  pub source : at weights u ≡ 0
  pub reached : AllReached net u weights
  pub nodes : All (IsEntry net) entries
  pub pending : (v : ℕ) → v < node_count net → (out v → ⊥) → IsSpent net reaches weights v ⊎ Contains entries (key_entry (at weights v) v)

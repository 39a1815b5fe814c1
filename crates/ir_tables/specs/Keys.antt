-- Keys of the nodes: how far each is from a node, and by which of its ports.
use Rattle.std.specs.Prelude.{◌≡◌, ◌≢◌, ◌⊎◌, ℕ, ◌+◌, ◌*◌, ◌/◌, ◌%◌, ◌<◌, ◌≤◌, ◌++◌, Option, Some, None, List, length, slice_get, slice_index_or, All, Contains}
use Rattle.std.specs.BinaryHeap.{heap_items}
use Rattle.std.specs.declared.cmp.Reverse.{Reverse}
use Rattle.ir_model.specs.declared.Hop.{Hop}
use Rattle.ir_model.specs.Topology.{Topology, node_count, port_at}
use Rattle.ir_model.specs.Walk.{LeadsTo, weight_from}
use Rattle.ir_tables.specs.declared.keyed.Frontier.{Frontier}
use Rattle.ir_tables.specs.Relaxation.{at}

-- a key: a weight, and after it a port
abbrev pub key_of : ℕ → ℕ → ℕ
key_of weight port = weight * 65536 + port

-- the key that stands for no way found yet
abbrev pub no_key : ℕ
no_key = 281474976645120

-- what a step from x by its port p adds to a key: its weight, and from u itself the port too
pub record IsStepKey (u x p weight added : ℕ) : Type 0 where
  pub first : x ≡ u → added ≡ key_of weight p
  pub later : x ≢ u → added ≡ key_of weight 0

-- the key of a way from u to v, which the port p begins; given from v on
pub record IsKeyed (net : Topology) (u v key : ℕ) : Type 0 where
  pub p : ℕ
  pub hop : Hop
  pub way : List ℕ
  pub port_is : port_at net u p ≡ Some hop
  pub leads : LeadsTo net v hop.node way
  pub key_is : key ≡ key_of (weight_from net v way + hop.weight) p

-- no neighbour of x would have a lesser key by way of x
abbrev pub IsSpentKey : Topology → ℕ → List ℕ → ℕ → Type 0
IsSpentKey net u keys x =
    (p : ℕ) (hop : Hop) (added : ℕ) → port_at net x p ≡ Some hop → IsStepKey u x p hop.weight added → at keys hop.node ≤ at keys x + added

-- each key is that of a way from u, or stands for none found yet
pub record AreKeysOfWays (net : Topology) (u : ℕ) (keys : List ℕ) : Type 0 where
  pub every : length keys ≡ node_count net
  pub below : (v : ℕ) → at keys v ≤ no_key
  pub source : at keys u ≡ 0
  pub reached : (v : ℕ) → v < node_count net → v ≢ u → at keys v < no_key → IsKeyed net u v (at keys v)

-- the keys from u: each is that of a way, and no way has a lesser one
pub record AreKeys (net : Topology) (u : ℕ) (keys : List ℕ) : Type 0 where
  pub ways : AreKeysOfWays net u keys
  pub spent : (x : ℕ) → IsSpentKey net u keys x

-- an entry of the frontier: a node after the key that it had
abbrev pub KeyEntry : Type 0
KeyEntry = Reverse ℕ

abbrev pub key_entry : ℕ → ℕ → Reverse ℕ
key_entry key v = record { 0 = key_of key v }

-- an entry of a node
abbrev pub IsEntry : Topology → Reverse ℕ → Type 0
IsEntry net e = (key : ℕ) × (v : ℕ) × (v < node_count net) × (e.0 ≡ key_of key v)

-- the node of an entry has the key that it entered with
abbrev pub IsFresh : List ℕ → Reverse ℕ → Type 0
IsFresh keys e = slice_get keys (e.0 % 65536) ≡ Some (e.0 / 65536)

-- what waits is still entries of nodes, and what was fresh still waits
pub record KeepsFresh (keys : List ℕ) (before after : List (Reverse ℕ)) : Type 0 where
  pub nodes : (net : Topology) → All (IsEntry net) before → All (IsEntry net) after
  pub fresh : (e : Reverse ℕ) → IsFresh keys e → Contains before e → Contains after e

-- what waits in a frontier, near and far
abbrev pub keys_waiting : Frontier → List (Reverse ℕ)
keys_waiting f = heap_items f.near ++ f.far.items

-- how often what waits can still move: a far entry comes near, and a near one leaves
abbrev pub load : Frontier → ℕ
load f = length (heap_items f.near) + 2 * length f.far.items

-- no node is left out
abbrev pub NoNode : ℕ → Type 0
NoNode v = ⊥

-- v alone is left out
abbrev pub Only : ℕ → ℕ → Type 0
Only v x = x ≡ v

-- keys from u and a frontier, where each node but those left out is spent or waits
pub record IsKeying (net : Topology) (u : ℕ) (out : ℕ → Type 0) (keys : List ℕ) (entries : List (Reverse ℕ)) : Type 0 where
  pub ways : AreKeysOfWays net u keys
  pub nodes : All (IsEntry net) entries
  pub pending : (v : ℕ) → v < node_count net → (out v → ⊥) → IsSpentKey net u keys v ⊎ Contains entries (key_entry (at keys v) v)

-- weights, the first n of them those in the keys
pub record AreWeightsIn (keys weights : List ℕ) (n : ℕ) : Type 0 where
  pub every : length weights ≡ n
  pub each : (v : ℕ) → v < n → at weights v ≡ at keys v / 65536

-- ports, the first n of them those in the keys, and none for u
pub record ArePortsIn (u : ℕ) (keys : List ℕ) (ports : List (Option ℕ)) (n : ℕ) : Type 0 where
  pub every : length ports ≡ n
  pub own : u < n → slice_index_or ports u None ≡ None
  pub each : (v : ℕ) → v < n → v ≢ u → slice_index_or ports v None ≡ Some (at keys v % 65536)

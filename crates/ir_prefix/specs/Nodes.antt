-- A trie as a list of nodes, each after its halves, and a list of the names of all.
use Rattle.std.specs.Prelude.{◌≡◌, ℕ, ◌<◌, ◌≤◌, ◌⊎◌, List, ◌++◌, length, slice_index_or}
use Rattle.std.specs.List.{slice_range}
use Rattle.ir_prefix.specs.Described.{Trie, Free, Alike, Fork, IsNodeOfHalves}
use Rattle.ir_prefix.specs.declared.trie.TrieNode.{TrieNode}
use Rattle.ir_prefix.specs.declared.trie.TrieNode.TheVariants.{NoPort, OnePort, Several}
use Rattle.ir_prefix.specs.declared.trie.Places.{Places}
use Rattle.ir_prefix.specs.declared.trie.Nodes.{Nodes}

-- the node at a place
abbrev pub HoldsNode : List TrieNode → ℕ → TrieNode → Type 0
HoldsNode list place node = (place < length list) × (slice_index_or list place NoPort ≡ node)

-- the node of two halves that have no port or one together
abbrev pub IsMerged : TrieNode → TrieNode → TrieNode → Type 0
IsMerged l r NoPort = (l ≡ NoPort) × (r ≡ NoPort)
IsMerged l r (OnePort p) = ((l ≡ OnePort p) × ((r ≡ NoPort) ⊎ (r ≡ OnePort p))) ⊎ ((l ≡ NoPort) × (r ≡ OnePort p))
IsMerged l r (Several f) = ⊥

-- a trie is at a place: its node with its names, and its halves where this says
abbrev pub Stands : List TrieNode → List ℕ → ℕ → Trie → Type 0
Stands list names place Free = HoldsNode list place NoPort
Stands list names place (Alike p) = HoldsNode list place (OnePort p)
Stands list names place (Fork own l r) =
    (f : Places) × HoldsNode list place (Several f) × (f.first ≤ f.end) × (f.end ≤ length names) × (own ≡ slice_range names f.first f.end)
    × Stands list names f.left l × Stands list names f.right r

abbrev pub StandsIn : Nodes → ℕ → Trie → Type 0
StandsIn nodes place t = Stands nodes.list.items nodes.names.items place t

-- the later nodes and names begin with the earlier ones
pub record Grows (before after : Nodes) : Type 0 where
  pub nodes : (more : List TrieNode) × (after.list.items ≡ before.list.items ++ more)
  pub names : (more : List ℕ) × (after.names.items ≡ before.names.items ++ more)

-- the node of two halves is at a place
abbrev pub StandsOver : Trie → Trie → Nodes → ℕ → Type 0
StandsOver l r nodes place = (t : Trie) × IsNodeOfHalves l r t × StandsIn nodes place t

-- The network of nodes that are numbers, each with its neighbours in order and the weight to each.
use Rattle.std.specs.Prelude.{◌≡◌, ℕ, ◌+◌, ◌*◌, ◌<◌, ◌==◌, ◌||◌, ◌&&◌, Bool, not, Some, List, [], ◌∷◌, ◌++◌, length, map, filter, nat_lt, slice_get, All, Contains}
use Rattle.std.specs.List.{position_or_len}
use Rattle.std.specs.List.Sorted.{IsNonDecreasing}
use Rattle.ir_model.specs.declared.Link.{Link}
use Rattle.ir_model.specs.declared.Hop.{Hop}
use Rattle.ir_model.specs.Topology.{Topology}

-- neighbours by number, each with a weight
abbrev pub Numbers : Type 0
Numbers = List (ℕ × ℕ)

-- the links from u to later nodes
abbrev pub links_at : ℕ → Numbers → List Link
links_at u es = map {B = Link} (λ e. record { low = u; high = e.0; weight = e.1 }) (filter (λ e. nat_lt u e.0) es)

-- the links of these nodes, the first of which is u, to later nodes
abbrev pub links_from : ℕ → List Numbers → List Link
links_from u [] = []
links_from u (es ∷ rows) = links_at u es ++ links_from (u + 1) rows

-- whether the link joins u and v
abbrev pub joins_nodes : ℕ → ℕ → Link → Bool
joins_nodes u v link = link.low == u && link.high == v || link.low == v && link.high == u

-- the number of the first link that joins u and v
abbrev pub link_between : List Link → ℕ → ℕ → ℕ
link_between links u v = position_or_len (joins_nodes u v) links

-- the key of two ends
abbrev pub ends_key : ℕ → ℕ → ℕ
ends_key low high = low * 65536 + high

-- the key of the link with number l: its ends, and after them its number
abbrev pub link_key : Link → ℕ → ℕ
link_key link l = ends_key link.low link.high * 131072 + l

-- the key is that of a link
pub record IsLinkKey (links : List Link) (key : ℕ) : Type 0 where
  pub l : ℕ
  pub link : Link
  pub at : slice_get links l ≡ Some link
  pub is : key ≡ link_key link l

-- the keys of the first n of these links, and no others
pub record AreKeysOf (links : List Link) (n : ℕ) (keys : List ℕ) : Type 0 where
  pub each : (l : ℕ) (link : Link) → l < n → slice_get links l ≡ Some link → Contains keys (link_key link l)
  pub only : All (IsLinkKey links) keys

-- the keys of these links, in ascending order
pub record AreLinkKeys (links : List Link) (keys : List ℕ) : Type 0 where
  pub rising : IsNonDecreasing keys
  pub all : AreKeysOf links (length links) keys

-- each link has two ends, the smaller first, which are numbers of two bytes
abbrev pub AreOrdered : List Link → Type 0
AreOrdered links = (l : ℕ) (link : Link) → slice_get links l ≡ Some link → (link.low < link.high) × (link.high < 65536)

-- the port of u to a neighbour
abbrev pub entry_port : List Link → ℕ → ℕ × ℕ → Hop
entry_port links u e = record { node = e.0; link = link_between links u e.0; weight = e.1 }

-- the ports of u
abbrev pub ports_at : List Link → ℕ → Numbers → List Hop
ports_at links u es = map (entry_port links u) (filter (λ e. not (e.0 == u)) es)

-- the ports of these nodes, the first of which is u
abbrev pub ports_from : List Link → ℕ → List Numbers → List (List Hop)
ports_from links u [] = []
ports_from links u (es ∷ rows) = ports_at links u es ∷ ports_from links (u + 1) rows

abbrev pub topology_of_rows : List Numbers → Topology
topology_of_rows rows = record { links = links_from 0 rows; ports = ports_from (links_from 0 rows) 0 rows }

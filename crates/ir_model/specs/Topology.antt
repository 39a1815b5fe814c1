-- A network of nodes joined by weighted links.
use Rattle.std.specs.Prelude.{◌≡◌, ℕ, ◌<◌, ◌≤◌, ◌⊎◌, Option, Some, Bool, false, List, [], length, filter, map, slice_get, slice_index_or}
use Rattle.ir_model.specs.declared.TheConstants.{MAX_NODES, MAX_EDGES, MAX_WEIGHT}
use Rattle.ir_model.specs.declared.Link.{Link}
use Rattle.ir_model.specs.declared.Hop.{Hop}

-- A network: its links by number, and for each node its ports in order. The nodes are the places in `ports`.
pub record Topology : Type 0 where
  pub links : List Link
  pub ports : List (List Hop)

-- how many nodes there are
abbrev pub node_count : Topology → ℕ
node_count net = length net.ports

-- the ports of a node, in order
abbrev pub ports_of : Topology → ℕ → List Hop
ports_of net u = slice_index_or net.ports u []

-- where port p of u leads, if u has such a port
abbrev pub port_at : Topology → ℕ → ℕ → Option Hop
port_at net u p = slice_get (ports_of net u) p

-- a link between two different nodes, the smaller first, of a weight from 1 to 65,535
pub record IsLink (nodes : ℕ) (link : Link) : Type 0 where
  pub ordered : link.low < link.high
  pub in_range : link.high < nodes
  pub positive : 1 ≤ link.weight
  pub bounded : link.weight ≤ MAX_WEIGHT

-- the link joins u and v
abbrev pub Joins : Link → ℕ → ℕ → Type 0
Joins link u v = ((link.low ≡ u) × (link.high ≡ v)) ⊎ ((link.low ≡ v) × (link.high ≡ u))

-- a port of u: it goes by a numbered link, which joins u and the neighbour
abbrev pub IsPort : Topology → ℕ → Hop → Type 0
IsPort net u hop = (link : Link) × (slice_get net.links hop.link ≡ Some link) × Joins link u hop.node × (hop.weight ≡ link.weight)

-- the same port from the other end
abbrev pub port_back : ℕ → Hop → Hop
port_back u hop = record { node = u; link = hop.link; weight = hop.weight }

-- What is true of every network within the limits.
pub record IsTopology (net : Topology) : Type 0 where
  pub few_nodes : node_count net ≤ MAX_NODES
  pub few_links : length net.links ≤ MAX_EDGES
  -- each numbered link is a link between two nodes
  pub links : (l : ℕ) (link : Link) → slice_get net.links l ≡ Some link → IsLink (node_count net) link
  -- each port is by a numbered link with this weight, which joins the node and the one that the port leads to
  pub ports : (u p : ℕ) (hop : Hop) → port_at net u p ≡ Some hop → IsPort net u hop
  -- two ports of a node lead to two nodes
  pub single : (u p q : ℕ) (hop other : Hop) → port_at net u p ≡ Some hop → port_at net u q ≡ Some other → hop.node ≡ other.node → p ≡ q
  -- the neighbour has a port back, by the same link
  pub paired : (u p : ℕ) (hop : Hop) → port_at net u p ≡ Some hop → (q : ℕ) × (port_at net hop.node q ≡ Some (port_back u hop))

-- G|U: the nodes, the numbered links, and the ports over the links that are up, in the same order.
abbrev pub is_up : List Bool → Hop → Bool
is_up up hop = slice_index_or up hop.link false

abbrev pub restrict : List Bool → Topology → Topology
restrict up net = record { links = net.links; ports = map (filter (is_up up)) net.ports }

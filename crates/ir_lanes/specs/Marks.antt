-- Which ports lead nearer to which nodes of a list, for all ports: words of ports, sixteen nodes of the list at a time.
use Rattle.std.specs.Prelude.{◌≡◌, ◌≢◌, ◌↔◌, ◌⊎◌, ℕ, ◌+◌, ◌-◌, ◌*◌, ◌<◌, ◌≤◌, Bool, true, false, min, List, [], length, map, Contains, slice_index, slice_index_or}
use Rattle.std.specs.Global.{Vec}
use Rattle.ir_model.specs.Topology.{Topology, node_count}
use Rattle.ir_model.specs.Table.{LeadsNearer}
use Rattle.ir_lanes.specs.Inward.{ArePortWords, IsSet, ports_before}

-- the lists that vectors hold
abbrev pub word_lists : List (Vec ℕ) → List (List ℕ)
word_lists rows = map (λ row. row.items) rows

-- the node at a place of a list, and the last one past its end
abbrev pub node_from : List ℕ → ℕ → ℕ
node_from nodes i = slice_index nodes (min i (length nodes - 1))

-- sixteen nodes of a list, from a place on; where it ends before, the last one again
pub record AreSixteen (nodes : List ℕ) (first : ℕ) (sixteen : List ℕ) : Type 0 where
  pub long : length sixteen ≡ 16
  pub each : (k : ℕ) → k < 16 → slice_index sixteen k ≡ node_from nodes (first + k)

-- the words of all ports for a batch of sixteen nodes of a list
pub record AreBatchWords (net : Topology) (nodes : List ℕ) (batch : ℕ) (words : List ℕ) : Type 0 where
  pub ends : List ℕ
  pub sixteen : AreSixteen nodes (batch * 16) ends
  pub told : ArePortWords net ends words

-- the same, by batches
abbrev pub AreBatches : Topology → List ℕ → List (List ℕ) → Type 0
AreBatches net nodes batches = (b : ℕ) → b < length batches → AreBatchWords net nodes b (slice_index_or batches b [])

-- where the words of each node's ports begin, and the words, by batches
pub record PortMarks : Type 0 where
  pub begins : List ℕ
  pub batches : List (List ℕ)

-- the marks of all ports, for the nodes of a list; from each other node some port leads nearer to each
pub record ArePortMarks (net : Topology) (nodes : List ℕ) (marks : PortMarks) : Type 0 where
  pub every : length marks.begins ≡ node_count net
  pub begin : (u : ℕ) → u < node_count net → slice_index marks.begins u ≡ ports_before net u
  pub enough : length nodes ≤ length marks.batches * 16
  pub batch : AreBatches net nodes marks.batches
  pub nearer : (u d : ℕ) → u < node_count net → d < length nodes → u ≢ slice_index nodes d → (p : ℕ) × LeadsNearer net u (slice_index nodes d) p

-- the marks of the port p of u, by the places of a list of nodes: where it leads nearer
pub record AreMarksTo (net : Topology) (nodes : List ℕ) (u p : ℕ) (row : List Bool) : Type 0 where
  pub every : length row ≡ length nodes
  pub marks : (d : ℕ) → d < length nodes → (slice_index_or row d false ≡ true) ↔ LeadsNearer net u (slice_index nodes d) p

-- the list has places of the row, and each place with a mark
pub record AreMarked (row : List Bool) (marked : List ℕ) : Type 0 where
  pub place : (d : ℕ) → Contains marked d → d < length row
  pub each : (d : ℕ) → d < length row → slice_index_or row d false ≡ true → Contains marked d

-- the first i bits of a word are put in as marks, from a place on, and the places that they mark
pub record IsMarking (word first i : ℕ) (old : List Bool) (before : List ℕ) (row : List Bool) (marked : List ℕ) : Type 0 where
  pub every : length row ≡ length old
  pub others : (d : ℕ) → (first ≤ d → d < first + i → ⊥) → slice_index_or row d false ≡ slice_index_or old d false
  pub here : (k : ℕ) → k < i → first + k < length old → (slice_index_or row (first + k) false ≡ true) ↔ IsSet word k
  pub kept : (d : ℕ) → Contains before d → Contains marked d
  pub new : (d : ℕ) → Contains marked d → Contains before d ⊎ (d < length old)
  pub listed : (k : ℕ) → k < i → first + k < length old → IsSet word k → Contains marked (first + k)

-- all bits of a word are put in
abbrev pub PutsWord : ℕ → ℕ → List Bool → List ℕ → List Bool → List ℕ → Type 0
PutsWord word first old before row marked = IsMarking word first 16 old before row marked

-- for each place of a list a word whose bits are the ports of u that lead nearer to the node there; more words may follow these
pub record AreTied (net : Topology) (nodes : List ℕ) (u : ℕ) (tied : List ℕ) : Type 0 where
  pub enough : length nodes ≤ length tied
  pub bit : (d p : ℕ) → d < length nodes → IsSet (slice_index tied d) p ↔ LeadsNearer net u (slice_index nodes d) p

-- the words of the first m places
pub record AreTiedTo (net : Topology) (nodes : List ℕ) (u m : ℕ) (tied : List ℕ) : Type 0 where
  pub every : length tied ≡ m
  pub bit : (d p : ℕ) → d < m → d < length nodes → IsSet (slice_index tied d) p ↔ LeadsNearer net u (slice_index nodes d) p

-- in each lane the bits that it had before, and that of the port where the bit of the lane is set in the word
pub record WithPort (before : List ℕ) (word port : ℕ) (lanes : List ℕ) : Type 0 where
  pub long : length lanes ≡ 16
  pub bit : (k p : ℕ) → k < 16 → IsSet (slice_index lanes k) p ↔ (IsSet (slice_index before k) p ⊎ ((p ≡ port) × IsSet word k))

-- the bits in lane k are the ports, of the first i, in whose words the bit k is set; their words are from `begin` on
pub record ArePortLanes (words : List ℕ) (begin i : ℕ) (lanes : List ℕ) : Type 0 where
  pub long : length lanes ≡ 16
  pub bit : (k p : ℕ) → k < 16 → IsSet (slice_index lanes k) p ↔ ((p < i) × IsSet (slice_index words (begin + p)) k)

-- sixteen words of the first i ports follow the old ones
pub record ArePushedTied (words : List ℕ) (begin i : ℕ) (old tied : List ℕ) : Type 0 where
  pub longer : length tied ≡ length old + 16
  pub kept : (j : ℕ) → j < length old → slice_index tied j ≡ slice_index old j
  pub bit : (k p : ℕ) → k < 16 → IsSet (slice_index tied (length old + k)) p ↔ ((p < i) × IsSet (slice_index words (begin + p)) k)

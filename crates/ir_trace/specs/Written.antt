-- The trace of packets' records.
use Rattle.std.specs.Prelude.{◌≡◌, ℕ, ◌<◌, ◌≤◌, ◌⊎◌, List, [], ◌∷◌, length, map, reverse, sum_by, slice_get, slice_index_or, Some, if◌then◌else◌, ◌==◌}
use Rattle.ir_model.specs.declared.TheConstants.{MAX_NODES}
use Rattle.ir_model.specs.declared.Link.{Link}
use Rattle.ir_model.specs.Graph.{Name}
use Rattle.ir_model.specs.Topology.{Topology, node_count}
use Rattle.ir_model.specs.Walk.{IsWalk, walk_weight}
use Rattle.ir_core.specs.Record.{Record, segments}
use Rattle.ir_core.specs.Sound.{ArePlaces}
use Rattle.ir_core.specs.declared.packet.Fate.{Fate}
use Rattle.ir_core.specs.declared.packet.Fate.TheVariants as fate
use Rattle.ir_trace.specs.declared.TheConstants.{MAX_SEGMENTS}
use Rattle.ir_trace.specs.declared.row.Version.TheVariants.{One, Two}
use Rattle.ir_trace.specs.Row.{Segment}
use Rattle.ir_trace.specs.Rows.{FateText, Delivered, Retired, Down, Full, Left, PartText, RowText, trace_text}

abbrev pub name_at : List Name → ℕ → Name
name_at nodes u = slice_index_or nodes u []

-- the link with a number
abbrev pub link_at : Topology → ℕ → Link
link_at topology l = slice_index_or topology.links l (record { low = 0; high = 0; weight = 0 })

-- the end of a link that is not u
abbrev pub other_end : Link → ℕ → ℕ
other_end link u = if link.low == u then link.high else link.low

-- `down X Y` names the ends of the link, the smaller node number first; in `full X Y` the channel goes from X to Y
abbrev pub fate_text : List Name → Topology → Fate → FateText
fate_text nodes topology fate.Delivered = Delivered
fate_text nodes topology fate.Retired = Retired
fate_text nodes topology (fate.Down l) = Down (name_at nodes (link_at topology l).low) (name_at nodes (link_at topology l).high)
fate_text nodes topology (fate.Full l to) = Full (name_at nodes (other_end (link_at topology l) to)) (name_at nodes to)
fate_text nodes topology fate.Left = Left

-- the row of a record: its weight is that of its hops
abbrev pub row_of : List Name → Topology → Record → RowText
row_of nodes topology r = record {
  id = r.id;
  source = name_at nodes r.source;
  dest = name_at nodes r.dest;
  weight = walk_weight topology r.hops;
  fate = fate_text nodes topology r.fate;
  parts = record { epoch = r.epoch; hops = map (name_at nodes) r.hops } ∷ [];
}

-- a row for each record, in order
abbrev pub records_text : List Name → Topology → List Record → List ℕ
records_text nodes topology records = trace_text One (map (row_of nodes topology) records)

-- the link of a fate is a link of the network, and the node of a Full is an end of it
abbrev pub FateIsIn : Topology → Fate → Type 0
FateIsIn topology fate.Delivered = Unit {0}
FateIsIn topology fate.Retired = Unit {0}
FateIsIn topology (fate.Down l) = l < length topology.links
FateIsIn topology (fate.Full l to) = (link : Link) × (slice_get topology.links l ≡ Some link) × ((to ≡ link.low) ⊎ (to ≡ link.high))
FateIsIn topology fate.Left = Unit {0}

-- A record whose row can be written: its nodes and links are those of the network, and each hop is linked to the next.
pub record IsWritable (topology : Topology) (r : Record) : Type 0 where
  pub source : r.source < node_count topology
  pub dest : r.dest < node_count topology
  pub first : ℕ
  pub last : ℕ
  pub hops : IsWalk topology first last r.hops
  pub few : length r.hops ≤ MAX_NODES
  pub fate : FateIsIn topology r.fate

abbrev pub AreWritable : Topology → List Record → Type 0
AreWritable topology records = (i : ℕ) (r : Record) → slice_get records i ≡ Some r → IsWritable topology r

-- ---- the second version

-- the segments of a record, in order
abbrev pub parts_of : Record → List Segment
parts_of r = reverse (map (λ g. record { epoch = g.epoch; hops = g.hops }) (segments r))

-- a segment with names
abbrev pub named : List Name → Segment → PartText
named nodes part = record { epoch = part.epoch; hops = map (name_at nodes) part.hops }

-- the row of a record in the second version: its weight is the sum over its segments
abbrev pub segments_row : List Name → Topology → Record → RowText
segments_row nodes topology r = record {
  id = r.id;
  source = name_at nodes r.source;
  dest = name_at nodes r.dest;
  weight = sum_by (λ part. walk_weight topology part.hops) (parts_of r);
  fate = fate_text nodes topology r.fate;
  parts = map (named nodes) (parts_of r);
}

abbrev pub segments_text : List Name → Topology → List Record → List ℕ
segments_text nodes topology records = trace_text Two (map (segments_row nodes topology) records)

-- A record whose row of segments can be written: it has a few restamps, each at a place of its own in the hops.
pub record HasSegments (topology : Topology) (r : Record) : Type 0 where
  pub writable : IsWritable topology r
  pub few : length r.restamps < MAX_SEGMENTS
  pub places : ArePlaces (length r.hops) (reverse r.restamps)

abbrev pub HaveSegments : Topology → List Record → Type 0
HaveSegments topology records = (i : ℕ) (r : Record) → slice_get records i ≡ Some r → HasSegments topology r

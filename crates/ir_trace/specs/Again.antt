-- What a trace that was written is read as again.
use Rattle.std.specs.Prelude.{◌≡◌, ℕ, ◌≤◌, true, List, [], ◌∷◌, map, sum_by, nat_le, slice_get, Some, Result, MatchResult}
use Rattle.std.specs.List.{list_all}
use Rattle.ir_model.specs.Graph.{Adjacency, names}
use Rattle.ir_model.specs.Topology.{Topology}
use Rattle.ir_model.specs.OfGraph.{topology_of_graph}
use Rattle.ir_model.specs.Walk.{walk_weight}
use Rattle.ir_core.specs.Record.{Record}
use Rattle.ir_core.specs.declared.packet.Fate.{Fate}
use Rattle.ir_core.specs.declared.packet.Fate.TheVariants as fate
use Rattle.ir_trace.specs.declared.TheConstants.{MAX_NUMBER}
use Rattle.ir_trace.specs.declared.row.RowFate.{RowFate}
use Rattle.ir_trace.specs.declared.row.RowFate.TheVariants as read
use Rattle.ir_trace.specs.declared.finding.Finding.{Finding}
use Rattle.ir_trace.specs.declared.finding.FindingKind.TheVariants.{NoMemory}
use Rattle.ir_trace.specs.Row.{TraceRow}
use Rattle.ir_trace.specs.Written.{link_at, other_end, records_text, AreWritable, parts_of, segments_text, HaveSegments}

-- the fate of a record, with the ends of its link
abbrev pub fate_again : Topology → Fate → RowFate
fate_again topology fate.Delivered = read.Delivered
fate_again topology fate.Retired = read.Retired
fate_again topology (fate.Down l) = read.Down (link_at topology l).low (link_at topology l).high
fate_again topology (fate.Full l to) = read.Full (other_end (link_at topology l) to) to
fate_again topology fate.Left = read.Left

-- the row of a record, as it is read: its weight is that of its hops
abbrev pub row_again : Topology → Record → TraceRow
row_again topology r = record {
  id = r.id;
  source = r.source;
  dest = r.dest;
  weight = walk_weight topology r.hops;
  fate = fate_again topology r.fate;
  parts = record { epoch = r.epoch; hops = r.hops } ∷ [];
}

-- a row can hold the numbers of each record
abbrev pub AreHeldByRows : List Record → Type 0
AreHeldByRows records = (i : ℕ) (r : Record) → slice_get records i ≡ Some r → (r.id ≤ MAX_NUMBER) × (r.epoch ≤ MAX_NUMBER)

-- The text is the trace of these records over the graph, whose rows can be written.
pub record IsTraceOf (g : Adjacency) (text : List ℕ) (records : List Record) : Type 0 where
  pub writable : AreWritable (topology_of_graph g) records
  pub numbered : AreHeldByRows records
  pub whole : text ≡ records_text (names g) (topology_of_graph g) records

-- ---- the second version

-- the row of a record, as it is read: its parts are the segments
abbrev pub segments_again : Topology → Record → TraceRow
segments_again topology r = record {
  id = r.id;
  source = r.source;
  dest = r.dest;
  weight = sum_by (λ part. walk_weight topology part.hops) (parts_of r);
  fate = fate_again topology r.fate;
  parts = parts_of r;
}

-- a row can hold the numbers of each record and of its segments
abbrev pub AreSegmentsNumbered : List Record → Type 0
AreSegmentsNumbered records = (i : ℕ) (r : Record) → slice_get records i ≡ Some r → (r.id ≤ MAX_NUMBER) × (list_all (λ part. nat_le part.epoch MAX_NUMBER) (parts_of r) ≡ true)

-- The text is the trace of these records over the graph in the second version.
pub record AreSegmentsOf (g : Adjacency) (text : List ℕ) (records : List Record) : Type 0 where
  pub writable : HaveSegments (topology_of_graph g) records
  pub numbered : AreSegmentsNumbered records
  pub whole : text ≡ segments_text (names g) (topology_of_graph g) records

-- ---- what is written is read again

-- The text of any records is read as their rows; no fault is reported but want of memory.
abbrev pub IsReadAsRows : (List Record → Type 0) → (Record → TraceRow) → Result (List TraceRow) Finding → Type 0
IsReadAsRows is_text row result = (records : List Record) → is_text records → MatchResult result (λ trace. trace ≡ map row records) (λ e. e.kind ≡ NoMemory)

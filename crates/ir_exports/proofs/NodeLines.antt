-- The table of a node's row, by what its lines lead to.
use Rattle.std.proofs.Common.{◌≡◌, ◌<◌, ℕ, List, length, Option, Result, Ok, Err, sym, subst, arith}
use Rattle.std.specs.Prelude.{IfOk, slice_index}
use Rattle.ir_model.specs.Interval.{PortInterval}
use Rattle.ir_model.specs.Row.{Start, HasPort, intervals_of, labels, next_label}
use Rattle.ir_model.specs.Compiled.{Fits}
use Rattle.ir_model.specs.Topology.{node_count}
use Rattle.ir_model.specs.Plan.{Plan, label_in, row_in, by_label}
use Rattle.ir_model.proofs.Rows.{interval_at, interval_is, length-intervals_of}
use Rattle.ir_lines.specs.declared.Owner.{Owner}
use Rattle.ir_lines.specs.Looks.{IsLed, LinesLeadTo}
use Rattle.ir_lines.specs.Tables.{IsTable}
use Rattle.ir_exports.specs.LinesText.{IsNodeTable}
use Rattle.ir_exports.proofs.RowStarts.{fitting_port}

-- the starts of a row that fits are labels
pub starts_below : (n own : ℕ) (ports : List (Option ℕ)) (row : List Start) → Fits n own ports (intervals_of row) → (k : ℕ) → k < length row → slice_index (labels row) k < n
starts_below n own ports row fits k inside =
    let m = interval_at (next_label row 0) row k in
    let len = length-intervals_of row in
    let within = fits.within k m (omega arith) in
    subst (λ (i : PortInterval). i.start < n) (interval_is row k m inside) within.0

module _ (s : Plan) (u epoch : ℕ) (row : List Start) (of : row ≡ row_in s u)
    (fits : Fits (node_count s.topology) (label_in s u) (by_label s u) (intervals_of row)) where
  abbrev owned : ℕ → ℕ → Owner
  owned n own = record { epoch = epoch; labels = n; own = own }

  -- what is promised of lines is what is wanted of the node's
  pub node_table_is : {V E : Type 0} (items : V → List ℕ) (made : Result V E) (n own : ℕ) → n ≡ node_count s.topology → own ≡ label_in s u
      → IfOk made (λ words. IsTable (owned n own) row (items words))
      → (0 < length row → IfOk made (λ words. (label : ℕ) → label < n → IsLed (items words) label))
      → IfOk made (λ words. (label port : ℕ) → label < n → LinesLeadTo (items words) label port → HasPort n row label port)
      → IfOk made (λ words. IsNodeTable s u epoch (items words))
  node_table_is items (Ok words) n own count is_own table led ports = record {
    table = subst (λ (m : ℕ). IsTable (owned m (label_in s u)) (row_in s u) (items words)) count
        (subst (λ (l : ℕ). IsTable (owned n l) (row_in s u) (items words)) is_own
        (subst (λ (starts : List Start). IsTable (owned n own) starts (items words)) of table));
    led = λ some label inside.
        led (subst (λ (starts : List Start). 0 < length starts) (sym of) some) label (subst (λ (m : ℕ). label < m) (sym count) inside);
    ports = λ label port inside other leads.
        fitting_port (node_count s.topology) (label_in s u) (by_label s u) row fits label port inside other
        (subst (λ (m : ℕ). HasPort m row label port) count (ports label port (subst (λ (m : ℕ). label < m) (sym count) inside) leads));
  }
  node_table_is items (Err error) n own count is_own table led ports = tt

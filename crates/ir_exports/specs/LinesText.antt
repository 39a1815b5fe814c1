-- The lines of a node's row, by which a kernel's packet path looks labels up, their text, and their bytes.
use Rattle.std.specs.Prelude.{◌≡◌, ◌≢◌, ℕ, ◌<◌, List, Some, length}
use Rattle.ir_model.specs.Compiled.{port_to}
use Rattle.ir_model.specs.Plan.{Plan, label_in, row_in, by_label}
use Rattle.ir_model.specs.Topology.{node_count}
use Rattle.ir_lines.specs.declared.Owner.{Owner}
use Rattle.ir_lines.specs.Looks.{IsLed, LinesLeadTo}
use Rattle.ir_lines.specs.Tables.{IsTable}
use Rattle.ir_lines.specs.Texts.{table_bytes, table_text}

-- whose table it is: that of the node u, for an epoch
abbrev pub owner_of : Plan → ℕ → ℕ → Owner
owner_of plan u epoch = record { epoch = epoch; labels = node_count plan.topology; own = label_in plan u }

-- The words are the table of the node's row for an epoch. Each label can be looked up, and each but the own one is led to
-- the port of the full table.
pub record IsNodeTable (plan : Plan) (u epoch : ℕ) (words : List ℕ) : Type 0 where
  pub table : IsTable (owner_of plan u epoch) (row_in plan u) words
  pub led : 0 < length (row_in plan u) → (label : ℕ) → label < node_count plan.topology → IsLed words label
  pub ports : (label port : ℕ) → label < node_count plan.topology → label ≢ label_in plan u → LinesLeadTo words label port
      → port_to (by_label plan u) label ≡ Some port

-- the text is that of the words of such a table
pub record IsLinesText (plan : Plan) (u epoch : ℕ) (text : List ℕ) : Type 0 where
  pub words : List ℕ
  pub table : IsNodeTable plan u epoch words
  pub whole : text ≡ table_text words

-- the bytes are those of the words of such a table
pub record AreLinesBytes (plan : Plan) (u epoch : ℕ) (bytes : List ℕ) : Type 0 where
  pub words : List ℕ
  pub table : IsNodeTable plan u epoch words
  pub whole : bytes ≡ table_bytes words

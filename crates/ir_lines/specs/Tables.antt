-- Which table stands for a row.
use Rattle.std.specs.Prelude.{◌≡◌, ℕ, ◌+◌, ◌*◌, ◌<◌, ◌≤◌, ◌⊎◌, List, ◌++◌, length, replicate, slice_index}
use Rattle.ir_lines.specs.declared.Owner.{Owner}
use Rattle.ir_lines.specs.Words.{from_zero, groups, table_head, no_word, tree, tree_lines, row_word}
use Rattle.ir_lines.specs.Looks.{byte_in}
use Rattle.ir_model.specs.Row.{Start, HasPort, start_ports}

-- the bytes of a list of words are the ports of n labels by a row, and 255 from there on
pub record HoldPorts (n : ℕ) (row : List Start) (words : List ℕ) : Type 0 where
  pub ports : (label : ℕ) → label < n → HasPort n row label (byte_in words label)
  pub over : (label : ℕ) → n ≤ label → label < 4 * length words → byte_in words label ≡ 255

-- a table of bytes: the head, a root without words, and lines of 128 bytes each
pub record IsByteTable (owner : Owner) (row : List Start) (words : List ℕ) : Type 0 where
  pub bytes : List ℕ
  pub every : length bytes ≡ 32 * groups owner.labels 128
  pub hold : HoldPorts owner.labels row bytes
  pub all : words ≡ table_head owner 255 0 ++ replicate 16 no_word ++ bytes

-- the greatest port of a row, or 0
pub record IsGreatest (row : List Start) (port : ℕ) : Type 0 where
  pub every : (k : ℕ) → k < length row → slice_index (start_ports row) k ≤ port
  pub some : 0 < port → (k : ℕ) × (k < length row) × (slice_index (start_ports row) k ≡ port)

-- a table of bytes has fewer lines than the tree, and its ports are bytes
pub record TakesBytes (n : ℕ) (row : List Start) : Type 0 where
  pub some : 0 < length row
  pub fewer : 1 + groups n 128 < tree_lines (length (from_zero row))
  pub ports : (k : ℕ) → k < length row → slice_index (start_ports row) k < 256

-- the table of a row: the one of bytes where it takes fewer lines, and else the tree
abbrev pub IsTable : Owner → List Start → List ℕ → Type 0
IsTable owner row words =
    (TakesBytes owner.labels row × IsByteTable owner row words)
    ⊎ ((TakesBytes owner.labels row → ⊥) × (words ≡ tree owner (row_word row) (length (from_zero row))))

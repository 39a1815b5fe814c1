-- What the loops over the labels and over the nodes know on the way.
use Rattle.std.specs.Prelude.{◌≡◌, ℕ, ◌<◌, ◌≤◌, Bool, List, [], ◌++◌, length, sum_by, slice_index, slice_index_or}
use Rattle.ir_model.specs.Graph.{Name}
use Rattle.ir_model.specs.Topology.{node_count}
use Rattle.ir_model.specs.Row.{Start, labels}
use Rattle.ir_model.specs.Plan.{Plan}
use Rattle.ir_prefix.specs.Longest.{IsWidth}
use Rattle.ir_prefix.specs.declared.line.TableLine.{TableLine}
use Rattle.ir_exports.specs.Tables.{AreLinesOf}
use Rattle.ir_exports.specs.PrefixesText.{IsPrefixesOf, nodes_text}

-- so many starts of a row are below a label, and the others are not
pub record AreBelow (row : List Start) (label count : ℕ) : Type 0 where
  pub within : count ≤ length row
  pub below : (k : ℕ) → k < count → slice_index (labels row) k < label
  pub others : (k : ℕ) → count ≤ k → k < length row → label ≤ slice_index (labels row) k

-- After a text come the lines of the first so many nodes, this many in all.
pub record AreWritten (is_disjoint : Bool) (nodes : List Name) (plan : Plan) (count lines : ℕ) (before after : List ℕ) : Type 0 where
  pub tables : List (List TableLine)
  pub every : length tables ≡ count
  pub each : (u : ℕ) → u < count → (bits : ℕ) → IsWidth (node_count plan.topology) bits → AreLinesOf is_disjoint plan bits u (slice_index_or tables u [])
  pub sum : sum_by length tables ≡ lines
  pub whole : after ≡ before ++ nodes_text nodes plan 0 tables

-- where the lines of all nodes are written so, the text is that of the tables
abbrev pub IsTextOfLines : Plan → ℕ → List ℕ → List ℕ → Type 0
IsTextOfLines plan lines tables text =
    (is_disjoint : Bool) (nodes : List Name) → AreWritten is_disjoint nodes plan (node_count plan.topology) lines [] tables → IsPrefixesOf is_disjoint nodes plan text

-- The texts of single nodes, that a crew makes.
use Rattle.std.specs.Prelude.{◌≡◌, ℕ, Bool, List, length, string_bytes}
use Rattle.std.specs.List.{AllZip, range_with_len}
use Rattle.ir_model.specs.Graph.{Name}
use Rattle.ir_model.specs.Topology.{node_count}
use Rattle.ir_model.specs.Plan.{Plan}
use Rattle.ir_prefix.specs.Longest.{IsWidth}
use Rattle.ir_prefix.specs.declared.line.TableLine.{TableLine}
use Rattle.ir_show.specs.Words.{line_text}
use Rattle.ir_plan.specs.declared.crew.NodeText.{NodeText}
use Rattle.ir_exports.specs.PrefixesText.{prefix_node_words}
use Rattle.ir_exports.specs.Tables.{AreLinesOf}

abbrev pub bytes_of : NodeText → List ℕ
bytes_of made = string_bytes made.text

abbrev pub lines_of : NodeText → ℕ
lines_of made = made.lines

-- It is the line of text of the node u, whose table has so many lines.
pub record IsNodeText (is_disjoint : Bool) (nodes : List Name) (plan : Plan) (u : ℕ) (made : NodeText) : Type 0 where
  pub table : List TableLine
  pub are : (bits : ℕ) → IsWidth (node_count plan.topology) bits → AreLinesOf is_disjoint plan bits u table
  pub count : length table ≡ made.lines
  pub whole : string_bytes made.text ≡ line_text (prefix_node_words nodes plan u table)

-- They are the lines of text of the first so many nodes.
abbrev pub AreNodeTexts : Bool → List Name → Plan → ℕ → List NodeText → Type 0
AreNodeTexts is_disjoint nodes plan count made = AllZip (IsNodeText is_disjoint nodes plan) (range_with_len 0 count) made

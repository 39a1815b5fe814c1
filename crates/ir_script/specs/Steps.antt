-- What the reader does, line by line.
use Rattle.std.specs.Prelude.{ℕ, not, Bool, true, false, if◌then◌else◌, List, [], ◌∷◌, set, position, bytes_eq, Option, Some, None, Result, Ok, Err}
use Rattle.std.specs.List.{list_all, slice_index_or}
use Rattle.ir_model.specs.Graph.{Name}
use Rattle.ir_model.specs.Text.{content, words, is_plain}
use Rattle.ir_script.specs.declared.order_fault.OrderFaultKind.{OrderFaultKind}
use Rattle.ir_script.specs.declared.order_fault.OrderFaultKind.TheVariants.{BadByte, BadRow, UnknownNode}

-- the node at a place, where it was found
abbrev pub listed_node : Option ℕ → Result (Option ℕ) OrderFaultKind
listed_node None = Err UnknownNode
listed_node (Some u) = Ok (Some u)

-- the node that words name; none where there is no word
abbrev pub words_node : List Name → List Name → Result (Option ℕ) OrderFaultKind
words_node nodes [] = Ok None
words_node nodes (name ∷ []) = listed_node (position (bytes_eq name) nodes)
words_node nodes (name ∷ other ∷ more) = Err BadRow

-- the node that a line names
abbrev pub line_node : List Name → List ℕ → Result (Option ℕ) OrderFaultKind
line_node nodes line = if not (list_all is_plain (content line)) then Err BadByte else words_node nodes (words line)

-- whether a node has its place
abbrev pub has_place : List Bool → Option ℕ → Bool
has_place placed None = false
has_place placed (Some u) = slice_index_or placed u false

-- the same with the node's place
abbrev pub with_place : List Bool → Option ℕ → List Bool
with_place placed None = placed
with_place placed (Some u) = set placed u true

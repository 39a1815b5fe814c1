-- What a text says of the order of nodes: a name on each line, or its first fault.
use Rattle.std.specs.Prelude.{◌≡◌, ℕ, ◌+◌, not, if◌then◌else◌, List, [], ◌∷◌, ◌++◌, map, length, nat_lt, position, bytes_eq, Option, Some, None}
use Rattle.std.specs.List.{list_all}
use Rattle.ir_model.specs.Graph.{Name, among}
use Rattle.ir_model.specs.Text.{content, words, names_in, is_plain}
use Rattle.ir_script.specs.declared.order_fault.OrderFault.{OrderFault}
use Rattle.ir_script.specs.declared.order_fault.OrderFaultKind.{OrderFaultKind}
use Rattle.ir_script.specs.declared.order_fault.OrderFaultKind.TheVariants.{BadByte, BadRow, UnknownNode, Twice, Missing, NoMemory}

-- the fault of the words of a line, after lines that name these
abbrev pub words_fault : List Name → List Name → List Name → Option OrderFaultKind
words_fault nodes named [] = None
words_fault nodes named (name ∷ []) =
    if not (among nodes name) then Some UnknownNode else if among named name then Some Twice else None
words_fault nodes named (name ∷ other ∷ more) = Some BadRow

-- the fault of a line, after lines that name these
abbrev pub order_line_fault : List Name → List Name → List ℕ → Option OrderFaultKind
order_line_fault nodes named line = if not (list_all is_plain (content line)) then Some BadByte else words_fault nodes named (words line)

-- the fault of a text with no faulty line: fewer names than nodes
abbrev pub end_fault : List Name → List (List ℕ) → Option (ℕ × OrderFaultKind)
end_fault nodes ls = if nat_lt (length (names_in ls)) (length nodes) then Some (length ls, Missing) else None

abbrev pub or_later_order : ℕ → Option OrderFaultKind → Option (ℕ × OrderFaultKind) → Option (ℕ × OrderFaultKind)
or_later_order n (Some kind) later = Some (n, kind)
or_later_order n None later = later

-- the first faulty line, counted from 1, and its fault; or else that of the text, with its last line
abbrev pub first_order_fault : List Name → List (List ℕ) → List (List ℕ) → Option (ℕ × OrderFaultKind)
first_order_fault nodes before [] = end_fault nodes before
first_order_fault nodes before (l ∷ ls) =
    or_later_order (length before + 1) (order_line_fault nodes (names_in before) l) (first_order_fault nodes (before ++ l ∷ []) ls)

-- the first fault of the lines of a text
abbrev pub order_fault : List Name → List (List ℕ) → Option (ℕ × OrderFaultKind)
order_fault nodes ls = first_order_fault nodes [] ls

-- The text has no fault, and names these nodes in order, each by its place among the nodes.
pub record IsOrder (nodes : List Name) (ls : List (List ℕ)) (order : List ℕ) : Type 0 where
  pub no_fault : order_fault nodes ls ≡ None
  pub named : map (λ name. position (bytes_eq name) nodes) (names_in ls) ≡ map (λ u. Some u) order

abbrev pub OrderToldAt : ℕ → OrderFaultKind → Option (ℕ × OrderFaultKind) → Type 0
OrderToldAt line NoMemory first = line ≡ 0
OrderToldAt line kind first = first ≡ Some (line, kind)

-- The fault is the first of the text, with its line. Want of memory has line 0.
abbrev pub OrderTold : OrderFault → Option (ℕ × OrderFaultKind) → Type 0
OrderTold fault first = OrderToldAt fault.line fault.kind first

-- the fault of a line
abbrev pub told_order : ℕ → OrderFaultKind → OrderFault
told_order line NoMemory = record { line = 0; kind = NoMemory }
told_order line kind = record { line = line; kind = kind }

-- the number of a kind of fault
abbrev pub order_fault_code : OrderFaultKind → ℕ
order_fault_code BadByte = 1
order_fault_code BadRow = 2
order_fault_code UnknownNode = 3
order_fault_code Twice = 4
order_fault_code Missing = 5
order_fault_code NoMemory = 6

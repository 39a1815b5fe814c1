-- A weighted edge list: each line names an edge by its two ends and its weight.
use Rattle.std.specs.Prelude.{ℕ, ◌+◌, ◌*◌, ◌-◌, Bool, true, not, ◌&&◌, if◌then◌else◌, List, [], ◌∷◌, ◌++◌, flat_map, fold, length, take_while, drop, Option, Some, None, ◌==◌, nat_le}
use Rattle.std.specs.List.{list_all, prefix_len}
use Rattle.ir_model.specs.declared.TheConstants.{MAX_NAME_BYTES}
use Rattle.ir_model.specs.Graph.{Name, Adjacency, is_weight}
use Rattle.ir_model.specs.Made.{Pair, graph_of}
use Rattle.ir_model.specs.Text.{content, words, is_plain, is_empty, nodes_pass, edges_pass, or_later}
use Rattle.ir_model.specs.declared.Fault.{Fault}
use Rattle.ir_model.specs.declared.Fault.TheVariants.{BadByte, BadName, BadRow, BadWeight, TooManyNodes, TooManyEdges}

-- ---- a weight: decimal digits, after which a point and zeros may come

abbrev pub is_digit : ℕ → Bool
is_digit b = nat_le 48 b && nat_le b 57

-- the value of decimal digits
abbrev pub value_of : List ℕ → ℕ
value_of digits = fold (λ v d. v * 10 + (d - 48)) 0 digits

-- nothing, or a point and one or more zeros
abbrev pub is_zero_fraction : List ℕ → Bool
is_zero_fraction [] = true
is_zero_fraction (point ∷ zeros) = point == 46 && not (is_empty zeros) && list_all (λ b. b == 48) zeros

-- what is before the first point, and the point with what follows it
abbrev pub whole : Name → List ℕ
whole word = take_while (λ b. not (b == 46)) word

abbrev pub fraction : Name → List ℕ
fraction word = drop (prefix_len (λ b. not (b == 46)) word) word

abbrev pub is_decimal : Name → Bool
is_decimal word = not (is_empty (whole word)) && list_all is_digit (whole word) && is_zero_fraction (fraction word)

-- the weight that a word spells, where it spells one
abbrev pub spelled_weight : Name → Option ℕ
spelled_weight word = if is_decimal word && is_weight (value_of (whole word)) then Some (value_of (whole word)) else None

-- ---- the edges of a text

-- the edge of two ends, where there is a weight
abbrev pub weighted : Name → Name → Option ℕ → List Pair
weighted u v (Some w) = (u, v, w) ∷ []
weighted u v None = []

-- the edge that the words of a line name
abbrev pub row_edges : List Name → List Pair
row_edges (u ∷ v ∷ word ∷ []) = weighted u v (spelled_weight word)
row_edges words = []

abbrev pub edges_in : List (List ℕ) → List Pair
edges_in ls = flat_map (λ l. row_edges (words l)) ls

-- the ends of edges, in order
abbrev pub ends_of : List Pair → List Name
ends_of pairs = flat_map (λ p. p.0 ∷ p.1 ∷ []) pairs

-- the graph of edges: nodes and neighbours by first appearance, each edge with its last weight
abbrev pub graph_of_edges : List Pair → Adjacency
graph_of_edges pairs = graph_of (ends_of pairs) pairs

-- ---- faults

-- the limit that the edges pass
abbrev pub limit_fault : List Pair → Option Fault
limit_fault pairs = if nodes_pass (ends_of pairs) then Some TooManyNodes else if edges_pass (ends_of pairs) pairs then Some TooManyEdges else None

abbrev pub weight_fault : List Pair → Name → Name → Option ℕ → Option Fault
weight_fault pairs u v None = Some BadWeight
weight_fault pairs u v (Some w) = limit_fault (pairs ++ (u, v, w) ∷ [])

-- the fault of what follows two ends
abbrev pub ending_fault : List Pair → Name → Name → List Name → Option Fault
ending_fault pairs u v (word ∷ []) = weight_fault pairs u v (spelled_weight word)
ending_fault pairs u v words = Some BadRow

-- a row of fewer than two words names nothing
abbrev pub edge_row_fault : List Pair → List Name → Option Fault
edge_row_fault pairs (u ∷ v ∷ words) =
    if not (nat_le (length u) MAX_NAME_BYTES && nat_le (length v) MAX_NAME_BYTES) then Some BadName else ending_fault pairs u v words
edge_row_fault pairs words = None

-- the fault of a line, after the lines before it
abbrev pub edge_line_fault : List (List ℕ) → List ℕ → Option Fault
edge_line_fault before line = if not (list_all is_plain (content line)) then Some BadByte else edge_row_fault (edges_in before) (words line)

-- the first line with a fault, counted from 1, and its fault
abbrev pub first_fault_by : (List (List ℕ) → List ℕ → Option Fault) → List (List ℕ) → List (List ℕ) → Option (ℕ × Fault)
first_fault_by fault before [] = None
first_fault_by fault before (l ∷ ls) = or_later (length before + 1) (fault before l) (first_fault_by fault (before ++ l ∷ []) ls)

-- the first faulty line of an edge list
abbrev pub first_edge_fault : List (List ℕ) → Option (ℕ × Fault)
first_edge_fault ls = first_fault_by edge_line_fault [] ls

-- The texts of a topology.
use Rattle.std.specs.Prelude.{ℕ, ◌+◌, Bool, true, false, not, ◌||◌, ◌&&◌, if◌then◌else◌, List, [], ◌∷◌, ◌++◌, map, filter, flat_map, length, take_while, Option, Some, None, ◌==◌, nat_lt, nat_le}
use Rattle.std.specs.List.{list_all}
use Rattle.ir_model.specs.declared.TheConstants.{MAX_NODES, MAX_EDGES, MAX_NAME_BYTES}
use Rattle.ir_model.specs.Graph.{Name, edges}
use Rattle.ir_model.specs.Made.{Pair, distinct, graph_of}
use Rattle.ir_model.specs.declared.Fault.{Fault}
use Rattle.ir_model.specs.declared.Fault.TheVariants.{BadByte, BadName, TooManyNodes, TooManyEdges}

-- the byte at the front of the first piece
abbrev pub onto_first : ℕ → List (List ℕ) → List (List ℕ)
onto_first b [] = (b ∷ []) ∷ []
onto_first b (p ∷ ps) = (b ∷ p) ∷ ps

-- the pieces between the bytes that pass: one more than there are such bytes
abbrev pub pieces : (ℕ → Bool) → List ℕ → List (List ℕ)
pieces test [] = [] ∷ []
pieces test (b ∷ bs) = if test b then [] ∷ pieces test bs else onto_first b (pieces test bs)

-- the lines: each ends with a line feed or with the text
abbrev pub lines : List ℕ → List (List ℕ)
lines [] = []
lines (b ∷ bs) = if b == 10 then [] ∷ lines bs else onto_first b (lines bs)

abbrev pub is_blank : ℕ → Bool
is_blank b = b == 32 || nat_le 9 b && nat_le b 13 && not (b == 10)

-- what is before the first `#`
abbrev pub content : List ℕ → List ℕ
content line = take_while (λ b. not (b == 35)) line

abbrev pub is_empty : List ℕ → Bool
is_empty [] = true
is_empty (b ∷ bs) = false

-- the words of what is no comment
abbrev pub words_of : List ℕ → List Name
words_of bytes = filter (λ w. not (is_empty w)) (pieces is_blank bytes)

-- the words of a line
abbrev pub words : List ℕ → List Name
words line = words_of (content line)

abbrev pub is_plain : ℕ → Bool
is_plain b = is_blank b || nat_le 33 b && nat_le b 126

-- ---- an adjacency list

-- the source with each target
abbrev pub row_pairs : List Name → List Pair
row_pairs [] = []
row_pairs (source ∷ targets) = map (λ target. (source, target, 1)) targets

abbrev pub names_in : List (List ℕ) → List Name
names_in ls = flat_map words ls

abbrev pub pairs_in : List (List ℕ) → List Pair
pairs_in ls = flat_map (λ l. row_pairs (words l)) ls

-- the limit that is passed where the last name or pair is added
abbrev pub nodes_pass : List Name → Bool
nodes_pass names = nat_lt MAX_NODES (length (distinct names))

abbrev pub edges_pass : List Name → List Pair → Bool
edges_pass names pairs = nat_lt MAX_EDGES (length (edges (graph_of names pairs)))

-- the first limit that the targets pass, after these names and pairs
abbrev pub targets_fault : List Name → List Pair → Name → List Name → Option Fault
targets_fault names pairs source [] = None
targets_fault names pairs source (target ∷ targets) =
    if nodes_pass (names ++ target ∷ []) then Some TooManyNodes
    else if edges_pass (names ++ target ∷ []) (pairs ++ (source, target, 1) ∷ []) then Some TooManyEdges
    else targets_fault (names ++ target ∷ []) (pairs ++ (source, target, 1) ∷ []) source targets

abbrev pub row_fault : List Name → List Pair → List Name → Option Fault
row_fault names pairs [] = None
row_fault names pairs (source ∷ targets) =
    if nodes_pass (names ++ source ∷ []) then Some TooManyNodes else targets_fault (names ++ source ∷ []) pairs source targets

-- the fault of a line, after the lines before it
abbrev pub line_fault : List (List ℕ) → List ℕ → Option Fault
line_fault before line =
    if not (list_all is_plain (content line)) then Some BadByte
    else if not (list_all (λ w. nat_le (length w) MAX_NAME_BYTES) (words line)) then Some BadName
    else row_fault (names_in before) (pairs_in before) (words line)

abbrev pub or_later : ℕ → Option Fault → Option (ℕ × Fault) → Option (ℕ × Fault)
or_later n (Some f) later = Some (n, f)
or_later n None later = later

-- the first faulty line, counted from 1, and its fault
abbrev pub first_fault : List (List ℕ) → List (List ℕ) → Option (ℕ × Fault)
first_fault before [] = None
first_fault before (l ∷ ls) = or_later (length before + 1) (line_fault before l) (first_fault (before ++ l ∷ []) ls)

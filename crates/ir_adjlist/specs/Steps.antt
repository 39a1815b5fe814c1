-- What the reader does to a graph, line by line.
use Rattle.std.specs.Prelude.{◌≡◌, ℕ, ◌+◌, not, if◌then◌else◌, List, [], ◌∷◌, length, nat_lt, nat_le, Option, Some, None, Result, Ok, Err, ◌&&◌}
use Rattle.std.specs.List.{list_all}
use Rattle.ir_model.specs.declared.TheConstants.{MAX_NODES, MAX_EDGES, MAX_NAME_BYTES}
use Rattle.ir_model.specs.Graph.{Name, Adjacency, edges, with_node, with_edge}
use Rattle.ir_model.specs.Text.{content, words, is_plain}
use Rattle.ir_model.specs.Edgelist.{spelled_weight}
use Rattle.ir_graph.specs.declared.error.GraphError.{GraphError}
use Rattle.ir_graph.specs.declared.error.GraphError.TheVariants as errors
use Rattle.ir_model.specs.declared.Fault.{Fault}
use Rattle.ir_model.specs.declared.Fault.TheVariants.{BadByte, BadName, BadRow, BadWeight, TooManyNodes, TooManyEdges, NoMemory}

-- the links from a source to its targets
abbrev pub targets_run : Adjacency → Name → List Name → Result Adjacency Fault
targets_run g source [] = Ok g
targets_run g source (target ∷ targets) =
    if nat_lt MAX_NODES (length (with_node (with_node g source) target)) then Err TooManyNodes
    else if nat_lt MAX_EDGES (length (edges (with_edge g source target 1))) then Err TooManyEdges
    else targets_run (with_edge g source target 1) source targets

abbrev pub row_run : Adjacency → List Name → Result Adjacency Fault
row_run g [] = Ok g
row_run g (source ∷ targets) =
    if nat_lt MAX_NODES (length (with_node g source)) then Err TooManyNodes
    else targets_run (with_node g source) source targets

abbrev pub line_run : Adjacency → List ℕ → Result Adjacency Fault
line_run g line =
    if not (list_all is_plain (content line)) then Err BadByte
    else if not (list_all (λ w. nat_le (length w) MAX_NAME_BYTES) (words line)) then Err BadName
    else row_run g (words line)

-- a run goes on after its graph; a fault is reported with the number of its line
abbrev pub on_line : ℕ → Result Adjacency Fault → (Adjacency → Result Adjacency (ℕ × Fault)) → Result Adjacency (ℕ × Fault)
on_line n (Ok g) next = next g
on_line n (Err e) next = Err (n, e)

abbrev pub text_run : (Adjacency → List ℕ → Result Adjacency Fault) → ℕ → Adjacency → List (List ℕ) → Result Adjacency (ℕ × Fault)
text_run run n g [] = Ok g
text_run run n g (l ∷ ls) = on_line (n + 1) (run g l) (λ h. text_run run (n + 1) h ls)

-- ---- a weighted edge list

abbrev pub edge_run : Adjacency → Name → Name → ℕ → Result Adjacency Fault
edge_run g u v w =
    if nat_lt MAX_NODES (length (with_node (with_node g u) v)) then Err TooManyNodes
    else if nat_lt MAX_EDGES (length (edges (with_edge g u v w))) then Err TooManyEdges
    else Ok (with_edge g u v w)

abbrev pub weight_run : Adjacency → Name → Name → Option ℕ → Result Adjacency Fault
weight_run g u v None = Err BadWeight
weight_run g u v (Some w) = edge_run g u v w

abbrev pub ending_run : Adjacency → Name → Name → List Name → Result Adjacency Fault
ending_run g u v (word ∷ []) = weight_run g u v (spelled_weight word)
ending_run g u v words = Err BadRow

abbrev pub edge_row_run : Adjacency → List Name → Result Adjacency Fault
edge_row_run g (u ∷ v ∷ words) = if not (nat_le (length u) MAX_NAME_BYTES && nat_le (length v) MAX_NAME_BYTES) then Err BadName else ending_run g u v words
edge_row_run g words = Ok g

abbrev pub edge_line_run : Adjacency → List ℕ → Result Adjacency Fault
edge_line_run g line = if not (list_all is_plain (content line)) then Err BadByte else edge_row_run g (words line)

-- the call answers as the run, unless memory ran out
abbrev pub Fails : {A : Type 0} → Fault → Result A Fault → Type 0
Fails NoMemory run = Unit {0}
Fails e run = run ≡ Err e

-- the fault of a line for a refused call
abbrev pub fault_of : GraphError → Fault
fault_of errors.TooManyNodes = TooManyNodes
fault_of errors.TooManyEdges = TooManyEdges
fault_of errors.NoMemory = NoMemory
fault_of errors.BadWeight = BadWeight
fault_of e = BadName

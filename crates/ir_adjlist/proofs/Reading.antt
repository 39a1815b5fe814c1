-- A text that is read line by line is read up to its first fault.
use Rattle.std.proofs.Common.{◌≡◌, ℕ, ◌+◌, Bool, true, false, cond, List, [], ◌∷◌, ◌++◌, length, Option, Some, None, Result, Ok, Err, refl, sym, ap, ◌∙◌, length-append}
use Rattle.std.proofs.lemmas.List.{append_assoc, append-nil, length-map}
use Rattle.ir_model.specs.Graph.{Name, Adjacency}
use Rattle.ir_model.specs.Made.{Pair, distinct, neighbors_in, graph_of}
use Rattle.ir_model.specs.Text.{or_later}
use Rattle.ir_model.specs.declared.Fault.{Fault}
use Rattle.ir_model.specs.declared.Fault.TheVariants.{BadByte, BadName, BadRow, BadWeight, TooManyNodes, TooManyEdges, NoMemory}
use Rattle.ir_model.specs.Edgelist.{first_fault_by}
use Rattle.ir_adjlist.specs.Steps.{on_line, text_run, Fails}
use Rattle.ir_adjlist.specs.Told.{Tells, told_at}

-- the fault, or else the graph
abbrev pub or_graph : {F : Type 0} → Option F → Adjacency → Result Adjacency F
or_graph (Some f) g = Err f
or_graph None g = Ok g

pub or_graph-cond : (b : Bool) (f : Fault) (o : Option Fault) (g : Adjacency) → cond b (Err f) (or_graph o g) ≡ or_graph (cond b (Some f) o) g
or_graph-cond true f o g = refl
or_graph-cond false f o g = refl

pub or_graph-ok : {F : Type 0} (o : Option F) (g h : Adjacency) → or_graph o g ≡ Ok h → (o ≡ None) × (h ≡ g)
or_graph-ok (Some f) g h e = cc
or_graph-ok None g h e = (refl, cc)

or_graph-err : {F : Type 0} (o : Option F) (g : Adjacency) (f : F) → or_graph o g ≡ Err f → o ≡ Some f
or_graph-err (Some e) g f h = cc
or_graph-err None g f h = cc

pub length-graph_of : (ns : List Name) (pairs : List Pair) → length (graph_of ns pairs) ≡ length (distinct ns)
length-graph_of ns pairs = length-map (distinct ns) (λ (x : Name). record { 0 = x; 1 = neighbors_in pairs x })

module _ (run : Adjacency → List ℕ → Result Adjacency Fault) (fault : List (List ℕ) → List ℕ → Option Fault) (graph_in : List (List ℕ) → Adjacency) (P : List (List ℕ) → Type 0) (push : (ls : List (List ℕ)) (l : List ℕ) → P ls → P (ls ++ l ∷ []))
    (line : (before : List (List ℕ)) (l : List ℕ) → P before → run (graph_in before) l ≡ or_graph (fault before l) (graph_in (before ++ l ∷ []))) where
  -- where each line means its fault or the graph with it, so do the lines
  pub lines_mean : (before ls : List (List ℕ)) → P before → text_run run (length before) (graph_in before) ls ≡ or_graph (first_fault_by fault before ls) (graph_in (before ++ ls))
  lines_mean before [] c = ap Ok (ap graph_in (sym (append-nil before)))
  lines_mean before (l ∷ ls) c =
      ap (λ r. on_line (length before + 1) r (λ h. text_run run (length before + 1) h ls)) (line before l c)
      ∙ by (fault before l) (lines_mean (before ++ l ∷ []) ls (push before l c))
    where
      by : (o : Option Fault) → text_run run (length (before ++ l ∷ [])) (graph_in (before ++ l ∷ [])) ls ≡ or_graph (first_fault_by fault (before ++ l ∷ []) ls) (graph_in ((before ++ l ∷ []) ++ ls))
          → on_line (length before + 1) (or_graph o (graph_in (before ++ l ∷ []))) (λ h. text_run run (length before + 1) h ls) ≡ or_graph (or_later (length before + 1) o (first_fault_by fault (before ++ l ∷ []) ls)) (graph_in (before ++ l ∷ ls))
      by (Some f) later = refl
      by None later =
          ap (λ n. text_run run n (graph_in (before ++ l ∷ [])) ls) (sym (length-append before (l ∷ []))) ∙ later
          ∙ ap (λ m. or_graph (first_fault_by fault (before ++ l ∷ []) ls) (graph_in m)) (append_assoc before (l ∷ []) ls)

-- ---- what an error says

told : (line : ℕ) (kind : Fault) (run : Result Adjacency Fault) (first : Option (ℕ × Fault)) → Fails kind run → (run ≡ Err kind → first ≡ Some (line, kind)) → Tells (told_at line kind) first
told line NoMemory run first h e = refl
told line BadByte run first h e = e h
told line BadName run first h e = e h
told line BadRow run first h e = e h
told line BadWeight run first h e = e h
told line TooManyNodes run first h e = e h
told line TooManyEdges run first h e = e h

-- a line that fails after what was read is the first fault
pub told_by : (run : Adjacency → List ℕ → Result Adjacency Fault) (first : Option (ℕ × Fault)) (whole : Adjacency) (rest after : List (List ℕ)) (current : List ℕ) (n line : ℕ) (g : Adjacency) (kind : Fault) → or_graph first whole ≡ text_run run n g rest
    → rest ≡ current ∷ after → n + 1 ≡ line → Fails kind (run g current) → Tells (told_at line kind) first
told_by run first whole rest after current n line g kind means split e h =
    told line kind (run g current) first h (λ failed.
    or_graph-err first whole (line, kind) (means ∙ ap (text_run run n g) split ∙ ap (λ r. on_line (n + 1) r (λ h. text_run run (n + 1) h after)) failed ∙ ap (λ (k : ℕ). Err (k, kind)) e))

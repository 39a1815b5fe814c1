-- What a graph refuses, as the fault of a line.
use Rattle.std.proofs.Common.{◌≡◌, ℕ, Bool, true, false, not, ◌&&◌, cond, nat_lt, length, List, ◌∷◌, Option, Some, None, is_some, Result, Ok, Err, refl, ap, subst, ◌∙◌}
use Rattle.std.specs.Option.{MatchOption}
use Rattle.std.specs.List.{list_all}
use Rattle.ir_model.specs.declared.TheConstants.{MAX_NODES, MAX_EDGES}
use Rattle.ir_model.specs.Graph.{Name, Adjacency, edges, is_name, is_weight, with_node, with_edge}
use Rattle.ir_model.specs.Edgelist.{is_decimal, spelled_weight, value_of, whole}
use Rattle.ir_model.specs.declared.Fault.{Fault}
use Rattle.ir_model.specs.declared.Fault.TheVariants.{TooManyNodes, TooManyEdges}
use Rattle.ir_graph.specs.Faults.{node_fault, edge_fault, Refuses}
use Rattle.ir_graph.specs.declared.error.GraphError.{GraphError}
use Rattle.ir_graph.specs.declared.error.GraphError.TheVariants as errors
use Rattle.ir_adjlist.specs.Steps.{Fails, fault_of, edge_run, row_run, targets_run}

-- the fault, or else what follows the call
abbrev pub go_on : Option GraphError → Result Adjacency Fault → Result Adjacency Fault
go_on (Some e) r = Err (fault_of e)
go_on None r = r

-- a refused call fails so
pub refused : (o : Option GraphError) (e : GraphError) (r : Result Adjacency Fault) → Refuses o e → Fails (fault_of e) (go_on o r)
refused o errors.BadName r h = ap (λ p. go_on p r) h
refused o errors.BadWeight r h = ap (λ p. go_on p r) h
refused o errors.NoNode r h = ap (λ p. go_on p r) h
refused o errors.NoEdge r h = ap (λ p. go_on p r) h
refused o errors.TooManyNodes r h = ap (λ p. go_on p r) h
refused o errors.TooManyEdges r h = ap (λ p. go_on p r) h
refused o errors.EmptyGraph r h = ap (λ p. go_on p r) h
refused o errors.NoMemory r h = tt

one_of_two : (a c : Bool) (r : Result Adjacency Fault) → a ≡ false → cond c (Err TooManyNodes) r ≡ go_on (cond a (Some errors.BadName) (cond c (Some errors.TooManyNodes) None)) r
one_of_two true c r e = absurd cc
one_of_two false true r e = refl
one_of_two false false r e = refl

one_of_four : (a b c d : Bool) (r : Result Adjacency Fault) → a ≡ false → b ≡ false
    → cond c (Err TooManyNodes) (cond d (Err TooManyEdges) r) ≡ go_on (cond a (Some errors.BadName) (cond b (Some errors.BadWeight) (cond c (Some errors.TooManyNodes) (cond d (Some errors.TooManyEdges) None)))) r
one_of_four true b c d r e f = absurd cc
one_of_four false true c d r e f = absurd cc
one_of_four false false true d r e f = refl
one_of_four false false false true r e f = refl
one_of_four false false false false r e f = refl

-- a run adds a node as the call does
pub node_goes : (g : Adjacency) (x : Name) (r : Result Adjacency Fault) → is_name x ≡ true → cond (nat_lt MAX_NODES (length (with_node g x))) (Err TooManyNodes) r ≡ go_on (node_fault g x) r
node_goes g x r named = one_of_two (not (is_name x)) (nat_lt MAX_NODES (length (with_node g x))) r (ap not named)

-- and an edge
pub edge_goes : (g : Adjacency) (u v : Name) (w : ℕ) (r : Result Adjacency Fault) → is_name u ≡ true → is_name v ≡ true → is_weight w ≡ true
    → cond (nat_lt MAX_NODES (length (with_node (with_node g u) v))) (Err TooManyNodes) (cond (nat_lt MAX_EDGES (length (edges (with_edge g u v w)))) (Err TooManyEdges) r) ≡ go_on (edge_fault g u v w) r
edge_goes g u v w r named_u named_v weighed =
    one_of_four (not (is_name u && is_name v)) (not (is_weight w)) (nat_lt MAX_NODES (length (with_node (with_node g u) v))) (nat_lt MAX_EDGES (length (edges (with_edge g u v w)))) r
    (ap (λ b. not (b && is_name v)) named_u ∙ ap not named_v) (ap not weighed)

-- a run by its calls
pub targets_go : (g : Adjacency) (x y : Name) (rest : List Name) → is_name x ≡ true → is_name y ≡ true → targets_run g x (y ∷ rest) ≡ go_on (edge_fault g x y 1) (targets_run (with_edge g x y 1) x rest)
targets_go g x y rest named_x named_y = edge_goes g x y 1 (targets_run (with_edge g x y 1) x rest) named_x named_y refl

pub row_goes : (g : Adjacency) (x : Name) (rest : List Name) → is_name x ≡ true → row_run g (x ∷ rest) ≡ go_on (node_fault g x) (targets_run (with_node g x) x rest)
row_goes g x rest named = node_goes g x (targets_run (with_node g x) x rest) named

pub weighted_goes : (g : Adjacency) (u v : Name) (w : ℕ) → is_name u ≡ true → is_name v ≡ true → is_weight w ≡ true → edge_run g u v w ≡ go_on (edge_fault g u v w) (Ok (with_edge g u v w))
weighted_goes g u v w named_u named_v weighed = edge_goes g u v w (Ok (with_edge g u v w)) named_u named_v weighed

-- names, the first and the further ones
both : (a b : Bool) → (a && b) ≡ true → (a ≡ true) × (b ≡ true)
both true true e = (refl, refl)
both true false e = absurd cc
both false b e = absurd cc

pub all_named : (y : Name) (rest : List Name) → list_all is_name (y ∷ rest) ≡ true → (is_name y ≡ true) × (list_all is_name rest ≡ true)
all_named y rest e = both (is_name y) (list_all is_name rest) e

-- no word follows
pub none_follows : {A : Type 0} (o : Option A) (P : Type 0) (Q : A → Type 0) → is_some o ≡ false → MatchOption o P Q → P
none_follows None P Q e m = m
none_follows (Some x) P Q e m = absurd cc

-- what a word spells is a weight
spelled : (b : Bool) (v w : ℕ) → cond b (Some v) None ≡ Some w → (b ≡ true) × (v ≡ w)
spelled true v w e = (refl, cc)
spelled false v w e = absurd cc

pub spelled_is_weight : (word : Name) (w : ℕ) → spelled_weight word ≡ Some w → is_weight w ≡ true
spelled_is_weight word w e =
    let v = value_of (whole word) in
    let at = spelled (is_decimal word && is_weight v) v w e in
    subst (λ n. is_weight n ≡ true) at.1 (both (is_decimal word) (is_weight v) at.0).1

use Rattle.std.proofs.Common.{◌≡◌, ◌≤◌, ◌<◌, ◌+◌, ◌∙◌, ◌&&◌, Bool, not, cond, refl, sym, ap, subst, arith, true, false, length, None, is_some, nat_le, ⊎_elim}
use Rattle.std.proofs.lemmas.Bool.{and_from, le-leb, lt-leb, lt-ltb}
use Rattle.std.proofs.Math.Bool.{and-false}
use Rattle.ir_model.specs.Graph.{is_name, is_weight, with_node, with_edge, weight_of, edges}
use Rattle.ir_model.specs.declared.TheConstants.{MAX_NODES, MAX_EDGES, MAX_WEIGHT}
use Rattle.ir_graph.specs.Faults.{edge_fault}
use Rattle.ir_graph.specs.View.{rows_view}
use Rattle.ir_graph.specs.Kept.{IsKept}
use Rattle.ir_graph.proofs.Joined.{has_node-weight_of}
use Rattle.ir_graph.proofs.Keeping.{kept-new_edge, kept-old_edge, length-edges-new, length-edges-old, edge_fault-none, edge_fault-edges, with_nodes-there}
use Rattle.ir_graph.proofs.Graph.add_edge.Goals as goal
use Rattle.ir_graph.proofs.Graph.add_edge.Goals.{then-not-is_valid_name-via-then-not-is_valid_name}
use Rattle.ir_graph.proofs.Graph.add_edge.Goals.{then-not-is_valid_name-via-else-not-is_valid_name+then-not-is_valid_name-2}

pub invariant_of-self : goal.invariant_of-self
invariant_of-self c =
    let g = rows_view c.self.inside.rows in
    let weighed : is_weight c.args.weight ≡ true = and_from _ _ (le-leb 1 c.args.weight (omega arith)) (le-leb c.args.weight MAX_WEIGHT (omega arith)) in
    subst (λ g. IsKept g c.self.inside.edge_count) (sym c.set_link.ensures.set)
    (kept-old_edge g c.self.inside.edge_count c.args.u.now c.args.v.now c.args.weight c.set_link.ensures.differ weighed (ap is_some (sym c.in-Some.ensures)) c.self.invariant)

pub returns-in-Some-clause-ok : goal.returns-in-Some-clause-ok
returns-in-Some-clause-ok c =
    let g = rows_view c.self.inside.rows in
    let u = c.args.u.now in
    let v = c.args.v.now in
    let weighed : is_weight c.args.weight ≡ true = and_from _ _ (le-leb 1 c.args.weight (omega arith)) (le-leb c.args.weight MAX_WEIGHT (omega arith)) in
    let named_u : is_name u ≡ true = sym c.if-not-is_valid_name.ensures in
    let named_v : is_name v ≡ true = sym c.if-not-is_valid_name-2.ensures in
    let there : is_some (weight_of g u v) ≡ true = ap is_some (sym c.in-Some.ensures) in
    let back : is_some (weight_of g v u) ≡ true = ap is_some (c.self.invariant.both_ways v u) ∙ there in
    let same : with_node (with_node g u) v ≡ g = with_nodes-there g u v (has_node-weight_of g u v there) (has_node-weight_of g v u back) in
    let room : length (with_node (with_node g u) v) ≤ MAX_NODES = omega (arith, ap length same, c.self.invariant.node_limit) in
    let fits : length (edges (with_edge g u v c.args.weight)) ≤ MAX_EDGES = omega (arith, length-edges-old g u v c.args.weight c.set_link.ensures.differ c.self.invariant.both_ways there, c.self.invariant.counted, c.self.invariant.edge_limit) in
    ap (λ g. edge_fault g u v c.args.weight) (sym c.self.view_is) ∙ edge_fault-none g u v c.args.weight named_u named_v weighed room fits

pub returns-then-self-ge-MAX_EDGES-clause-refused : goal.returns-then-self-ge-MAX_EDGES-clause-refused
returns-then-self-ge-MAX_EDGES-clause-refused c =
    let g = rows_view c.self.inside.rows in
    let u = c.args.u.now in
    let v = c.args.v.now in
    let weighed : is_weight c.args.weight ≡ true = and_from _ _ (le-leb 1 c.args.weight (omega arith)) (le-leb c.args.weight MAX_WEIGHT (omega arith)) in
    let named_u : is_name u ≡ true = sym c.if-not-is_valid_name.ensures in
    let named_v : is_name v ≡ true = sym c.if-not-is_valid_name-2.ensures in
    let absent : weight_of g u v ≡ None = sym c.in_default.ensures in
    let room : length (with_node (with_node g u) v) ≤ MAX_NODES = omega (arith, c.len_with.ensures.len) in
    let over : MAX_EDGES < length (edges (with_edge g u v c.args.weight)) = omega (arith, length-edges-new g u v c.args.weight c.len_with.ensures.differ c.self.invariant.both_ways absent, c.self.invariant.counted) in
    ap (λ g. edge_fault g u v c.args.weight) (sym c.self.view_is) ∙ edge_fault-edges g u v c.args.weight named_u named_v weighed room over

pub invariant_of-self-in-Ok : goal.invariant_of-self-in-Ok
invariant_of-self-in-Ok c =
    let g = rows_view c.self.inside.rows in
    let weighed : is_weight c.args.weight ≡ true = and_from _ _ (le-leb 1 c.args.weight (omega arith)) (le-leb c.args.weight MAX_WEIGHT (omega arith)) in
    let named_u : is_name c.args.u.now ≡ true = sym c.if-not-is_valid_name.ensures in
    let named_v : is_name c.args.v.now ≡ true = sym c.if-not-is_valid_name-2.ensures in
    let absent : weight_of g c.args.u.now c.args.v.now ≡ None = sym c.in_default.ensures in
    let room : length (with_node (with_node g c.args.u.now) c.args.v.now) ≤ MAX_NODES = omega (arith, c.len_with.ensures.len) in
    let fits : c.self.inside.edge_count < MAX_EDGES = omega arith in
    subst (λ g. IsKept g (c.self.inside.edge_count + 1)) (sym c.in-Ok.ensures.ok)
    (kept-new_edge g c.self.inside.edge_count c.args.u.now c.args.v.now c.args.weight c.len_with.ensures.differ named_u named_v weighed absent room fits c.self.invariant)

pub returns-in-Ok-clause-ok : goal.returns-in-Ok-clause-ok
returns-in-Ok-clause-ok c =
    let g = rows_view c.self.inside.rows in
    let u = c.args.u.now in
    let v = c.args.v.now in
    let weighed : is_weight c.args.weight ≡ true = and_from _ _ (le-leb 1 c.args.weight (omega arith)) (le-leb c.args.weight MAX_WEIGHT (omega arith)) in
    let named_u : is_name u ≡ true = sym c.if-not-is_valid_name.ensures in
    let named_v : is_name v ≡ true = sym c.if-not-is_valid_name-2.ensures in
    let absent : weight_of g u v ≡ None = sym c.in_default.ensures in
    let room : length (with_node (with_node g u) v) ≤ MAX_NODES = omega (arith, c.len_with.ensures.len) in
    let fits : length (edges (with_edge g u v c.args.weight)) ≤ MAX_EDGES = omega (arith, length-edges-new g u v c.args.weight c.len_with.ensures.differ c.self.invariant.both_ways absent, c.self.invariant.counted) in
    ap (λ g. edge_fault g u v c.args.weight) (sym c.self.view_is) ∙ edge_fault-none g u v c.args.weight named_u named_v weighed room fits

pub returns-in-Err-clause-refused : goal.returns-in-Err-clause-refused
returns-in-Err-clause-refused c =
    let g = rows_view c.self.inside.rows in
    let u = c.args.u.now in
    let v = c.args.v.now in
    let weighed : is_weight c.args.weight ≡ true = and_from _ _ (le-leb 1 c.args.weight (omega arith)) (le-leb c.args.weight MAX_WEIGHT (omega arith)) in
    let named_u : is_name u ≡ true = sym c.if-not-is_valid_name.ensures in
    let named_v : is_name v ≡ true = sym c.if-not-is_valid_name-2.ensures in
    let absent : weight_of g u v ≡ None = sym c.in_default.ensures in
    let room : length (with_node (with_node g u) v) ≤ MAX_NODES = omega (arith, c.len_with.ensures.len) in
    let fits : length (edges (with_edge g u v c.args.weight)) ≤ MAX_EDGES = omega (arith, length-edges-new g u v c.args.weight c.len_with.ensures.differ c.self.invariant.both_ways absent, c.self.invariant.counted) in
    ap (λ g. edge_fault g u v c.args.weight) (sym c.self.view_is) ∙ edge_fault-none g u v c.args.weight named_u named_v weighed room fits

pub set_link-requires : goal.set_link-requires
set_link-requires c =
    let forth = ap is_some (sym c.in-Some.ensures) in
    record { forth = forth; back = ap is_some (c.self.invariant.both_ways c.args.v.now c.args.u.now) ∙ forth }

pub add_link-requires : goal.add_link-requires
add_link-requires c = record { apart = sym c.in_default.ensures }

pub overflow_add-self : goal.overflow_add-self
overflow_add-self c = omega (arith, c.if-self-ge-MAX_EDGES.false)

pub returns-in-Some-clause-old : goal.returns-in-Some-clause-old
returns-in-Some-clause-old c = c.in-Some.ensures ∙ ap (λ g. weight_of g c.args.u.now c.args.v.now) c.self.view_is

pub returns-in-Some-clause-added : goal.returns-in-Some-clause-added
returns-in-Some-clause-added c = c.set_link.ensures.set ∙ ap (λ g. with_edge g c.args.u.now c.args.v.now c.args.weight) c.self.view_is

pub returns-in-Ok-clause-old : goal.returns-in-Ok-clause-old
returns-in-Ok-clause-old c = c.in_default.ensures ∙ ap (λ g. weight_of g c.args.u.now c.args.v.now) c.self.view_is

pub returns-in-Ok-clause-added : goal.returns-in-Ok-clause-added
returns-in-Ok-clause-added c = c.in-Ok.ensures.ok ∙ ap (λ g. with_edge g c.args.u.now c.args.v.now c.args.weight) c.self.view_is

pub returns-in-Err-clause-err : goal.returns-in-Err-clause-err
returns-in-Err-clause-err c = c.in-Err.ensures.err ∙ c.self.view_is

pub returns-then-self-ge-MAX_EDGES-clause-err : goal.returns-then-self-ge-MAX_EDGES-clause-err
returns-then-self-ge-MAX_EDGES-clause-err c = refl

-- the third of the tests that refuse an edge
third : {A : Type 0} (p q r : Bool) (a b x y : A) → p ≡ true → q ≡ true → r ≡ true → cond (not p) a (cond (not q) b (cond r x y)) ≡ x
third p q r a b x y e f h = ap (λ t. cond (not t) a (cond (not q) b (cond r x y))) e ∙ ap (λ t. cond (not t) b (cond r x y)) f ∙ ap (λ t. cond t x y) h

pub returns-then-len_with-gt-MAX_NODES-clause-refused : goal.returns-then-len_with-gt-MAX_NODES-clause-refused
returns-then-len_with-gt-MAX_NODES-clause-refused c =
    let g = rows_view c.self.inside.rows in
    let u = c.args.u.now in
    let v = c.args.v.now in
    let weighed : is_weight c.args.weight ≡ true = and_from _ _ (le-leb 1 c.args.weight (omega arith)) (le-leb c.args.weight MAX_WEIGHT (omega arith)) in
    let named_u : is_name u ≡ true = sym c.if-not-is_valid_name.ensures in
    let named_v : is_name v ≡ true = sym c.if-not-is_valid_name-2.ensures in
    let over : MAX_NODES < length (with_node (with_node g u) v) = omega (arith, c.len_with.ensures.len, c.if-len_with-gt-MAX_NODES.true) in
    ap (λ g. edge_fault g u v c.args.weight) (sym c.self.view_is) ∙ third _ _ _ _ _ _ _ (and_from _ _ named_u named_v) weighed (lt-ltb MAX_NODES (length (with_node (with_node g u) v)) over)

pub returns-then-len_with-gt-MAX_NODES-clause-err : goal.returns-then-len_with-gt-MAX_NODES-clause-err
returns-then-len_with-gt-MAX_NODES-clause-err c = refl

-- the first test refuses an edge, or the second
first : {A : Type 0} (p : Bool) (a x : A) → p ≡ false → cond (not p) a x ≡ a
first p a x e = ap (λ t. cond (not t) a x) e

second : {A : Type 0} (p q : Bool) (a b x : A) → p ≡ true → q ≡ false → cond (not p) a (cond (not q) b x) ≡ b
second p q a b x e f = ap (λ t. cond (not t) a (cond (not q) b x)) e ∙ ap (λ t. cond (not t) b x) f

pub returns-then-not-is_valid_name-clause-refused : goal.returns-then-not-is_valid_name-clause-refused
returns-then-not-is_valid_name-clause-refused c =
    let v = c.args.v.now in
    first _ _ _ (elim c.then-not-is_valid_name.branch [
      | then-not-is_valid_name-via-then-not-is_valid_name w ↦ ap (λ b. b && is_name v) (sym w.if-not-is_valid_name.ensures)
      | then-not-is_valid_name-via-else-not-is_valid_name+then-not-is_valid_name-2 w ↦
          ap (λ b. b && is_name v) (sym w.if-not-is_valid_name.ensures) ∙ sym w.if-not-is_valid_name-2.ensures
    ])

pub returns-then-weight-eq0-clause-refused : goal.returns-then-weight-eq0-clause-refused
returns-then-weight-eq0-clause-refused c =
    let named = and_from _ _ (sym c.if-not-is_valid_name.ensures) (sym c.if-not-is_valid_name-2.ensures) in
    second _ _ _ _ _ named (⊎_elim (λ (none : c.args.weight ≡ 0). ap is_weight none)
    (λ (over : (c.args.weight ≡ 0 → ⊥) × MAX_WEIGHT < c.args.weight). ap (λ b. nat_le 1 c.args.weight && b) (lt-leb c.args.weight MAX_WEIGHT over.1) ∙ and-false (nat_le 1 c.args.weight)) c.then-weight-eq0.either)

pub invariant_of-self-in-Err : goal.invariant_of-self-in-Err
invariant_of-self-in-Err c = subst (λ g. IsKept g c.self.inside.edge_count) (sym c.in-Err.ensures.err) c.self.invariant

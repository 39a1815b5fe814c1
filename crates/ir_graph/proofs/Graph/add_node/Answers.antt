use Rattle.std.proofs.Common.{◌+◌, ◌≡◌, ◌≤◌, ◌<◌, ◌∙◌, ◌++◌, ◌∷◌, [], None, Some, not, sym, ap, subst, arith, true, false, length, cond, nat_lt}
use Rattle.std.proofs.lemmas.Bool.{le-ltb, lt-ltb}
use Rattle.ir_model.specs.Graph.{Name, Adjacency, has_node, is_name, with_node}
use Rattle.ir_model.specs.declared.TheConstants.{MAX_NODES}
use Rattle.ir_graph.specs.Faults.{node_fault}
use Rattle.ir_graph.specs.declared.error.GraphError.TheVariants.{BadName, TooManyNodes}
use Rattle.ir_graph.specs.View.{rows_view}
use Rattle.ir_graph.specs.Kept.{IsKept}
use Rattle.ir_graph.proofs.Keeping.{kept-with_node, length-with_node_is}
use Rattle.ir_graph.proofs.Graph.add_node.Goals as goal
use Rattle.ir_graph.proofs.Graph.add_node.Goals.{in-Ok, in-Err}

pub invariant_of-self : goal.invariant_of-self
invariant_of-self c =
    let g = rows_view c.self.inside.rows in
    let named : is_name c.args.name.now ≡ true = sym c.if-not-is_valid_name.ensures in
    let room : length (with_node g c.args.name.now) ≤ MAX_NODES = omega (arith, length-with_node_is g c.args.name.now ∙ ap (λ b. length g + cond b 0 1) (sym c.has_row.ensures ∙ c.if-has_row.false), ap length c.self.view_is) in
    elim c.match-add_row.branch [
      | in-Ok w ↦ subst (λ h. IsKept h c.self.inside.edge_count) (sym w.in-Ok.ensures.ok) (kept-with_node g c.self.inside.edge_count c.args.name.now named room c.self.invariant)
      | in-Err w ↦ subst (λ h. IsKept h c.self.inside.edge_count) (sym w.in-Err.ensures.err) c.self.invariant
    ]

no_fault : (g : Adjacency) (x : Name) → is_name x ≡ true → length (with_node g x) ≤ MAX_NODES → node_fault g x ≡ None
no_fault g x named room =
    ap (λ t. cond (not t) (Some BadName) (cond (nat_lt MAX_NODES (length (with_node g x))) (Some TooManyNodes) None)) named
    ∙ ap (λ t. cond t (Some TooManyNodes) None) (le-ltb MAX_NODES (length (with_node g x)) room)

-- where the name is new and there is room
no_fault_new : (g : Adjacency) (x : Name) → is_name x ≡ true → has_node g x ≡ false → length g < MAX_NODES → node_fault g x ≡ None
no_fault_new g x named new room = no_fault g x named (omega (arith, length-with_node_is g x ∙ ap (λ b. length g + cond b 0 1) new, room))

pub add_row-requires : goal.add_row-requires
add_row-requires c = sym c.if-has_row.ensures

pub returns-then-has_row : goal.returns-then-has_row
returns-then-has_row c =
    let g = rows_view c.self.inside.rows in
    let x = c.args.name.now in
    let same : with_node g x ≡ g = ap (λ b. cond b g (g ++ (x, []) ∷ [])) (sym c.if-has_row.ensures) in
    record {
      ok = ap (λ g. node_fault g x) (sym c.self.view_is) ∙ no_fault g x (sym c.if-not-is_valid_name.ensures) (omega (arith, ap length same, c.self.invariant.node_limit));
      new = ap not (c.if-has_row.ensures ∙ ap (λ g. has_node g x) c.self.view_is);
      added = sym c.self.view_is ∙ sym same ∙ ap (λ g. with_node g x) c.self.view_is;
      refused = tt;
      err = tt;
    }

pub returns-clause-ok : goal.returns-clause-ok
returns-clause-ok c =
    let x = c.args.name.now in
    let has = sym (c.if-has_row.ensures ∙ ap (λ g. has_node g x) c.self.view_is) in
    let none : node_fault c.args.self.now x ≡ None = no_fault_new c.args.self.now x (sym c.if-not-is_valid_name.ensures) has (omega (arith, c.number_of_nodes.ensures.len, c.if-number_of_nodes-ge-MAX_NODES.false)) in
    elim c.match-add_row.branch [ in-Ok w ↦ rw w.result-is none | in-Err w ↦ rw w.result-is tt ]

pub returns-clause-new : goal.returns-clause-new
returns-clause-new c =
    elim c.match-add_row.branch [
      | in-Ok w ↦ rw w.result-is (ap not (c.if-has_row.ensures ∙ ap (λ g. has_node g c.args.name.now) c.self.view_is))
      | in-Err w ↦ rw w.result-is tt
    ]

pub returns-clause-added : goal.returns-clause-added
returns-clause-added c =
    elim c.match-add_row.branch [
      | in-Ok w ↦ rw w.result-is (w.in-Ok.ensures.ok ∙ ap (λ g. with_node g c.args.name.now) c.self.view_is)
      | in-Err w ↦ rw w.result-is tt
    ]

pub returns-clause-refused : goal.returns-clause-refused
returns-clause-refused c =
    let x = c.args.name.now in
    let has = sym (c.if-has_row.ensures ∙ ap (λ g. has_node g x) c.self.view_is) in
    let none : node_fault c.args.self.now x ≡ None = no_fault_new c.args.self.now x (sym c.if-not-is_valid_name.ensures) has (omega (arith, c.number_of_nodes.ensures.len, c.if-number_of_nodes-ge-MAX_NODES.false)) in
    elim c.match-add_row.branch [ in-Ok w ↦ rw w.result-is tt | in-Err w ↦ rw w.result-is none ]

pub returns-clause-err : goal.returns-clause-err
returns-clause-err c =
    elim c.match-add_row.branch [
      | in-Ok w ↦ rw w.result-is tt
      | in-Err w ↦ rw w.result-is (w.in-Err.ensures.err ∙ c.self.view_is)
    ]

pub returns-then-not-is_valid_name-clause-refused : goal.returns-then-not-is_valid_name-clause-refused
returns-then-not-is_valid_name-clause-refused c =
    let g = c.args.self.now in
    let x = c.args.name.now in
    ap (λ t. cond (not t) (Some BadName) (cond (nat_lt MAX_NODES (length (with_node g x))) (Some TooManyNodes) None)) (sym c.if-not-is_valid_name.ensures)

pub returns-then-number_of_nodes-ge-MAX_NODES-clause-refused : goal.returns-then-number_of_nodes-ge-MAX_NODES-clause-refused
returns-then-number_of_nodes-ge-MAX_NODES-clause-refused c =
    let g = c.args.self.now in
    let x = c.args.name.now in
    let full = c.if-number_of_nodes-ge-MAX_NODES.true in
    let count = c.number_of_nodes.ensures.len in
    let more = length-with_node_is g x ∙ ap (λ b. length g + cond b 0 1) (sym (c.if-has_row.ensures ∙ ap (λ g. has_node g x) c.self.view_is)) in
    ap (λ t. cond (not t) (Some BadName) (cond (nat_lt MAX_NODES (length (with_node g x))) (Some TooManyNodes) None)) (sym c.if-not-is_valid_name.ensures)
    ∙ ap (λ t. cond t (Some TooManyNodes) None) (lt-ltb MAX_NODES (length (with_node g x)) (omega (arith, full, count, more)))

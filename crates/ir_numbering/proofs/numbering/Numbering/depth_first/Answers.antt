use Rattle.std.proofs.Common.{◌≡◌, ℕ, List, Result, Ok, Err, length, refl, ap, sym, subst, arith}
use Rattle.std.proofs.lemmas.Result.{err_from_is_err_and}
use Rattle.ir_model.specs.Topology.{node_count}
use Rattle.ir_model.specs.Numbering.{neighbors_of, IsDepthFirst}
use Rattle.ir_model.specs.Subtree.{IsNested}
use Rattle.ir_model.specs.Plan.{AreLabels}
use Rattle.ir_numbering.specs.declared.error.NumberError.{NumberError}
use Rattle.ir_numbering.specs.declared.error.NumberError.TheVariants.{NoNode, Disconnected, NoMemory}
use Rattle.ir_numbering.specs.Numbering.{Numbering}
use Rattle.ir_numbering.proofs.Nested.{depth_first_nests}
use Rattle.ir_numbering.proofs.ParentPorts.{sound_numbers}
use Rattle.ir_numbering.proofs.Ways.{tree_connects}
use Rattle.ir_numbering.proofs.numbering.Numbering.depth_first.Goals as goal

made_is_no_refusal : (s : Numbering) (x : NumberError) → Ok s ≡ Err x → ⊥
made_is_no_refusal s x e = cc

other_refusal : (r : Result Numbering NumberError) → r ≡ Err NoNode → r ≡ Err Disconnected → ⊥
other_refusal r e f = cc

not_no_node : (r : Result Numbering NumberError) (x : NumberError) → r ≡ Err x → x ≡ NoMemory → r ≡ Err NoNode → ⊥
not_no_node r x is memory e = cc

not_disconnected : (r : Result Numbering NumberError) (x : NumberError) → r ≡ Err x → x ≡ NoMemory → r ≡ Err Disconnected → ⊥
not_disconnected r x is memory e = cc

pub returns-then-len-nodes-clause-disconnected : goal.returns-then-len-nodes-clause-disconnected
returns-then-len-nodes-clause-disconnected c = λ e.
    let n = c.nodes-2.ensures.count in
    let cut = c.in_ok-order.ensures.some (omega arith) in
    (c.args.root, cut.0, let r = c.if-root-nodes.false in let m = c.nodes.ensures.count in omega arith, cut.1, cut.2)

pub invariant_of-result : goal.invariant_of-result
invariant_of-result c =
    let n = c.nodes-2.ensures.count in
    let is = c.in_ok-order.ensures.all (omega arith) in
    let labels = rw c.as_slice.ensures.value at c.in_ok-labels.ensures in
    let there = subst (λ (k : ℕ). AreLabels k c.in_ok-order.field-0.nodes.items c.in_ok-labels.labels.items) is.every labels in
    let ports = rw (c.as_slice-2.ensures.value, c.as_slice-3.ensures.value) at c.in_ok-ports.ensures in
    let sizes = rw c.as_slice-5.ensures.value at c.in_ok-sizes.ensures in (
      sound_numbers c.args.topology.now c.nodes-2.ensures.topology c.args.root c.in_ok-order.field-0.nodes.items c.in_ok-order.field-0.parents.items c.in_ok-labels.labels.items is there c.in_ok-ports.ports.items ports,
      sizes,
    )

pub subtree_sizes-requires-clause-nested : goal.subtree_sizes-requires-clause-nested
subtree_sizes-requires-clause-nested c =
    let n = c.nodes-2.ensures.count in
    let is = c.in_ok-order.ensures.all (omega arith) in
    let net = c.args.topology.now in
    rw c.as_slice-5.ensures.value
    (subst (λ (k : ℕ). IsNested k c.in_ok-order.field-0.parents.items) (sym is.parented)
    (depth_first_nests (neighbors_of net) (node_count net) c.args.root c.in_ok-order.field-0.nodes.items c.in_ok-order.field-0.parents.items is))

pub returns-clause-connected : goal.returns-clause-connected
returns-clause-connected c =
    let n = c.nodes-2.ensures.count in
    let is = c.in_ok-order.ensures.all (omega arith) in
    let labels = rw c.as_slice.ensures.value at c.in_ok-labels.ensures in
    let there = subst (λ (k : ℕ). AreLabels k c.in_ok-order.field-0.nodes.items c.in_ok-labels.labels.items) is.every labels in
    tree_connects c.args.topology.now c.nodes-2.ensures.topology c.args.root c.in_ok-order.field-0.nodes.items c.in_ok-order.field-0.parents.items is c.in_ok-labels.labels.items there

pub labels_of-requires-clause-listing : goal.labels_of-requires-clause-listing
labels_of-requires-clause-listing c =
    let n = c.nodes-2.ensures.count in
    let is = c.in_ok-order.ensures.all (omega (arith, n)) in
    let every = is.every in
    rw c.as_slice.ensures.value (record { every = refl; nodes = λ k d l. let v = is.nodes k d l in omega (arith, v, every); once = is.once })

pub parent_ports-requires-clause-order : goal.parent_ports-requires-clause-order
parent_ports-requires-clause-order c =
    let n = c.nodes-2.ensures.count in
    let net = c.args.topology.now in
    let is = c.in_ok-order.ensures.all (omega (arith, n)) in
    rw (c.as_slice-2.ensures.value, c.as_slice-3.ensures.value)
    (subst (λ (root : ℕ). IsDepthFirst (neighbors_of net) (node_count net) root c.in_ok-order.field-0.nodes.items c.in_ok-order.field-0.parents.items) (sym is.root_first) is)

pub parent_ports-requires-clause-labels : goal.parent_ports-requires-clause-labels
parent_ports-requires-clause-labels c =
    let n = c.nodes-2.ensures.count in
    let is = c.in_ok-order.ensures.all (omega (arith, n)) in
    let labels = rw c.as_slice.ensures.value at c.in_ok-labels.ensures in
    rw (c.as_slice-2.ensures.value, c.as_slice-4.ensures.value) (subst (λ (k : ℕ). AreLabels k c.in_ok-order.field-0.nodes.items c.in_ok-labels.labels.items) is.every labels)

pub returns-clause-depth_first : goal.returns-clause-depth_first
returns-clause-depth_first c =
    let n = c.nodes-2.ensures.count in
    c.in_ok-order.ensures.all (omega (arith, n))

pub returns-clause-numbering : goal.returns-clause-numbering
returns-clause-numbering c =
    let n = c.nodes-2.ensures.count in
    let net = c.args.topology.now in
    let is = c.in_ok-order.ensures.all (omega (arith, n)) in
    let labels = rw c.as_slice.ensures.value at c.in_ok-labels.ensures in
    record {
      order = subst (λ (root : ℕ). IsDepthFirst (neighbors_of net) (node_count net) root c.in_ok-order.field-0.nodes.items c.in_ok-order.field-0.parents.items) (sym is.root_first) is;
      labels = subst (λ (k : ℕ). AreLabels k c.in_ok-order.field-0.nodes.items c.in_ok-labels.labels.items) is.every labels;
      ports = rw (c.as_slice-2.ensures.value, c.as_slice-3.ensures.value) at c.in_ok-ports.ensures;
    }

pub search-requires : goal.search-requires
search-requires c = omega (arith, c.if-root-nodes.false, c.nodes.ensures.count)

pub labels_of-requires-clause-few : goal.labels_of-requires-clause-few
labels_of-requires-clause-few c =
    let is = c.in_ok-order.ensures.all (omega (arith, c.nodes-2.ensures.count, c.if-len-nodes.false, c.len.ensures, c.in_ok-order.field-0.nodes.ok)) in
    omega (arith, ap (λ (xs : List ℕ). length xs) c.as_slice.ensures.value, is.every, c.nodes-2.ensures.topology.few_nodes)

pub subtree_sizes-requires-clause-few : goal.subtree_sizes-requires-clause-few
subtree_sizes-requires-clause-few c =
    let is = c.in_ok-order.ensures.all (omega (arith, c.nodes-2.ensures.count, c.if-len-nodes.false, c.len.ensures, c.in_ok-order.field-0.nodes.ok)) in
    omega (arith, ap (λ (xs : List ℕ). length xs) c.as_slice-5.ensures.value, is.parented, c.nodes-2.ensures.topology.few_nodes)

pub returns-then-root-nodes-clause-no_node : goal.returns-then-root-nodes-clause-no_node
returns-then-root-nodes-clause-no_node c = ((λ e. omega (arith, c.if-root-nodes.true, c.nodes.ensures.count)), (λ past. refl))

pub returns-then-root-nodes-clause-disconnected : goal.returns-then-root-nodes-clause-disconnected
returns-then-root-nodes-clause-disconnected c e = absurd (other_refusal _ refl e)

pub returns-then-len-nodes-clause-no_node : goal.returns-then-len-nodes-clause-no_node
returns-then-len-nodes-clause-no_node c = ((λ e. absurd (other_refusal _ e refl)), (λ past. absurd (omega (arith, past, c.if-root-nodes.false, c.nodes.ensures.count))))

pub returns-in_err-order-clause-no_node : goal.returns-in_err-order-clause-no_node
returns-in_err-order-clause-no_node c =
    let no = err_from_is_err_and c.from_residual.result c.from_residual.ensures.1 in
    ((λ e. absurd (not_no_node c.from_residual.result no.0 no.1 no.2 e)), (λ past. absurd (omega (arith, past, c.if-root-nodes.false, c.nodes.ensures.count))))

pub returns-in_err-order-clause-connected : goal.returns-in_err-order-clause-connected
returns-in_err-order-clause-connected c =
    let no = err_from_is_err_and c.from_residual.result c.from_residual.ensures.1 in
    rw no.1 tt

pub returns-in_err-order-clause-disconnected : goal.returns-in_err-order-clause-disconnected
returns-in_err-order-clause-disconnected c e =
    let no = err_from_is_err_and c.from_residual.result c.from_residual.ensures.1 in
    absurd (not_disconnected c.from_residual.result no.0 no.1 no.2 e)

pub returns-clause-no_node : goal.returns-clause-no_node
returns-clause-no_node c = ((λ e. absurd (made_is_no_refusal _ _ e)), (λ past. absurd (omega (arith, past, c.if-root-nodes.false, c.nodes.ensures.count))))

pub returns-clause-disconnected : goal.returns-clause-disconnected
returns-clause-disconnected c e = absurd (made_is_no_refusal _ _ e)

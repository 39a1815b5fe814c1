use Rattle.std.specs.Prelude.{◌≡◌, ◌<◌, ◌≤◌, ℕ, length, sum_by}
use Rattle.std.proofs.Common.{arith, sym, ap, ◌∙◌, get_or}
use Rattle.std.proofs.lemmas.Bool.Decides.{nat_tests}
use Rattle.std.proofs.lemmas.List.{take_all}
use Rattle.std.proofs.lemmas.List.Sums.{sum_by_more}
use Rattle.ir_worker.specs.declared.node.Node.{Node}
use Rattle.ir_control.specs.Parts.{node_number}
use Rattle.ir_control.specs.Slots.{hit}
use Rattle.ir_control.proofs.report.has_node.Goals as goal

-- a node of another number does not count
other : (n : Node) (u v : ℕ) → v ≡ n.index → (v ≡ u → ⊥) → hit node_number u n ≡ 0
other n u v is apart = grind (arith, nat_tests)

pub loop-k-preserved : goal.loop-k-preserved
loop-k-preserved c =
    let n = c.len-k-end.ensures in
    let ok = c.args.nodes.now.ok in
    let test = c.loop-k-test.true in
    let lt : c.loop-k.k < length c.args.nodes.now.items = omega (arith, n, ok, test) in
    let more = sum_by_more (hit node_number c.args.u) c.args.nodes.now.items c.loop-k.k c.index-in-loop-k.result.now lt in
    let here = other (get_or c.args.nodes.now.items c.loop-k.k c.index-in-loop-k.result.now) c.args.u c.index-in-loop-k-2.result (c.index-in-loop-k-2.ensures ∙ ap (λ (n : Node). n.index) c.index-in-loop-k.ensures) c.if-index-u-2.false in
    let was = c.loop-k.invariant in
    omega (arith, more, here, was)

pub returns-clause-absent : goal.returns-clause-absent
returns-clause-absent c = λ e.
    (let n = c.len-k-end.ensures in
    let ok = c.args.nodes.now.ok in
    let test = c.loop-k-test.false in
    let least : length c.args.nodes.now.items ≤ c.loop-k.k = omega (arith, n, ok, test) in
    sym (ap (sum_by (hit node_number c.args.u)) (take_all c.loop-k.k c.args.nodes.now.items least)) ∙ c.loop-k.invariant)

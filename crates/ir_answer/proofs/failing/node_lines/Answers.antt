use Rattle.std.proofs.Common.{◌≡◌, ◌∙◌, ℕ, Ok, Err, map, ap, subst, length, arith}
use Rattle.std.proofs.lemmas.List.{length-map}
use Rattle.std.specs.Prelude.{IfOk}
use Rattle.std.specs.List.{AllZip, range_with_len}
use Rattle.std.specs.declared.result.Result.{Result}
use Rattle.std.specs.declared.alloc.AllocError.{AllocError}
use Rattle.ir_plan.proofs.Crews.{by_closure, of_closure}
use Rattle.ir_plan.specs.declared.crew.NodeText.{NodeText}
use Rattle.ir_model.specs.Topology.{Topology, node_count}
use Rattle.ir_figures.specs.Failures.{IsNodeLine}
use Rattle.ir_figures.specs.Made.{bytes_made}
use Rattle.ir_figures.proofs.FailureLines.{texts_made}
use Rattle.ir_answer.proofs.failing.node_lines.OwnLists.{same-1-1}
use Rattle.ir_answer.proofs.failing.node_lines.Goals as goal

-- what holds of the value in an `Ok`
of_ok : {T E : Type 0} (r : Result T E) (P R : T → Type 0) → IfOk r P → ((v : T) → P v → R v) → IfOk r R
of_ok (Ok v) P R h f = f v h
of_ok (Err e) P R h f = tt

pub returns : goal.returns
returns g c =
    let s = c.args.plan.now in
    let P : ℕ → Result NodeText AllocError → Type 0 = λ k one. IfOk one (λ (made : NodeText). IsNodeLine c.args.graph.now s c.args.kind c.args.order c.args.other.now k (bytes_made made)) in
    of_ok c.node_texts.result _ _ c.node_texts.ensures
    (λ v zipped. texts_made (λ k one. IsNodeLine c.args.graph.now s c.args.kind c.args.order c.args.other.now k (bytes_made one)) 0 _ v.items
    (subst (λ (n : ℕ). AllZip P (range_with_len 0 n) (map Ok v.items)) c.nodes.ensures.count (by_closure NodeText _ _ (same-1-1 c.node_texts-arg-2-1.given) _ _ _ zipped)))

pub node_texts-requires-clause-each : goal.node_texts-requires-clause-each
node_texts-requires-clause-each g c =
    let graph = c.args.graph.now in
    let count : node_count c.args.plan.now.topology ≡ length graph = ap node_count c.requires.over ∙ length-map graph _ in
    let nodes = c.nodes.ensures.count in
    of_closure NodeText _ _ (same-1-1 c.node_texts-arg-2-1.given) _ c.nodes.result (λ k lt. (omega (arith, lt, count, nodes), c.requires.read, c.requires.over, c.requires.other))

use Rattle.std.proofs.Common.{◌≡◌, ◌∙◌, ℕ, Ok, Err, map, ap, subst, length, arith}
use Rattle.std.specs.Prelude.{IfOk}
use Rattle.std.specs.List.{AllZip, range_with_len}
use Rattle.std.specs.declared.result.Result.{Result}
use Rattle.std.specs.declared.alloc.AllocError.{AllocError}
use Rattle.ir_plan.proofs.Crews.{by_closure, of_closure}
use Rattle.ir_plan.specs.declared.crew.NodeText.{NodeText}
use Rattle.ir_model.specs.Graph.{names}
use Rattle.ir_model.specs.Topology.{Topology}
use Rattle.ir_figures.specs.Failures.{IsLinkLine}
use Rattle.ir_figures.specs.Made.{bytes_made}
use Rattle.ir_figures.proofs.FailureLines.{texts_made}
use Rattle.ir_figures.proofs.failures.lines_by.OwnLists.{same-1-1}
use Rattle.ir_figures.proofs.failures.lines_by.Goals as goal

-- what holds of the value in an `Ok`
of_ok : {T E : Type 0} (r : Result T E) (P R : T → Type 0) → IfOk r P → ((v : T) → P v → R v) → IfOk r R
of_ok (Ok v) P R h f = f v h
of_ok (Err e) P R h f = tt

pub returns : goal.returns
returns g c =
    let s = c.args.plan.now in
    let nodes = names c.args.graph.now in
    let P : ℕ → Result NodeText AllocError → Type 0 = λ l one. IfOk one (λ (made : NodeText). IsLinkLine nodes s c.args.order c.args.other.now l (bytes_made made)) in
    let count : c.links.result ≡ length s.topology.links = c.links.ensures.count ∙ ap (λ (net : Topology). length net.links) c.topology.ensures in
    of_ok c.node_texts.result _ _ c.node_texts.ensures
    (λ v zipped. texts_made (λ l one. IsLinkLine nodes s c.args.order c.args.other.now l (bytes_made one)) 0 _ v.items
    (subst (λ (n : ℕ). AllZip P (range_with_len 0 n) (map Ok v.items)) count (by_closure NodeText _ _ (same-1-1 c.node_texts-arg-2-1.given) _ _ _ zipped)))

pub node_texts-requires-clause-each : goal.node_texts-requires-clause-each
node_texts-requires-clause-each g c =
    let s = c.args.plan.now in
    let count : c.links.result ≡ length s.topology.links = c.links.ensures.count ∙ ap (λ (net : Topology). length net.links) c.topology.ensures in
    of_closure NodeText _ _ (same-1-1 c.node_texts-arg-2-1.given) _ c.links.result (λ l lt. (omega (arith, lt, count), c.requires.nodes, c.requires.over))

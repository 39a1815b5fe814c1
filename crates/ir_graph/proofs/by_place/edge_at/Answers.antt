use Rattle.std.proofs.Common.{◌<◌, ◌∙◌, [], refl, sym, ap, arith, length, slice_get, take}
use Rattle.std.proofs.lemmas.List.{length-map, drop_all}
use Rattle.std.proofs.lemmas.Option.{none-some, slice_get-get_or}
use Rattle.ir_model.specs.Graph.{Name, Neighbors, names, edges_after}
use Rattle.ir_graph.specs.View.{rows_view}
use Rattle.ir_graph.proofs.Views.{length-rows_view}
use Rattle.ir_graph.proofs.Edges.{edge_here, edge_later}
use Rattle.ir_graph.proofs.by_place.edge_at.Goals as goal

pub returns-in-Ok : goal.returns-in-Ok
returns-in-Ok c =
    let g = rows_view c.args.rows.now in
    sym (c.loop-node.invariant.same ∙ edge_here g c.loop-node.node c.in_ok-name.name.now (sym c.in_ok-name.ensures) c.loop-node.left (c.in-Ok.other.now, c.in-Ok.weight) c.in-Ok.ensures)

pub loop-node-preserved : goal.loop-node-preserved
loop-node-preserved c =
    let g = rows_view c.args.rows.now in
    record {
      same = c.loop-node.invariant.same ∙ edge_later g c.loop-node.node c.in_ok-name.name.now (sym c.in_ok-name.ensures) c.loop-node.left c.in-Err.rest c.in-Err.ensures;
      end = c.loop-node.invariant.end;
    }

pub loop-node-init : goal.loop-node-init
loop-node-init c = record { same = refl; end = c.len-node-end.ensures.len ∙ sym (length-rows_view c.args.rows.now) }

pub later_edge-requires : goal.later_edge-requires
later_edge-requires c =
    let before = c.loop-node-test.true in
    let end = c.loop-node.invariant.end in
    omega (arith, before, end)

pub returns-in_err-name : goal.returns-in_err-name
returns-in_err-name c =
    let g = rows_view c.args.rows.now in
    let before = c.loop-node-test.true in
    let end = c.loop-node.invariant.end in
    let within : c.loop-node.node < length (names g) = omega (arith, before, end, length-map g (λ (r : Name × Neighbors). r.0)) in
    absurd (none-some _ (c.in_err-name.ensures ∙ slice_get-get_or (names g) c.loop-node.node [] within))

pub returns : goal.returns
returns c =
    let g = rows_view c.args.rows.now in
    let past = c.loop-node-test.false in
    let end = c.loop-node.invariant.end in
    sym (c.loop-node.invariant.same ∙ ap (λ h. slice_get (edges_after (take c.loop-node.node (names g)) h) c.loop-node.left) (drop_all c.loop-node.node g (omega (arith, past, end))))

use Rattle.std.proofs.Common.{◌≤◌, ◌∙◌, ◌++◌, length, sym, ap, append-nil, arith}
use Rattle.std.proofs.lemmas.List.{take_all}
use Rattle.ir_model.specs.Graph.{neighbors}
use Rattle.ir_adjlist.specs.Writing.{node_edges}
use Rattle.ir_adjlist.proofs.Writing.{node_edges-one, put_more}
use Rattle.ir_adjlist.proofs.library.put_edges.Goals as goal

pub loop-place-preserved : goal.loop-place-preserved
loop-place-preserved c =
    let g = c.args.graph.now in
    let x = c.args.source.now in
    put_more c.args.text.now.items _ _ c.loop-place.text.items c.put_edge_at.new.text.items c.loop-place.invariant c.in_ok-put_edge_at.ensures
    ∙ ap (λ t. c.args.text.now.items ++ t) (sym (node_edges-one g c.args.count x (neighbors g x) c.loop-place.place))

pub loop-place-init : goal.loop-place-init
loop-place-init c = sym (append-nil c.args.text.now.items)

pub returns : goal.returns
returns c =
    let links = neighbors c.args.graph.now c.args.source.now in
    let all : length links ≤ c.loop-place.place = omega arith in
    c.loop-place.invariant ∙ ap (λ es. c.args.text.now.items ++ node_edges c.args.graph.now c.args.count c.args.source.now es) (take_all c.loop-place.place links all)

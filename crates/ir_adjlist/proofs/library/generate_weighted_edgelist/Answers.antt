use Rattle.std.proofs.Common.{◌≤◌, ◌+◌, ◌++◌, ap, length, sym, subst, arith}
use Rattle.ir_adjlist.specs.RoundTrip.{IsReadAsEdgelist}
use Rattle.ir_adjlist.specs.Written.{edgelist_text}
use Rattle.ir_adjlist.proofs.EdgelistRead.{edgelist_read}
use Rattle.ir_adjlist.proofs.Writing.{edges_text, edges_text-one, put_through, edges_written}
use Rattle.ir_adjlist.proofs.library.generate_weighted_edgelist.Goals as goal

pub loop-place-preserved : goal.loop-place-preserved
loop-place-preserved c =
    let g = c.args.graph.now in
    let p = c.loop-place.place in
    put_through c.loop-place.text.items _ c.put_edges_at.new.text.items (edges_text g p) (edges_text g (p + 1)) (edgelist_text g) c.in_ok-put_edges_at.ensures
    (edges_text-one g c.number_of_nodes-place-end.ensures.graph.nodes_differ p) c.loop-place.invariant

pub returns-clause-read : goal.returns-clause-read
returns-clause-read c =
    let g = c.args.graph.now in
    let all : length g ≤ c.loop-place.place = omega arith in
    subst (IsReadAsEdgelist g) (sym (edges_written g c.loop-place.place c.loop-place.text.items (edgelist_text g) all c.loop-place.invariant)) (edgelist_read g c.number_of_nodes-place-end.ensures.graph)

pub loop-place-init : goal.loop-place-init
loop-place-init c = ap (λ t. t ++ edges_text c.args.graph.now 0) c.new-text.ensures.items

pub returns-clause-text : goal.returns-clause-text
returns-clause-text c = let all : length c.args.graph.now ≤ c.loop-place.place = omega arith in edges_written c.args.graph.now c.loop-place.place c.loop-place.text.items (edgelist_text c.args.graph.now) all c.loop-place.invariant

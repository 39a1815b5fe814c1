use Rattle.std.proofs.Common.{◌≤◌, ◌+◌, ◌++◌, ap, length, sym, subst, arith}
use Rattle.ir_adjlist.specs.RoundTrip.{IsReadAsAdjlist}
use Rattle.ir_adjlist.specs.Written.{adjlist_text}
use Rattle.ir_adjlist.proofs.AdjlistRead.{adjlist_read}
use Rattle.ir_adjlist.proofs.Writing.{rows_text, rows_text-one, put_through, rows_written}
use Rattle.ir_adjlist.proofs.library.generate_adjlist.Goals as goal

pub loop-place-preserved : goal.loop-place-preserved
loop-place-preserved c =
    let g = c.args.graph.now in
    let p = c.loop-place.place in
    put_through c.loop-place.text.items _ c.put_row_at.new.text.items (rows_text g p) (rows_text g (p + 1)) (adjlist_text g) c.in_ok-put_row_at.ensures
    (rows_text-one g c.number_of_nodes-place-end.ensures.graph.nodes_differ p) c.loop-place.invariant

pub returns-clause-read : goal.returns-clause-read
returns-clause-read c =
    let g = c.args.graph.now in
    let all : length g ≤ c.loop-place.place = omega arith in
    subst (IsReadAsAdjlist g) (sym (rows_written g c.loop-place.place c.loop-place.text.items (adjlist_text g) all c.loop-place.invariant)) (adjlist_read g c.number_of_nodes-place-end.ensures.graph)

pub loop-place-init : goal.loop-place-init
loop-place-init c = ap (λ t. t ++ rows_text c.args.graph.now 0) c.new-text.ensures.items

pub returns-clause-text : goal.returns-clause-text
returns-clause-text c = let all : length c.args.graph.now ≤ c.loop-place.place = omega arith in rows_written c.args.graph.now c.loop-place.place c.loop-place.text.items (adjlist_text c.args.graph.now) all c.loop-place.invariant

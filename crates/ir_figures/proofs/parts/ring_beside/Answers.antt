use Rattle.std.proofs.Common.{arith}
use Rattle.ir_figures.specs.Arcs.{marks_of}
use Rattle.ir_figures.specs.Waits.{whole_number, WaitsBeside}
use Rattle.ir_figures.proofs.InParts.{beside_leads}
use Rattle.ir_figures.proofs.Marks.{marks_len}
use Rattle.ir_figures.proofs.Results.{ok_none_then, ok_some_then}
use Rattle.ir_figures.proofs.Rings.{digraph, without_ring, waiting}
use Rattle.ir_figures.proofs.parts.ring_beside.Goals as goal

pub ring_in-requires-clause-digraph : goal.ring_in-requires-clause-digraph
ring_in-requires-clause-digraph c =
    let s = c.args.plan.now in
    let w = c.args.held.now in
    rw (c.as_slice-begins.ensures.value, c.as_slice-2.ensures.value)
    (digraph s.topology c.invariant.ensures.plan.topology w.exits.first.items w.exits.nodes.items c.requires.held.exits (WaitsBeside s (whole_number c.args.without) c.args.part.now) w.links.begins.items (marks_of c.in_ok-marks.marks.items) c.in_ok-marks.ensures)

pub ring_in-requires-clause-every : goal.ring_in-requires-clause-every
ring_in-requires-clause-every c =
    rw (c.as_slice.ensures.value, c.as_slice-2.ensures.value) (omega (arith, c.requires.held.exits.all, c.in_ok-marks.ensures.every_row, marks_len c.in_ok-marks.marks.items))

pub returns-clause-acyclic : goal.returns-clause-acyclic
returns-clause-acyclic c =
    let s = c.args.plan.now in
    let w = c.args.held.now in
    let told = rw (c.as_slice-begins.ensures.value, c.as_slice-2.ensures.value) at c.ring_in.ensures.acyclic in
    ok_none_then c.ring_in.result
    (without_ring s.topology c.invariant.ensures.plan.topology w.exits.first.items w.exits.nodes.items c.requires.held.exits (WaitsBeside s (whole_number c.args.without) c.args.part.now) w.links.begins.items (marks_of c.in_ok-marks.marks.items) c.in_ok-marks.ensures
    (beside_leads s c.args.part.now c.invariant.ensures.plan c.invariant-2.ensures.plan (whole_number c.args.without)))
    told

pub returns-clause-ring : goal.returns-clause-ring
returns-clause-ring c =
    let s = c.args.plan.now in
    let w = c.args.held.now in
    let told = rw (c.as_slice.ensures.value, c.as_slice-begins.ensures.value, c.as_slice-2.ensures.value) at c.ring_in.ensures.ring in
    ok_some_then c.ring_in.result
    (λ named is.
    waiting s.topology c.invariant.ensures.plan.topology w.exits.first.items w.exits.nodes.items c.requires.held.exits (WaitsBeside s (whole_number c.args.without) c.args.part.now) w.links.begins.items (marks_of c.in_ok-marks.marks.items) c.in_ok-marks.ensures
    is.0 named.items is.1 is.2)
    told

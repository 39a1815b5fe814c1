use Rattle.std.proofs.Common.{arith}
use Rattle.ir_figures.specs.Arcs.{marks_of}
use Rattle.ir_figures.specs.Waits.{Waits}
use Rattle.ir_figures.proofs.Marks.{marks_len}
use Rattle.ir_figures.proofs.Results.{ok_none_then, ok_some_then}
use Rattle.ir_figures.proofs.Rings.{waits_leads, digraph, without_ring, waiting}
use Rattle.ir_figures.proofs.waits.ring_of_waits.Goals as goal

pub ring_in-requires-clause-digraph : goal.ring_in-requires-clause-digraph
ring_in-requires-clause-digraph c =
    let s = c.args.plan.now in
    let w = c.args.waiting.now in
    rw (c.as_slice-2.ensures.value, c.as_slice-3.ensures.value)
    (digraph s.topology c.invariant.ensures.plan.topology w.exits.first.items w.exits.nodes.items c.requires.exits (Waits s) w.links.begins.items (marks_of w.links.marks.items) c.requires.links)

pub ring_in-requires-clause-every : goal.ring_in-requires-clause-every
ring_in-requires-clause-every c =
    let w = c.args.waiting.now in
    rw (c.as_slice.ensures.value, c.as_slice-3.ensures.value) (omega (arith, c.requires.exits.all, c.requires.links.every_row, marks_len w.links.marks.items))

pub returns-clause-acyclic : goal.returns-clause-acyclic
returns-clause-acyclic c =
    let s = c.args.plan.now in
    let w = c.args.waiting.now in
    let told = rw (c.as_slice-2.ensures.value, c.as_slice-3.ensures.value) at c.ring_in.ensures.acyclic in
    ok_none_then c.ring_in.result
    (without_ring s.topology c.invariant.ensures.plan.topology w.exits.first.items w.exits.nodes.items c.requires.exits (Waits s) w.links.begins.items (marks_of w.links.marks.items) c.requires.links (waits_leads s c.invariant.ensures.plan))
    told

pub returns-clause-ring : goal.returns-clause-ring
returns-clause-ring c =
    let s = c.args.plan.now in
    let w = c.args.waiting.now in
    let told = rw (c.as_slice.ensures.value, c.as_slice-2.ensures.value, c.as_slice-3.ensures.value) at c.ring_in.ensures.ring in
    ok_some_then c.ring_in.result
    (λ named is.
    waiting s.topology c.invariant.ensures.plan.topology w.exits.first.items w.exits.nodes.items c.requires.exits (Waits s) w.links.begins.items (marks_of w.links.marks.items) c.requires.links is.0 named.items is.1 is.2)
    told

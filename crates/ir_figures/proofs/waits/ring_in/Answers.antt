use Rattle.std.proofs.Common.{arith}
use Rattle.ir_figures.proofs.Marks.{marks_len}
use Rattle.ir_figures.proofs.waits.ring_in.Goals as goal

pub nodes_of-requires : goal.nodes_of-requires
nodes_of-requires c =
    let some = rw c.in-Some.is at c.in_ok-ring.ensures.ring in
    rw c.as_slice.ensures.value (λ i lt. omega (arith, some.nodes i lt, marks_len c.args.marks.now, c.requires.every))

pub returns-in_default-clause-acyclic : goal.returns-in_default-clause-acyclic
returns-in_default-clause-acyclic c = rw c.in_default.is at c.in_ok-ring.ensures.acyclic

pub returns-clause-ring : goal.returns-clause-ring
returns-clause-ring c =
    let some = rw c.in-Some.is at c.in_ok-ring.ensures.ring in
    let named = rw c.as_slice.ensures.value at c.in_ok-named.ensures in
    (c.in-Some.ring.items, some, named)

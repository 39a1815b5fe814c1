use Rattle.std.proofs.Common.{arith}
use Rattle.ir_figures.specs.Arcs.{marks_of}
use Rattle.ir_figures.proofs.Marks.{marks_len}
use Rattle.ir_figures.proofs.ClosedRings.{ring_closes, all_done}
use Rattle.ir_figures.proofs.search.ring_of.Goals as goal

pub loop-c-init : goal.loop-c-init
loop-c-init c = record {
  search = c.in_ok-search.ensures.search c.args.first.now;
  no_path = c.in_ok-search.ensures.no_path;
  done = λ x lt. absurd (omega (arith, lt));
}

pub returns-clause-acyclic : goal.returns-clause-acyclic
returns-clause-acyclic c =
    let s = c.loop-c.search in
    all_done c.args.first.now (marks_of c.args.leads.now) s.due.items s.numbers.items s.path.items s.total c.loop-c.invariant.search
    (λ x lt. c.loop-c.invariant.done x (omega (arith, lt, marks_len c.args.leads.now, c.loop-c-test.false)))

pub returns-in-Some-clause-ring : goal.returns-in-Some-clause-ring
returns-in-Some-clause-ring c =
    let s = c.visit.new.self in
    let back = rw c.in-Some.is at c.in_ok-d.ensures.back in
    let from = c.in_ok-ring.ensures in
    ring_closes c.args.first.now (marks_of c.args.leads.now) s.due.items s.numbers.items s.path.items c.in_ok-ring.ring.items s.total c.in-Some.d from.0
    c.in_ok-d.ensures.search from.1 from.2 back.arc from.3

-- a ring was found, so that nothing is said of numbers
pub returns-in-Some-clause-acyclic : goal.returns-in-Some-clause-acyclic
returns-in-Some-clause-acyclic c = tt

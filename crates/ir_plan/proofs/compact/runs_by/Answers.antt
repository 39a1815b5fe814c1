use Rattle.ir_plan.specs.Ties.{AreTies}
use Rattle.ir_plan.proofs.Lists.{on_ok}
use Rattle.ir_plan.proofs.CompactRows.{tied_choices, tied_marked}
use Rattle.ir_plan.proofs.compact.runs_by.Goals as goal

pub returns-in-Some-clause-tied : goal.returns-in-Some-clause-tied
returns-in-Some-clause-tied c =
    let net = c.args.topology.now in
    let numbers = c.args.numbering.now in
    let ties : AreTies net numbers.order c.in-Some.ties = rw c.in-Some.is at c.requires.ties in
    on_ok c.marked_runs.result _ (tied_marked net numbers.order numbers.labels c.requires.labels c.args.u c.requires.node c.in-Some.ties.marks ties.marks)

pub returns-in_ok-ways-in-None-clause-tied : goal.returns-in_ok-ways-in-None-clause-tied
returns-in_ok-ways-in-None-clause-tied c =
    let net = c.args.topology.now in
    let numbers = c.args.numbering.now in
    let ok = c.invariant.ensures.topology in
    on_ok c.longest_runs.result _ (tied_choices net ok numbers.order numbers.labels c.requires.labels c.args.u c.in_ok-ways-in-None.ways.weights c.in_ok-ways-in-None.ensures.distances)

pub from-requires : goal.from-requires
from-requires c = record { node = c.requires.node; connected = c.requires.connected }

pub marked_runs-requires : goal.marked_runs-requires
marked_runs-requires c = record { labels = c.requires.labels; ties = rw c.in-Some.is at c.requires.ties; node = c.requires.node }

pub longest_runs-requires : goal.longest_runs-requires
longest_runs-requires c = record {
  labels = c.requires.labels;
  source = c.in_ok-ways-in-None.ensures.source;
  distances = c.in_ok-ways-in-None.ensures.distances;
}

pub returns-in-Some-clause-counts : goal.returns-in-Some-clause-counts
returns-in-Some-clause-counts c = c.marked_runs.ensures.counts

pub returns-in_ok-ways-in-None-clause-counts : goal.returns-in_ok-ways-in-None-clause-counts
returns-in_ok-ways-in-None-clause-counts c = c.longest_runs.ensures.counts

pub returns-in-Some-clause-ports : goal.returns-in-Some-clause-ports
returns-in-Some-clause-ports c = c.marked_runs.ensures.ports

pub returns-in_ok-ways-in-None-clause-ports : goal.returns-in_ok-ways-in-None-clause-ports
returns-in_ok-ways-in-None-clause-ports c = c.longest_runs.ensures.ports

pub returns-in-Some-clause-longest : goal.returns-in-Some-clause-longest
returns-in-Some-clause-longest c = c.marked_runs.ensures.longest

pub returns-in_ok-ways-in-None-clause-longest : goal.returns-in_ok-ways-in-None-clause-longest
returns-in_ok-ways-in-None-clause-longest c = c.longest_runs.ensures.longest

use Rattle.std.proofs.Common.{sym, subst}
use Rattle.ir_model.specs.Topology.{node_count}
use Rattle.ir_trace.specs.Inspect.{AreOver}
use Rattle.ir_trace.proofs.CheckedTrace.{over_from, sound_from, finding_from}
use Rattle.ir_trace.proofs.OneAnswer.{nothing_from, only_from}
use Rattle.ir_trace.proofs.checking.check_trace_by.Goals as goal

pub check_trace_over-requires-clause-plans : goal.check_trace_over-requires-clause-plans
check_trace_over-requires-clause-plans g c =
    subst (AreOver (node_count c.args.topology.now)) (sym c.as_slice.ensures.value) (over_from c.args.topology.now c.args.installs.now c.in_ok-plans.plans.items c.in_ok-plans.ensures)

pub returns-clause-sound : goal.returns-clause-sound
returns-clause-sound g c =
    let fine = rw c.as_slice.ensures.value at c.check_trace_over.ensures.fine in
    sound_from c.args.topology.now c.args.installs.now c.in_ok-plans.plans.items c.in_ok-plans.ensures c.args.trace.now c.check_trace_over.result c.requires.rows fine

pub returns-clause-finding : goal.returns-clause-finding
returns-clause-finding g c =
    let found = rw c.as_slice.ensures.value at c.check_trace_over.ensures.finding in
    finding_from c.args.topology.now c.args.installs.now c.in_ok-plans.plans.items c.in_ok-plans.ensures c.args.trace.now c.check_trace_over.result found

pub returns-clause-nothing : goal.returns-clause-nothing
returns-clause-nothing g c =
    let fine = rw c.as_slice.ensures.value at c.check_trace_over.ensures.fine in
    nothing_from c.args.topology.now c.args.installs.now c.args.trace.now c.requires.rows c.check_trace_over.result
    (sound_from c.args.topology.now c.args.installs.now c.in_ok-plans.plans.items c.in_ok-plans.ensures c.args.trace.now c.check_trace_over.result c.requires.rows fine)

pub returns-clause-only : goal.returns-clause-only
returns-clause-only g c =
    let found = rw c.as_slice.ensures.value at c.check_trace_over.ensures.finding in
    only_from c.args.topology.now c.args.installs.now c.args.trace.now c.requires.rows c.check_trace_over.result
    (finding_from c.args.topology.now c.args.installs.now c.in_ok-plans.plans.items c.in_ok-plans.ensures c.args.trace.now c.check_trace_over.result found)

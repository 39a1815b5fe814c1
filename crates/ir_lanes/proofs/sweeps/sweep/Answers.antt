use Rattle.std.proofs.Common.{◌∙◌, arith, length-set}
use Rattle.ir_lanes.proofs.sweeps.sweep.Goals.{then-forward, else-forward, then-u-nodes+then-waits-u+then-pull, then-u-nodes+then-waits-u+else-pull, else-u-nodes}
use Rattle.ir_lanes.proofs.sweeps.sweep.Goals as goal

pub loop-i-init : goal.loop-i-init
loop-i-init c = record { lanes = c.requires.lanes; waits = c.requires.waits }

pub overflow_sub-place : goal.overflow_sub-place
overflow_sub-place c = omega (arith, c.loop-i-test.true)

pub overflow_sub-place-else-forward : goal.overflow_sub-place-else-forward
overflow_sub-place-else-forward c = omega (arith, c.loop-i-test.true)

pub bounds-list-place : goal.bounds-list-place
bounds-list-place c =
    elim c.if-forward.branch [
      | then-forward w ↦ omega (arith, w.place-is, c.loop-i-test.true)
      | else-forward w ↦ omega (arith, w.place-is, c.loop-i-test.true)
    ]

pub bounds-waits-u : goal.bounds-waits-u
bounds-waits-u c = omega (arith, c.if-u-nodes.true, c.nodes-nodes.ensures.count, c.loop-i.invariant.waits)

pub bounds-waits-u-then-waits-u : goal.bounds-waits-u-then-waits-u
bounds-waits-u-then-waits-u c = omega (arith, c.if-u-nodes.true, c.nodes-nodes.ensures.count, c.loop-i.invariant.waits)

pub pull-requires-clause-unit : goal.pull-requires-clause-unit
pull-requires-clause-unit c = c.requires.unit

pub pull-requires-clause-node : goal.pull-requires-clause-node
pull-requires-clause-node c = omega (arith, c.if-u-nodes.true, c.nodes-nodes.ensures.count)

pub pull-requires-clause-lanes : goal.pull-requires-clause-lanes
pull-requires-clause-lanes c = c.loop-i.invariant.lanes

pub wake-requires-clause-node : goal.wake-requires-clause-node
wake-requires-clause-node c = omega (arith, c.if-u-nodes.true, c.nodes-nodes.ensures.count)

pub wake-requires-clause-waits : goal.wake-requires-clause-waits
wake-requires-clause-waits c = length-set c.loop-i.waits _ _ ∙ c.loop-i.invariant.waits

pub loop-i-preserved : goal.loop-i-preserved
loop-i-preserved c =
    let i = c.loop-i.invariant in
    elim c.if-u-nodes.branch [
      | then-u-nodes+then-waits-u+then-pull w ↦ rw (w.lanes-is, w.waits-is) (record { lanes = w.pull.ensures; waits = w.wake.ensures })
      | then-u-nodes+then-waits-u+else-pull w ↦ rw (w.lanes-is, w.waits-is) (record { lanes = w.pull.ensures; waits = length-set c.loop-i.waits _ _ ∙ i.waits })
      | else-u-nodes w ↦ rw (w.lanes-is, w.waits-is) (record { lanes = i.lanes; waits = i.waits })
    ]

pub returns-clause-lanes : goal.returns-clause-lanes
returns-clause-lanes c = c.loop-i.invariant.lanes

pub returns-clause-waits : goal.returns-clause-waits
returns-clause-waits c = c.loop-i.invariant.waits

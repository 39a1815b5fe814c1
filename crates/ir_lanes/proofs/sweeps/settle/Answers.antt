use Rattle.std.proofs.Common.{ℕ, List, sym, subst, arith}
use Rattle.ir_lanes.specs.Lanes.{AreNear}
use Rattle.ir_lanes.proofs.sweeps.settle.Goals as goal
use Rattle.ir_lanes.proofs.sweeps.settle.Goals.{then-is_mesh+in_ok-order, else-is_mesh+in_ok-order-2}

pub rounds-requires : goal.rounds-requires
rounds-requires c = record {
  unit = c.requires.unit;
  lanes = c.requires.lanes;
  waits = omega (arith, c.as_mut_slice-waits.ensures.len, c.in_ok-waits.ensures.len, c.nodes-nodes.ensures.count);
}

pub turns-requires : goal.turns-requires
turns-requires c = record {
  unit = c.requires.unit;
  lanes = c.requires.lanes;
  waits = omega (arith, c.as_mut_slice-waits.ensures.len, c.in_ok-waits.ensures.len, c.nodes-nodes.ensures.count);
}

pub by_number-requires : goal.by_number-requires
by_number-requires c = omega (arith, c.nodes-nodes.ensures.count, c.nodes-nodes.ensures.topology.few_nodes)

pub returns : goal.returns
returns c =
    let P : List ℕ → Type 0 = λ ls. AreNear c.args.topology.now ls in
    elim c.if-is_mesh.branch [
      | then-is_mesh+in_ok-order w ↦ subst P (sym w.lanes-is) w.rounds.ensures
      | else-is_mesh+in_ok-order-2 w ↦ subst P (sym w.lanes-is) w.turns.ensures.lanes
    ]

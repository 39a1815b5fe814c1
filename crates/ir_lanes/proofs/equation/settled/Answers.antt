use Rattle.std.proofs.Common.{◌∙◌, ℕ, List, length, drop, sym, subst, arith}
use Rattle.std.proofs.lemmas.List.{take_at}
use Rattle.ir_lanes.specs.Lanes.{AreNear}
use Rattle.ir_lanes.specs.Equation.{AreMet}
use Rattle.ir_lanes.proofs.equation.settled.Goals as goal

pub settle-requires : goal.settle-requires
settle-requires c = record {
  unit = c.requires.unit;
  node = c.requires.node;
  lanes = subst (λ (ls : List ℕ). AreNear c.args.topology.now ls) (sym (c.as_mut_slice.ensures.value ∙ c.in_ok-lanes.ensures.items)) c.requires.starts;
}

pub are_met-requires : goal.are_met-requires
are_met-requires c =
    let now = c.settle.new.lanes in
    let near = c.in_ok-settle.ensures in
    let back = take_at now (drop (length now) c.in_ok-lanes.lanes.items) c.in_ok-lanes.lanes.len
    (omega (arith, near.every, c.requires.starts.every, c.in_ok-lanes.ensures.len)) in
    record {
      unit = c.requires.unit;
      starts = c.requires.starts;
      lanes = subst (λ (ls : List ℕ). AreNear c.args.topology.now ls) (sym (c.as_slice.ensures.value ∙ back)) near;
    }

pub returns-clause-met : goal.returns-clause-met
returns-clause-met c =
    subst (λ (ls : List ℕ). AreMet c.args.topology.now c.args.unit c.args.starts.now ls) c.as_slice.ensures.value (c.are_met.ensures c.if-not-are_met.false)

pub returns-clause-near : goal.returns-clause-near
returns-clause-near c =
    let now = c.settle.new.lanes in
    let near = c.in_ok-settle.ensures in
    let back = take_at now (drop (length now) c.in_ok-lanes.lanes.items) c.in_ok-lanes.lanes.len
    (omega (arith, near.every, c.requires.starts.every, c.in_ok-lanes.ensures.len)) in
    subst (λ (ls : List ℕ). AreNear c.args.topology.now ls) (sym back) near

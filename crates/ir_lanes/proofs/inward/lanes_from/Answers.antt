use Rattle.std.proofs.Common.{◌++◌, ◌∙◌, ℕ, List, length, take, drop, sym, subst, arith}
use Rattle.std.proofs.lemmas.List.{take_at}
use Rattle.std.proofs.lemmas.Result.{IfOk-from_err}
use Rattle.ir_lanes.specs.Lanes.{AreNear}
use Rattle.ir_lanes.proofs.inward.lanes_from.Goals as goal

pub near_ends-requires-clause-sixteen : goal.near_ends-requires-clause-sixteen
near_ends-requires-clause-sixteen c = c.requires.sixteen

pub near_ends-requires-clause-nodes : goal.near_ends-requires-clause-nodes
near_ends-requires-clause-nodes c = c.requires.nodes

pub near_ends-requires-clause-near : goal.near_ends-requires-clause-near
near_ends-requires-clause-near c =
    subst (λ (ls : List ℕ). AreNear c.args.topology.now ls) (sym (c.as_mut_slice.ensures.value ∙ c.in_ok-lanes.ensures.items)) c.requires.starts

pub bounds-ends : goal.bounds-ends
bounds-ends c = omega (arith, c.requires.sixteen)

pub settle-requires-clause-unit : goal.settle-requires-clause-unit
settle-requires-clause-unit c = omega arith

pub settle-requires-clause-node : goal.settle-requires-clause-node
settle-requires-clause-node c = c.requires.nodes 8 (omega arith)

pub settle-requires-clause-lanes : goal.settle-requires-clause-lanes
settle-requires-clause-lanes c =
    let now = c.near_ends.new.lanes in
    let near = c.near_ends.ensures in
    let back = take_at now (drop (length now) c.in_ok-lanes.lanes.items) c.in_ok-lanes.lanes.len (omega (arith, near.every, c.requires.starts.every, c.in_ok-lanes.ensures.len)) in
    subst (λ (ls : List ℕ). AreNear c.args.topology.now ls) (sym (c.as_mut_slice-2.ensures.value ∙ back)) near

pub returns : goal.returns
returns c =
    let before = c.near_ends.new.lanes in
    let now = c.settle.new.lanes in
    let near = c.in_ok-settle.ensures in
    let len : ℕ = c.in_ok-lanes.lanes.len in
    let old = take len (before ++ drop (length before) c.in_ok-lanes.lanes.items) in
    let back = take_at now (drop (length now) old) len (omega (arith, near.every, c.requires.starts.every, c.in_ok-lanes.ensures.len)) in
    subst (λ (ls : List ℕ). AreNear c.args.topology.now ls) (sym back) near

pub returns-in_err-lanes : goal.returns-in_err-lanes
returns-in_err-lanes c = IfOk-from_err c.from_residual.result _ c.from_residual.ensures.0

pub returns-in_err-settle : goal.returns-in_err-settle
returns-in_err-settle c = IfOk-from_err c.from_residual-in_err-settle.result _ c.from_residual-in_err-settle.ensures.0

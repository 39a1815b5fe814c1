use Rattle.std.proofs.Common.{◌/◌, ◌∙◌, sym, subst, arith}
use Rattle.ir_bounds.specs.Bounds.{held_lists}
use Rattle.ir_bounds.specs.Near.{AreNearAt}
use Rattle.ir_bounds.proofs.Numbers.{lists_length}
use Rattle.ir_bounds.proofs.Parts.{read_list, near_of}
use Rattle.ir_bounds.proofs.detours.LandmarkBounds.part.Goals as goal

pub begin_after-requires : goal.begin_after-requires
begin_after-requires c =
    let self = c.args.self.now in
    let are = c.requires.bounds in
    let e = lists_length self.near.items in
    let held = read_list self.near.items (c.args.u / 16) c.index.result.now (omega (arith, e, c.requires.node, are.near.enough)) c.index.ensures ∙ sym c.as_slice-list.ensures.value in
    (near_of c.args.topology.now self.owners.landmarks.items self.stretch (held_lists self.near.items) are.near c.args.u c.requires.node c.as_slice-list.result.now held).0

pub returns : goal.returns
returns c =
    let self = c.args.self.now in
    let are = c.requires.bounds in
    let e = lists_length self.near.items in
    let held = read_list self.near.items (c.args.u / 16) c.index.result.now (omega (arith, e, c.requires.node, are.near.enough)) c.index.ensures ∙ sym c.as_slice-list.ensures.value in
    subst (AreNearAt c.args.topology.now self.owners.landmarks.items self.stretch c.args.u c.as_slice-list.result.now) (sym c.begin_after.ensures)
    (near_of c.args.topology.now self.owners.landmarks.items self.stretch (held_lists self.near.items) are.near c.args.u c.requires.node c.as_slice-list.result.now held).1

use Rattle.std.proofs.Common.{arith, sym, ap, ◌∙◌, length}
use Rattle.ir_core.specs.Record.{Record, stamp_of}
use Rattle.ir_core.specs.World.{World}
use Rattle.ir_core.specs.Setting.{nodes_of}
use Rattle.ir_core.proofs.Routed.{present_stretch}
use Rattle.ir_core.proofs.Keeps.{held_in, in_hand_of, held_read}
use Rattle.ir_core.proofs.world.World.bound_for.Goals as goal

pub index-record-requires : goal.index-record-requires
index-record-requires c = omega (arith, c.self.inside.records.ok.0, held_in _ _ c.self.view_is c.self.invariant.world c.args.node c.args.held c.requires)

pub returns-clause-stamp : goal.returns-clause-stamp
returns-clause-stamp c =
    c.stamp.ensures ∙ ap (λ (r : Record). stamp_of r) (sym (held_read _ _ c.self.view_is c.self.invariant.world c.args.node c.args.held c.requires c.index-record.result.now c.index-record.ensures))

pub returns-clause-dest : goal.returns-clause-dest
returns-clause-dest c =
    c.destination.ensures ∙ ap (λ (r : Record). r.dest) (sym (held_read _ _ c.self.view_is c.self.invariant.world c.args.node c.args.held c.requires c.index-record.result.now c.index-record.ensures))

pub returns-clause-left : goal.returns-clause-left
returns-clause-left c =
    let limit = ap (λ (s : World). s.opening.restamps) c.self.view_is in
    let had = ap (λ (r : Record). length r.restamps) (held_read _ _ c.self.view_is c.self.invariant.world c.args.node c.args.held c.requires c.index-record.result.now c.index-record.ensures) in
    omega (arith, c.saturating_sub-left.ensures, c.restamp_count.ensures, limit, had)

pub returns-clause-above : goal.returns-clause-above
returns-clause-above c =
    let p = in_hand_of _ _ c.self.view_is c.self.invariant.world c.args.node c.args.held c.requires c.index-record.result.now c.index-record.ensures in
    let st = present_stretch _ _ c.self.invariant.world.plans.each c.index-record.result.now p.packet.routed in
    omega (arith, c.stamp.ensures, st.epoch_above)

pub returns-clause-within : goal.returns-clause-within
returns-clause-within c =
    let p = in_hand_of _ _ c.self.view_is c.self.invariant.world c.args.node c.args.held c.requires c.index-record.result.now c.index-record.ensures in
    let st = present_stretch _ _ c.self.invariant.world.plans.each c.index-record.result.now p.packet.routed in
    let n = ap (λ (s : World). length s.plans) c.self.view_is in
    omega (arith, c.stamp.ensures, st.epoch_in, n)

pub returns-clause-dest_in : goal.returns-clause-dest_in
returns-clause-dest_in c =
    let p = in_hand_of _ _ c.self.view_is c.self.invariant.world c.args.node c.args.held c.requires c.index-record.result.now c.index-record.ensures in
    let st = present_stretch _ _ c.self.invariant.world.plans.each c.index-record.result.now p.packet.routed in
    let n = ap (λ (s : World). nodes_of s.opening) c.self.view_is in
    omega (arith, c.destination.ensures, st.dest_in, n)

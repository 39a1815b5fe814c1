use Rattle.std.proofs.Common.{arith, refl, ◌∙◌}
use Rattle.ir_core.proofs.Keeps.{plan_known, label_back, open_read, open_leads}
use Rattle.ir_core.proofs.world.World.open_verdict.Goals as goal

pub label_of-address-requires : goal.label_of-address-requires
label_of-address-requires c =
    let t = plan_known c.args.self.now _ refl c.invariant.ensures.world c.args.stamp c.plan_of-plan.result.now c.plan_of-plan.ensures in
    omega (arith, t.1.nodes, c.requires.dest_in)

pub judge-requires-clause-at_in : goal.judge-requires-clause-at_in
judge-requires-clause-at_in c =
    let t = plan_known c.args.self.now _ refl c.invariant.ensures.world c.args.stamp c.plan_of-plan.result.now c.plan_of-plan.ensures in
    omega (arith, t.1.nodes, c.requires.node_in)

pub judge-requires-clause-address_in : goal.judge-requires-clause-address_in
judge-requires-clause-address_in c =
    let t = plan_known c.args.self.now _ refl c.invariant.ensures.world c.args.stamp c.plan_of-plan.result.now c.plan_of-plan.ensures in
    (label_back _ c.plan_of-plan.result.now t.1 c.args.dest c.label_of-address.result (omega (arith, c.requires.dest_in)) c.label_of-address.ensures).0

pub returns-clause-value : goal.returns-clause-value
returns-clause-value c =
    open_read c.args.self.now _ refl c.invariant.ensures.world c.args.node c.args.way c.args.stamp c.args.dest c.plan_of-plan.result.now c.board-board.result c.judge.result c.label_of-address.result
    c.requires.dest_in c.plan_of-plan.ensures (c.board-board.ensures ∙ c.seen.ensures.value) c.label_of-address.ensures c.judge.ensures

pub returns-clause-leads : goal.returns-clause-leads
returns-clause-leads c =
    open_leads c.args.self.now _ refl c.invariant.ensures.world c.args.node c.args.way c.args.stamp c.args.dest c.judge.result c.requires.node_in c.requires.dest_in (returns-clause-value c)

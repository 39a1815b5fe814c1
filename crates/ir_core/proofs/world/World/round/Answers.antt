use Rattle.std.proofs.Common.{Bool, sym, subst, ◌+◌}
use Rattle.ir_core.proofs.Rounds.{RoundSo, round_none, round_more, round_all}
use Rattle.ir_core.proofs.world.World.round.Goals as goal

pub loop-node-preserved : goal.loop-node-preserved
loop-node-preserved c =
    subst (λ (b : Bool). RoundSo c.args.self.now (c.loop-node.node + 1) b c.visit-sent.new.self) (sym c.either-acted.ensures)
    (round_more c.args.self.now c.loop-node.self c.visit-sent.new.self c.loop-node.node c.loop-node.acted c.visit-sent.result c.loop-node.invariant c.visit-sent.ensures.moves c.visit-sent.ensures.quiet)

pub returns-clause-moves : goal.returns-clause-moves
returns-clause-moves c =
    (round_all c.args.self.now c.loop-node.self c.loop-node.node c.nodes-nodes.result c.loop-node.acted c.loop-node.invariant c.nodes-nodes.ensures.count c.loop-node-test.false c.loop-node.auto.node-end).0

pub returns-clause-quiet : goal.returns-clause-quiet
returns-clause-quiet c =
    (round_all c.args.self.now c.loop-node.self c.loop-node.node c.nodes-nodes.result c.loop-node.acted c.loop-node.invariant c.nodes-nodes.ensures.count c.loop-node-test.false c.loop-node.auto.node-end).1

pub loop-node-init : goal.loop-node-init
loop-node-init c = round_none c.args.self.now

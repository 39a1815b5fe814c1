use Rattle.std.proofs.Common.{arith}
use Rattle.ir_epochs.specs.Handles.{reader_board, writer_board}
use Rattle.ir_worker.specs.declared.node.Node.{Node}
use Rattle.ir_live_tests.proofs.Kept.{nodes_set, board_set}
use Rattle.ir_live_tests.proofs.by_hand.ByHand.turn.Goals as goal

pub invariant_of-self : goal.invariant_of-self
invariant_of-self g c =
    let old = c.args.self.now.kept in
    let within = c.if-at-len.false in
    let len = c.len.ensures in
    record {
      kept = record {
        nodes = nodes_set c.args.self.now.net c.args.self.now.parts.nodes.items old.nodes c.args.at c.index_mut-node.result.now c.turned.new.node (omega (arith, within, len)) c.index_mut-node.ensures.value c.turned.ensures;
        injector = old.injector;
        boards = board_set (λ (n : Node). reader_board n.reader) (writer_board c.args.self.now.parts.controller.writer) c.args.self.now.parts.nodes.items c.args.at c.index_mut-node.result.now c.turned.new.node (omega (arith, within, len)) c.index_mut-node.ensures.value c.turned.ensures.reader old.boards;
        controller = old.controller;
      };
    }

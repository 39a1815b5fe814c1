use Rattle.std.proofs.Common.{arith}
use Rattle.ir_epochs.specs.Handles.{reader_board, writer_board}
use Rattle.ir_worker.specs.declared.node.Node.{Node}
use Rattle.ir_live_tests.proofs.Kept.{nodes_left, boards_left, away_node, away_board, away_apart}
use Rattle.ir_live_tests.proofs.by_hand.ByHand.take_away.Goals as goal

pub invariant_of-self : goal.invariant_of-self
invariant_of-self g c =
    let old = c.args.self.now.kept in
    let within = c.if-at-len.false in
    let len = c.len.ensures in
    record {
      kept = record {
        nodes = nodes_left c.args.self.now.net c.args.self.now.parts.nodes.items old.nodes c.args.at c.remove.result c.remove.new.self.items (omega (arith, within, len)) c.remove.ensures.items;
        injector = old.injector;
        boards = boards_left (λ (n : Node). reader_board n.reader) (writer_board c.args.self.now.parts.controller.writer) c.args.self.now.parts.nodes.items c.args.at c.remove.new.self.items (omega (arith, within, len)) c.remove.ensures.items old.boards;
        controller = old.controller;
      };
    }

pub returns-clause-away : goal.returns-clause-away
returns-clause-away g c =
    let old = c.args.self.now.kept in
    let within = c.if-at-len.false in
    let len = c.len.ensures in
    record {
      node = away_node c.args.self.now.net c.args.self.now.parts.nodes.items old.nodes c.args.at c.remove.result (omega (arith, within, len)) c.remove.ensures.value;
      board = away_board (λ (n : Node). reader_board n.reader) (writer_board c.args.self.now.parts.controller.writer) c.args.self.now.parts.nodes.items c.args.at c.remove.result (omega (arith, within, len)) c.remove.ensures.value old.boards;
      apart = away_apart c.args.self.now.net c.args.self.now.parts.nodes.items old.nodes c.args.at c.remove.result c.remove.new.self.items (omega (arith, within, len)) c.remove.ensures.value c.remove.ensures.items;
    }

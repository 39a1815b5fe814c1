use Rattle.std.specs.Prelude.{◌≡◌}
use Rattle.ir_epochs.specs.Handles.{reader_board, writer_board}
use Rattle.ir_worker.specs.declared.node.Node.{Node}
use Rattle.ir_live_tests.proofs.Kept.{nodes_pushed, all_pushed}
use Rattle.ir_live_tests.proofs.by_hand.ByHand.bring_back.Goals as goal

pub invariant_of-self : goal.invariant_of-self
invariant_of-self g c =
    let old = c.args.self.now.kept in
    record {
      kept = record {
        nodes = nodes_pushed c.args.self.now.net c.args.self.now.parts.nodes.items old.nodes c.args.node _ c.push.new.self.items c.push.ensures.items c.requires.node c.requires.apart;
        injector = old.injector;
        boards = all_pushed (λ (n : Node). reader_board n.reader ≡ writer_board c.args.self.now.parts.controller.writer) c.args.self.now.parts.nodes.items c.args.node _ c.push.new.self.items c.push.ensures.items old.boards c.requires.board;
        controller = old.controller;
      };
    }

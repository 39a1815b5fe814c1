-- Parts of a net that move by hand, and a node that was taken away from them.
use Rattle.std.specs.Prelude.{◌≡◌, All, sum_by}
use Rattle.ir_epochs.specs.Handles.{reader_board, writer_board}
use Rattle.ir_worker.specs.declared.node.Node.{Node}
use Rattle.ir_control.specs.declared.net.Net.{Net}
use Rattle.ir_control.specs.declared.net.Parts.{Parts}
use Rattle.ir_control.specs.Parts.{IsNodeOf, IsInjectorOf, AreNodesOf, node_number}
use Rattle.ir_control.specs.Slots.{hit}

module _ {R : Type 0} where
  -- nodes of the net, no two of one number, which read the controller's board; and the net's injector and controller
  pub record ArePartsOf (net : Net) (p : Parts R) : Type 0 where
    pub nodes : AreNodesOf net p.nodes.items
    pub injector : IsInjectorOf net p.injector
    pub boards : All (λ n. reader_board n.reader ≡ writer_board p.controller.writer) p.nodes.items
    pub controller : p.controller.opening ≡ net.opening

  -- a node of the net that reads the controller's board and is not among the parts
  pub record IsAway (net : Net) (p : Parts R) (n : Node) : Type 0 where
    pub node : IsNodeOf net n
    pub board : reader_board n.reader ≡ writer_board p.controller.writer
    pub apart : sum_by (hit node_number n.index) p.nodes.items ≡ 0

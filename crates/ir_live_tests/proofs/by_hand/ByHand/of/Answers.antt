use Rattle.ir_model.specs.Topology.{node_count}
use Rattle.ir_control.specs.declared.net.Parts.{Parts}
use Rattle.ir_control.specs.Parts.{AreFreshParts}
use Rattle.ir_control.proofs.Returned.{first_apart}
use Rattle.ir_live_tests.proofs.Kept.{if_some}
use Rattle.ir_live_tests.proofs.by_hand.ByHand.of.Goals as goal

pub invariant_of-result : goal.invariant_of-result
invariant_of-result g c =
    let parts = c.in-Ok-Some.parts in
    let fresh = if_some (λ (p : Parts g.row.R.Denot). AreFreshParts c.args.net p.nodes.items p.injector p.controller) c.in-Ok-Some.field-0 parts c.in-Ok-Some.field-0-is c.in-Ok-Some.ensures in
    record {
      kept = record {
        nodes = first_apart c.args.net (node_count c.args.net.topology) parts.nodes.items fresh.nodes_are;
        injector = fresh.injector_of;
        boards = fresh.boards;
        controller = fresh.controller_opening;
      };
    }

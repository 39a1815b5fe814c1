use Rattle.std.proofs.Common.{subst, sym}
use Rattle.ir_epochs.specs.declared.registry.Registry.{Registry}
use Rattle.ir_control.specs.Wired.{IsOpening}
use Rattle.ir_control.proofs.net.Net.wired.Goals as goal

pub invariant_of-result : goal.invariant_of-result
invariant_of-result c =
    let wires = c.in_ok-inboxes.ensures in
    record {
      opened = subst (λ (r : Registry). IsOpening r c.args.opening.topology c.args.first) (sym c.in_ok-registry.ensures) c.requires.first;
      inboxes_are = wires.inboxes;
      ways_are = wires.ways;
      offsets_are = wires.offsets;
      few_packets = c.requires.packets;
      few_restamps = c.requires.restamps;
    }

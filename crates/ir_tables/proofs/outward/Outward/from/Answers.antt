use Rattle.std.proofs.Common.{ℕ, List, length, subst}
use Rattle.ir_tables.specs.Keys.{AreWeightsIn, ArePortsIn}
use Rattle.ir_tables.proofs.KeysOut.{keys_distances, keys_ports}
use Rattle.ir_tables.proofs.outward.Outward.from.Goals as goal

pub returns-clause-distances : goal.returns-clause-distances
returns-clause-distances c =
    keys_distances c.args.topology.now c.invariant.ensures.topology c.args.node c.requires.node c.in_ok-keys.keys.items c.in_ok-keys.ensures c.requires.connected c.in_ok-weights.weights.items
    (subst (λ (ks : List ℕ). AreWeightsIn ks c.in_ok-weights.weights.items (length ks)) c.as_slice.ensures.value c.in_ok-weights.ensures)

pub returns-clause-ports : goal.returns-clause-ports
returns-clause-ports c =
    keys_ports c.args.topology.now c.invariant.ensures.topology c.args.node c.requires.node c.in_ok-keys.keys.items c.in_ok-keys.ensures c.requires.connected c.in_ok-ports.ports.items
    (subst (λ (ks : List ℕ). ArePortsIn c.args.node ks c.in_ok-ports.ports.items (length ks)) c.as_slice-2.ensures.value c.in_ok-ports.ensures)

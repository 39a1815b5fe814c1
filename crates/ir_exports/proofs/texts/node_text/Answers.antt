use Rattle.std.proofs.Common.{List, ◌<◌, sym, subst, length}
use Rattle.std.specs.Prelude.{All, IfSome}
use Rattle.ir_model.specs.Topology.{ports_of}
use Rattle.ir_prefix.specs.declared.line.TableLine.{TableLine}
use Rattle.ir_exports.proofs.NodePorts.{ports_in}
use Rattle.ir_exports.proofs.texts.node_text.Goals as goal

pub push_node-requires-clause-ports : goal.push_node-requires-clause-ports
push_node-requires-clause-ports c =
    let s = c.args.plan.now in
    let P : List TableLine → Type 0 = λ table. All (λ (m : TableLine). IfSome m.port (λ p. p < length (ports_of s.topology c.args.u))) table in
    subst P (sym c.as_slice.ensures.value) (ports_in s c.invariant.ensures.plan c.args.u c.in_ok-table.table.items c.requires.node c.in_ok-table.ensures.ports)

-- The node after more turns is the same node.
use Rattle.std.proofs.Common.{◌∙◌}
use Rattle.ir_worker.specs.declared.node.Node.{Node}
use Rattle.ir_worker.specs.Same.{IsSameNode}

pub same_then : (a b d : Node) → IsSameNode a b → IsSameNode b d → IsSameNode a d
same_then a b d p q = record {
  index = q.index ∙ p.index;
  registry = q.registry ∙ p.registry;
  opening = q.opening ∙ p.opening;
  restamps = q.restamps ∙ p.restamps;
  ports = q.ports ∙ p.ports;
  inbox = q.inbox ∙ p.inbox;
  ins = q.ins ∙ p.ins;
  outs = q.outs ∙ p.outs;
  reader = q.reader ∙ p.reader;
}

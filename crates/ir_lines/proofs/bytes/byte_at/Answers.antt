use Rattle.ir_lines.proofs.ByteLemmas.{port_small}
use Rattle.ir_lines.proofs.bytes.byte_at.Goals as goal

pub returns-then-label-labels-clause-byte : goal.returns-then-label-labels-clause-byte
returns-then-label-labels-clause-byte c =
    let is = c.if-label-labels.true in
    port_small c.args.labels c.args.row.now c.args.label c.find.result c.requires.ascending c.requires.ports is (c.find.ensures c.args.labels is)

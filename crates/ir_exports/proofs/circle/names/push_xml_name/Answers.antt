use Rattle.std.proofs.Common.{◌∙◌, ap}
use Rattle.ir_trace.specs.Rows.{is_word}
use Rattle.ir_trace.proofs.ReadLinks.{word_at}
use Rattle.ir_exports.proofs.circle.names.push_xml_name.Goals as goal

pub push_front-requires-clause-word : goal.push_front-requires-clause-word
push_front-requires-clause-word c = ap is_word c.name_of-name.ensures ∙ word_at c.args.graph.now c.invariant.ensures.graph c.args.u c.requires

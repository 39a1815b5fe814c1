use Rattle.std.proofs.Common.{◌∙◌, ap}
use Rattle.ir_trace.specs.Rows.{is_word}
use Rattle.ir_trace.proofs.ReadLinks.{word_at}
use Rattle.ir_show.proofs.quoted.push_escaped_name.Goals as goal

pub push_escaped-requires : goal.push_escaped-requires
push_escaped-requires c = ap is_word c.name_of.ensures ∙ word_at c.args.graph.now c.invariant.ensures.graph c.args.u c.requires

use Rattle.std.proofs.Common.{sym, ap, ◌∙◌, true≢false}
use Rattle.ir_model.specs.Graph.{is_name}
use Rattle.ir_exports.proofs.laws.neighbour_is_not_none.Goals as goal

pub returns : goal.returns
returns c nodes topology u p is same = true≢false (sym is ∙ ap is_name same)

use Rattle.std.proofs.Common.{◌∙◌}
use Rattle.std.proofs.lemmas.Result.{on_err_weaker}
use Rattle.ir_graph.proofs.Views.{truncated}
use Rattle.ir_graph.proofs.rows.add_link.Goals as goal

pub returns-then-is_err-clause-err : goal.returns-then-is_err-clause-err
returns-then-is_err-clause-err c =
    on_err_weaker c.extend_link-result.result (λ h. truncated c.args.rows.now c.extend_link-result.new.rows c.truncate.new.self c.len-before.result c.len-before.ensures.len c.truncate.ensures.entries ∙ h) c.extend_link-result.ensures.err

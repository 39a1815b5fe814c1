use Rattle.std.proofs.Common.{◌∙◌, ◌++◌, [], List, ap}
use Rattle.std.specs.Global.{Vec}
use Rattle.std.proofs.lemmas.List.{flat_map_more}
use Rattle.std.proofs.lemmas.Result.{err_from_is_err_and}
use Rattle.ir_model.specs.Row.{Start}
use Rattle.ir_plan.proofs.batches.joined.Goals as goal

pub loop-batch-init : goal.loop-batch-init
loop-batch-init c = c.in_ok-rows.ensures.items

pub loop-batch-preserved : goal.loop-batch-preserved
loop-batch-preserved c =
    c.in_ok-append.ensures.items ∙ ap (λ (rows : List (List Start)). rows ++ c.in-Some.batch.items) c.loop-batch.invariant
    ∙ flat_map_more (λ (batch : Vec (List Start)). batch.items) [] c.loop-batch.yielded c.in-Some.batch

pub returns-in_err-append : goal.returns-in_err-append
returns-in_err-append c = rw (err_from_is_err_and c.from_residual-in_err-append.result c.from_residual-in_err-append.ensures.1).1 tt

pub returns-in_err-rows : goal.returns-in_err-rows
returns-in_err-rows c = rw (err_from_is_err_and c.from_residual.result c.from_residual.ensures.1).1 tt

use Rattle.std.proofs.Common.{◌∙◌, ◌++◌, List, ap}
use Rattle.std.proofs.lemmas.Result.{IfOk-weaker}
use Rattle.clap.specs.Words.{App, Rule, new_app}
use Rattle.ir_cli.specs.CommandLine.{sub_word, taking}
use Rattle.ir_cli.specs.Taking.{rules_taken, with_taken}
use Rattle.ir_cli.proofs.Table.{table_read, with_rules}
use Rattle.ir_cli.proofs.command.subcommand_of.Goals as goal

pub returns-in-Ok-clause-shape : goal.returns-in-Ok-clause-shape
returns-in-Ok-clause-shape c =
    let choices = c.args.choices in
    let word = sub_word c.args.sub in
    let all = c.taken_by.result.now in
    let rest = c.telling.result.now in
    let own = c.in-Ok.ensures.app ∙ ap (λ (a : App). with_taken choices a all) c.named_command-bare.ensures.app ∙ table_read choices (new_app word) all in
    let read = ap (λ (a : App). with_taken choices a rest) own ∙ table_read choices (with_rules (new_app word) (rules_taken choices all)) rest in
    let rules = ap (λ (told : List Rule). taking word (rules_taken choices all ++ told)) (c.telling.ensures choices) ∙ ap (taking word) (c.taken_by.ensures choices) in
    IfOk-weaker c.with_args-in-Ok.result _ _ (λ made h. ap (λ (a : App). a.top) (h ∙ read) ∙ rules) c.with_args-in-Ok.ensures.app

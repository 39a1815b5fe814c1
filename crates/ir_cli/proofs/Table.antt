-- Tables of arguments, as rules after those that a command has.
use Rattle.std.proofs.Common.{◌≡◌, ◌∙◌, ◌++◌, ◌∷◌, [], List, ap, sym, append_assoc}
use Rattle.std.proofs.lemmas.List.{append-nil}
use Rattle.clap.specs.Words.{App, Rule, with_rule}
use Rattle.ir_cli.specs.declared.options.Choices.{Choices}
use Rattle.ir_cli.specs.declared.options.Taken.{Taken}
use Rattle.ir_cli.specs.Taking.{rule_taken, rules_taken, with_taken}

abbrev pub with_rules : App → List Rule → App
with_rules app rules = record app { top = record app.top { rules = rules } }

-- a table is read as its rules
pub table_read : (choices : Choices) (app : App) (all : List Taken) → with_taken choices app all ≡ with_rules app (app.top.rules ++ rules_taken choices all)
table_read choices app [] = ap (with_rules app) (sym (append-nil app.top.rules))
table_read choices app (taken ∷ all) =
    table_read choices (with_rule app (rule_taken choices taken)) all
    ∙ ap (with_rules app) (append_assoc app.top.rules (rule_taken choices taken ∷ []) (rules_taken choices all))

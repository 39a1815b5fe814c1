use Rattle.std.proofs.Common.{◌∙◌, ap, refl, arith}
use Rattle.clap.specs.Words.{App, app_of, with_subcommand}
use Rattle.ir_cli.specs.CommandLine.{subcommand}
use Rattle.ir_cli.specs.declared.words.Sub.{Sub}
use Rattle.ir_cli.proofs.Folds.{fold_next}
use Rattle.ir_cli.proofs.command.with_subcommands.Goals as goal

pub loop-sub-preserved : goal.loop-sub-preserved
loop-sub-preserved c =
    let step : App → Sub → App = λ a sub. with_subcommand a (subcommand c.args.choices sub) in
    fold_next step (app_of c.loop-sub.command) _ c.args.all.now c.loop-sub.sub-index _ _ (omega (arith, c.loop-sub-test.true)) refl
    (c.in-Ok-subcommand.ensures.shape c.in-Ok.ensures.local ∙ ap (with_subcommand (app_of c.loop-sub.command)) c.in-Ok.ensures.shape)
    ∙ c.loop-sub.invariant

use Rattle.std.proofs.Common.{◌≡◌, ◌∙◌, ◌||◌, Bool, true, false, refl, ap, arith}
use Rattle.clap.specs.Words.{App, app_of, with_rule}
use Rattle.clap.specs.declared.builder.command.Command.TheViews.{out-Command}
use Rattle.ir_cli.specs.declared.options.Taken.{Taken}
use Rattle.ir_cli.specs.Taking.{rule_taken}
use Rattle.ir_cli.proofs.Folds.{fold_next}
use Rattle.ir_cli.proofs.command.with_args.Goals as goal

or_false : (b : Bool) → (b || false) ≡ b
or_false true = refl
or_false false = refl

pub loop-taken-preserved : goal.loop-taken-preserved
loop-taken-preserved c =
    let choices = c.args.choices in
    let step : App → Taken → App = λ a t. with_rule a (rule_taken choices t) in
    let local = c.arg_of.ensures.local in (
      fold_next step (app_of c.loop-taken.command) _ c.args.all.now c.loop-taken.taken-index _ _ (omega (arith, c.loop-taken-test.true)) refl
          (c.in-Ok.ensures.shape local ∙ ap (with_rule (app_of c.loop-taken.command)) c.arg_of.ensures.rule)
          ∙ c.loop-taken.invariant.0,
      c.in-Ok.ensures.globals ∙ ap (λ g. (out-Command c.loop-taken.command).has_globals || g) local
          ∙ or_false (out-Command c.loop-taken.command).has_globals ∙ c.loop-taken.invariant.1,
    )

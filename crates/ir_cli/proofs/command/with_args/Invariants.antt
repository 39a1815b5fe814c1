use Rattle.std.proofs.Common.{◌≡◌, drop}
use Rattle.clap.specs.Words.{app_of}
use Rattle.clap.specs.declared.builder.command.Command.TheViews.{out-Command}
use Rattle.ir_cli.specs.Taking.{with_taken}
use Rattle.ir_cli.proofs.command.with_args.Given as goal

abbrev pub invariant-loop-taken : goal.invariant-loop-taken
invariant-loop-taken l = (with_taken l.choices (app_of l.command) (drop l.taken-index l.all) ≡ with_taken l.choices (app_of l.fn.command) l.all)
    × ((out-Command l.command).has_globals ≡ (out-Command l.fn.command).has_globals)

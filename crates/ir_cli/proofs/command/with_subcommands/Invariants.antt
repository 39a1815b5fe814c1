use Rattle.std.proofs.Common.{◌≡◌, drop}
use Rattle.std.specs.List.{fold}
use Rattle.clap.specs.Words.{app_of, with_subcommand}
use Rattle.ir_cli.specs.CommandLine.{subcommand}
use Rattle.ir_cli.proofs.command.with_subcommands.Given as goal

abbrev pub invariant-loop-sub : goal.invariant-loop-sub
invariant-loop-sub l = fold (λ a sub. with_subcommand a (subcommand l.choices sub)) (app_of l.command) (drop l.sub-index l.all)
    ≡ fold (λ a sub. with_subcommand a (subcommand l.choices sub)) (app_of l.fn.command) l.all

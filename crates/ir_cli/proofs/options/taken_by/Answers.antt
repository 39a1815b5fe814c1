use Rattle.std.proofs.Common.{◌≡◌, ◌∙◌, ◌++◌, List, refl, sym, ap}
use Rattle.ir_cli.specs.declared.options.Choices.{Choices}
use Rattle.ir_cli.specs.declared.options.Taken.{Taken}
use Rattle.ir_cli.specs.declared.words.Sub.{Sub}
use Rattle.ir_cli.specs.CommandLine.{rules_of, telling}
use Rattle.ir_cli.specs.Taking.{rules_taken}
use Rattle.ir_cli.proofs.options.taken_by.Goals as goal

-- a table that is read has the rules of its subcommand
has_rules : (choices : Choices) {read table : List Taken} {sub its : Sub} → read ≡ table → sub ≡ its → rules_taken choices table ++ telling ≡ rules_of choices its
    → rules_taken choices read ++ telling ≡ rules_of choices sub
has_rules choices is names has = ap (λ (all : List Taken). rules_taken choices all ++ telling) is ∙ has ∙ ap (rules_of choices) (sym names)

pub returns-in-Plan : goal.returns-in-Plan
returns-in-Plan c = λ choices. has_rules choices c.as_slice.ensures c.in-Plan.is refl

pub returns-in-Walk : goal.returns-in-Walk
returns-in-Walk c = λ choices. has_rules choices c.as_slice-in-Walk.ensures c.in-Walk.is refl

pub returns-in-Stats : goal.returns-in-Stats
returns-in-Stats c = λ choices. has_rules choices c.as_slice-in-Stats.ensures c.in-Stats.is refl

pub returns-in-Compare : goal.returns-in-Compare
returns-in-Compare c = λ choices. has_rules choices c.as_slice-in-Compare.ensures c.in-Compare.is refl

pub returns-in-Diff : goal.returns-in-Diff
returns-in-Diff c = λ choices. has_rules choices c.as_slice-in-Diff.ensures c.in-Diff.is refl

pub returns-in-Draw : goal.returns-in-Draw
returns-in-Draw c = λ choices. has_rules choices c.as_slice-in-Draw.ensures c.in-Draw.is refl

pub returns-in-Prefixes : goal.returns-in-Prefixes
returns-in-Prefixes c = λ choices. has_rules choices c.as_slice-in-Prefixes.ensures c.in-Prefixes.is refl

pub returns-in-Ranges : goal.returns-in-Ranges
returns-in-Ranges c = λ choices. has_rules choices c.as_slice-in-Ranges.ensures c.in-Ranges.is refl

pub returns-in-Xdp : goal.returns-in-Xdp
returns-in-Xdp c = λ choices. has_rules choices c.as_slice-in-Xdp.ensures c.in-Xdp.is refl

pub returns-in-Sim : goal.returns-in-Sim
returns-in-Sim c = λ choices. has_rules choices c.as_slice-in-Sim.ensures c.in-Sim.is refl

pub returns-in-Live : goal.returns-in-Live
returns-in-Live c = λ choices. has_rules choices c.as_slice-in-Live.ensures c.in-Live.is refl

pub returns-in-Check : goal.returns-in-Check
returns-in-Check c = λ choices. has_rules choices c.as_slice-in-Check.ensures c.in-Check.is refl

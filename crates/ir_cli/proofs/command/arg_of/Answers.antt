use Rattle.std.proofs.Common.{◌∙◌, sym, ap}
use Rattle.clap.specs.Words.{rule_of}
use Rattle.ir_cli.specs.declared.options.Need.TheVariants.{Must, Else}
use Rattle.ir_cli.specs.Taking.{rule_lettered, rule_needed, rule_valued}
use Rattle.ir_cli.proofs.command.arg_of.Goals as goal

pub returns-in-Free-clause-rule : goal.returns-in-Free-clause-rule
returns-in-Free-clause-rule c =
    let taken = c.args.taken in
    let valued = c.valued-arg.ensures.rule ∙ sym (c.parser_of.ensures (rule_of c.named.result)) ∙ ap (rule_valued c.args.choices taken.takes) c.named.ensures.rule in
    let made = c.lettered-arg.ensures.rule ∙ ap (rule_lettered taken.letter) valued in
    rw c.in-Free.is made

pub returns-in-Must-clause-rule : goal.returns-in-Must-clause-rule
returns-in-Must-clause-rule c =
    let taken = c.args.taken in
    let valued = c.valued-arg.ensures.rule ∙ sym (c.parser_of.ensures (rule_of c.named.result)) ∙ ap (rule_valued c.args.choices taken.takes) c.named.ensures.rule in
    let made = c.lettered-arg.ensures.rule ∙ ap (rule_lettered taken.letter) valued in
    rw c.in-Must.is (ap rule_of c.required.ensures ∙ ap (rule_needed Must) made)

pub returns-in-Else-clause-rule : goal.returns-in-Else-clause-rule
returns-in-Else-clause-rule c =
    let taken = c.args.taken in
    let valued = c.valued-arg.ensures.rule ∙ sym (c.parser_of.ensures (rule_of c.named.result)) ∙ ap (rule_valued c.args.choices taken.takes) c.named.ensures.rule in
    let made = c.lettered-arg.ensures.rule ∙ ap (rule_lettered taken.letter) valued in
    rw c.in-Else.is (ap rule_of c.default_value.ensures ∙ ap (rule_needed (Else c.in-Else.word)) made)

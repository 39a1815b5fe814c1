use Rattle.std.proofs.Common.{◌≡◌, ◌∙◌, ◌∷◌, ◌⊎◌, [], List, Option, true, map, string_bytes, sym, ap, ap₂, subst, inr}
use Rattle.std.proofs.lemmas.Result.{IfOk-weaker}
use Rattle.clap.specs.Words.{IsAmong, Kinds, Row, Text, app_of, fault_of, is_simple, is_simple_and_free, kind_of, subcommand_of}
use Rattle.clap.specs.Walk.{texts}
use Rattle.clap.specs.declared.error.kind.ErrorKind.TheVariants as kinds
use Rattle.ir_cli.specs.CommandLine.{name_of}
use Rattle.ir_cli.specs.Meaning.{MeansMet, faults}
use Rattle.ir_cli.specs.Refusals.{NoneAsked}
use Rattle.ir_cli.proofs.Failing.{each_wider, fails_wider, found_call, found_mistake}
use Rattle.ir_cli.proofs.Simple.{program_is_free, program_is_simple}
use Rattle.ir_cli.proofs.words.read_words_as.Goals as goal

pub returns-in-Ok-clause-means : goal.returns-in-Ok-clause-means
returns-in-Ok-clause-means c =
    let built = c.in_ok-route_command.ensures in
    let simple : is_simple (app_of c.in_ok-route_command.field-0) ≡ true = ap is_simple built.2 ∙ program_is_simple built.0 c.args.called in
    let free : is_simple_and_free (app_of c.in_ok-route_command.field-0) ≡ true = ap is_simple_and_free built.2 ∙ program_is_free built.0 c.args.called in
    let all : texts c.as_slice.result.now ≡ name_of c.args.called ∷ map string_bytes c.args.words.now = ap texts c.as_slice.ensures.value ∙ c.in_ok-all.ensures in
    let none : faults c.args.called built.0 (map string_bytes c.args.words.now) ≡ [] = sym (ap₂ fault_of built.2 all) ∙ c.in-Ok.ensures.kinds free in
    let met = (c.in-Ok.ensures.matches simple).1 ∙ ap₂ subcommand_of built.2 all in
    IfOk-weaker c.words_met.result _ _ (λ words h. (built.0, built.1, none, subst (λ (m : Option (Text × List Row)). MeansMet m words) met h)) c.words_met.ensures.means

pub returns-in-Ok-clause-refused : goal.returns-in-Ok-clause-refused
returns-in-Ok-clause-refused c =
    let built = c.in_ok-route_command.ensures in
    let simple : is_simple (app_of c.in_ok-route_command.field-0) ≡ true = ap is_simple built.2 ∙ program_is_simple built.0 c.args.called in
    let free : is_simple_and_free (app_of c.in_ok-route_command.field-0) ≡ true = ap is_simple_and_free built.2 ∙ program_is_free built.0 c.args.called in
    let all : texts c.as_slice.result.now ≡ name_of c.args.called ∷ map string_bytes c.args.words.now = ap texts c.as_slice.ensures.value ∙ c.in_ok-all.ensures in
    let none : faults c.args.called built.0 (map string_bytes c.args.words.now) ≡ [] = sym (ap₂ fault_of built.2 all) ∙ c.in-Ok.ensures.kinds free in
    let met = (c.in-Ok.ensures.matches simple).1 ∙ ap₂ subcommand_of built.2 all in
    each_wider c.words_met.result _ _ _ _ (λ h. (built.0, built.1, inr (none, subst NoneAsked met h))) (λ never. absurd never) c.words_met.ensures.refused

pub returns-clause-refused : goal.returns-clause-refused
returns-clause-refused c =
    let built = c.in_ok-route_command.ensures in
    let free : is_simple_and_free (app_of c.in_ok-route_command.field-0) ≡ true = ap is_simple_and_free built.2 ∙ program_is_free built.0 c.args.called in
    let all : texts c.as_slice.result.now ≡ name_of c.args.called ∷ map string_bytes c.args.words.now = ap texts c.as_slice.ensures.value ∙ c.in_ok-all.ensures in
    let typed = map string_bytes c.args.words.now in
    let kind = kind_of c.in-Err.error in
    let has : (kind ≡ kinds.OutOfMemory) ⊎ IsAmong kind (faults c.args.called built.0 typed) =
    subst (λ (all : Kinds). (kind ≡ kinds.OutOfMemory) ⊎ IsAmong kind all) (ap₂ fault_of built.2 all) (c.in-Err.ensures.kinds free) in
    fails_wider _ _ _ _ c.refused.result (found_mistake c.args.called built.0 built.1 typed kind has) (found_call c.args.called built.0 built.1 typed kind has) c.refused.ensures

-- What clap reads of the arguments and subcommands that the tables have.
use Rattle.std.specs.Prelude.{ℕ, pos, true, List, [], ◌∷◌, Option, Some, None, map, fold}
use Rattle.std.specs.Int.{int_max, int_min}
use Rattle.std.specs.Borrow.{Bor}
use Rattle.clap.specs.Words.{App, Rule, Text, new_rule, signed_between, with_rule}
use Rattle.clap.specs.Simple.{new_shape}
use Rattle.clap.specs.declared.builder.action.ArgAction.TheVariants.{SetTrue}
use Rattle.clap.specs.declared.builder.value_parser.ValueParser.TheVariants as vp
use Rattle.ir_cli.specs.declared.options.Accepts.{Accepts}
use Rattle.ir_cli.specs.declared.options.Accepts.TheVariants.{Nothing, WordOf, Number, File, PlaceOf, Place}
use Rattle.ir_cli.specs.declared.options.Need.{Need}
use Rattle.ir_cli.specs.declared.options.Need.TheVariants.{Free, Must, Else}
use Rattle.ir_cli.specs.declared.options.Choice.{Choice}
use Rattle.ir_cli.specs.declared.options.Choice.TheVariants.{Format, Kind, Numbering, Keeping, Part, Each}
use Rattle.ir_cli.specs.declared.options.Choices.{Choices}
use Rattle.ir_cli.specs.declared.options.Taken.{Taken}

abbrev pub rule_named : Text → Accepts → Rule
rule_named name Nothing = record (new_rule name) { long = Some name; action = Some SetTrue }
rule_named name (File value) = record (new_rule name) { value_names = 1 }
rule_named name (PlaceOf value choice) = record (new_rule name) { value_names = 1 }
rule_named name (Place value least most) = record (new_rule name) { value_names = 1 }
rule_named name _ = record (new_rule name) { long = Some name; value_names = 1 }

abbrev pub rule_lettered : Option ℕ → Rule → Rule
rule_lettered None rule = rule
rule_lettered (Some letter) rule = record rule { short = Some letter }

abbrev pub choice_words : Choices → Choice → Bor (List (Bor Text))
choice_words choices Format = choices.formats
choice_words choices Kind = choices.kinds
choice_words choices Numbering = choices.numberings
choice_words choices Keeping = choices.keepings
choice_words choices Part = choices.parts
choice_words choices Each = choices.eaches

abbrev pub rule_valued : Choices → Accepts → Rule → Rule
rule_valued choices (WordOf value choice) rule = record rule { parser = Some (vp.Names (choice_words choices choice)) }
rule_valued choices (PlaceOf value choice) rule = record rule { parser = Some (vp.Names (choice_words choices choice)) }
rule_valued choices (Number value least most) rule =
    record rule { parser = Some (signed_between (int_max (pos 0) (pos least)) (int_min (pos 65535) (pos most))) }
rule_valued choices (Place value least most) rule =
    record rule { parser = Some (signed_between (int_max (pos 0) (pos least)) (int_min (pos 65535) (pos most))) }
rule_valued choices _ rule = rule

abbrev pub rule_needed : Need → Rule → Rule
rule_needed Free rule = rule
rule_needed Must rule = record rule { required = true }
rule_needed (Else word) rule = record rule { defaults = word.now ∷ [] }

abbrev pub rule_taken : Choices → Taken → Rule
rule_taken choices taken = rule_needed taken.need (rule_lettered taken.letter (rule_valued choices taken.takes (rule_named taken.name.now taken.takes)))

-- what is read of a table
abbrev pub rules_taken : Choices → List Taken → List Rule
rules_taken choices all = map (rule_taken choices) all

abbrev pub with_taken : Choices → App → List Taken → App
with_taken choices app all = fold (λ a taken. with_rule a (rule_taken choices taken)) app all

-- the program, before its subcommands
abbrev pub program_app : Text → App
program_app name = record {
  top = record (new_shape name) { has_version = true; subcommand_required = true };
  subs = [];
}

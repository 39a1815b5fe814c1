use Rattle.std.proofs.Common.{◌∙◌, sym, string_bytes}
use Rattle.std.proofs.lemmas.List.Folds.{list_all-map}
use Rattle.clap.proofs.WalkLemmas.{list_any-map}
use Rattle.ir_cli.specs.Words.{is_no_dash}
use Rattle.ir_cli.proofs.faults.are_named.Goals as goal

pub returns-then-takes_dash : goal.returns-then-takes_dash
returns-then-takes_dash c =
    rw (sym c.takes_dash.ensures ∙ c.if-takes_dash.true) (c.is_one_named.ensures ∙ (list_any-map is_no_dash string_bytes c.args.files.now))

pub returns-else-takes_dash : goal.returns-else-takes_dash
returns-else-takes_dash c =
    rw (sym c.takes_dash.ensures ∙ c.if-takes_dash.false) (c.are_all_named.ensures ∙ sym (list_all-map is_no_dash string_bytes c.args.files.now))

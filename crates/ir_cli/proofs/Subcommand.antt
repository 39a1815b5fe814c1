-- The subcommand that a parse met, by its name and its rows.
use Rattle.std.proofs.Common.{◌≡◌, List, Option, Some, None, sym, ap, ap₂, true≢false}
use Rattle.std.specs.Prelude.{is_some, option_map, unwrap_or}
use Rattle.std.specs.Box.{box_value}
use Rattle.clap.specs.Words.{Row, Text, found_of, rows_of, subcommand_name_of, subcommand_rows_of}
use Rattle.clap.specs.declared.parser.matches.ArgMatches.{ArgMatches}
use Rattle.clap.specs.declared.parser.matches.ArgMatches.TheViews.{out-ArgMatches, out-SubCommand}

abbrev both_of : Text → List Row → Option (Text × List Row)
both_of x y = Some (x, y)

both_parts : {B : Type 0} (s : Option B) (f : B → Text) (g : B → List Row) (n : Text) (rows : List Row) → Some n ≡ option_map f s
    → Some rows ≡ option_map (λ (p : Text × List Row). p.1) (option_map {U = Text × List Row} (λ b. (f b, g b)) s) → option_map {U = Text × List Row} (λ b. (f b, g b)) s ≡ Some (n, rows)
both_parts None f g n rows e h = absurd (true≢false (ap is_some e))
both_parts (Some b) f g n rows e h = ap₂ (both_of) (sym (ap (λ o. unwrap_or o n) e)) (sym (ap (λ o. unwrap_or o rows) h))

pub met_is : (m : ArgMatches) (n : Text) (rows : List Row) → Some n ≡ subcommand_name_of m
    → Some rows ≡ option_map (λ (p : Text × List Row). p.1) (subcommand_rows_of m) → subcommand_rows_of m ≡ Some (n, rows)
met_is m n rows = both_parts (out-ArgMatches m).subcommand (λ b. (out-SubCommand (box_value b)).name.now)
    (λ b. rows_of (found_of (out-SubCommand (box_value b)).matches)) n rows

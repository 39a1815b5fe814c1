use Rattle.std.proofs.Common.{Option, List, sym, subst}
use Rattle.clap.specs.Words.{Row, Text, found_of, rows_of}
use Rattle.ir_cli.specs.Meaning.{MeansMet}
use Rattle.ir_cli.proofs.Alike.{asked_too, fits_too, taken_too}
use Rattle.ir_cli.proofs.Failing.{fails_wider}
use Rattle.ir_cli.proofs.Subcommand.{met_is}
use Rattle.ir_cli.proofs.words.words_met.Goals as goal

pub returns-in-Some-fault_met-clause-refused : goal.returns-in-Some-fault_met-clause-refused
returns-in-Some-fault_met-clause-refused c =
    let name = c.in-Some.name.now in
    let rows = rows_of (found_of c.in-Some.inner.now) in
    let read = c.in_ok-words.words in
    let means = c.in_ok-words.ensures.means in
    fails_wider _ _ _ _ c.usage-in-Some-fault_met.result (λ _ words asked taken fits.
    let both = subst (λ (m : Option (Text × List Row)). MeansMet m words) (met_is c.args.found.now name rows c.in-Some.ensures.name c.in-Some.ensures.rows) asked in
    c.in-Some-fault_met.ensures (asked_too name rows read words means both.0 both.1) (taken_too name rows read words means both.0 taken) (fits_too name rows read words means both.0 fits))
    (λ never. never) c.usage-in-Some-fault_met.ensures

pub returns-in-None-clause-means : goal.returns-in-None-clause-means
returns-in-None-clause-means c =
    let name = c.in-Some.name.now in
    let rows = rows_of (found_of c.in-Some.inner.now) in
    subst (λ (m : Option (Text × List Row)). MeansMet m c.in_ok-words.words) (sym (met_is c.args.found.now name rows c.in-Some.ensures.name c.in-Some.ensures.rows))
    (c.in_ok-words.ensures.means, c.in-None.ensures.0)

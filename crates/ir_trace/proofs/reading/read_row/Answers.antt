use Rattle.std.proofs.Common.{refl}
use Rattle.ir_trace.specs.Spelled.{texts, HasWords}
use Rattle.ir_trace.proofs.ReadRows.{no_words_no_row, nothing_no_row}
use Rattle.ir_trace.proofs.reading.read_row.Goals as goal

pub returns-in_default-clause-fault : goal.returns-in_default-clause-fault
returns-in_default-clause-fault c = (refl, no_words_no_row c.args.version c.args.line.now (rw c.in_default.is at c.in_ok-words.ensures))

pub returns-in_default-2-clause-fault : goal.returns-in_default-2-clause-fault
returns-in_default-2-clause-fault c =
    let are : HasWords c.args.line.now (texts c.in-Some.words.items) = rw c.in-Some.is at c.in_ok-words.ensures in
    let none = rw c.in_default-2.is at c.in_ok-spelling.ensures in
    (refl, nothing_no_row c.args.version c.args.line.now (texts c.deref.result.now) (rw (← c.deref.ensures.value) at are) none)

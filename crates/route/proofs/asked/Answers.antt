use Rattle.std.proofs.Common.{ap}
use Rattle.route.specs.Asked.{with_sentences}
use Rattle.route.proofs.asked.Goals as goal

pub returns-clause-asks : goal.returns-clause-asks
returns-clause-asks c =
    (c.in_ok-words.words, c.is_terminal-is_terminal.result, c.in_ok-words.ensures.means, ap (with_sentences c.in_ok-words.words) c.are_sentences_wanted.ensures)

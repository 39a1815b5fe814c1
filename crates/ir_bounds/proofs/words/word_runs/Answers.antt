use Rattle.std.proofs.lemmas.Result.{IfOk-weaker}
use Rattle.ir_bounds.proofs.Held.{landmark_choices}
use Rattle.ir_bounds.proofs.LedWords.{words_some, words_longest}
use Rattle.ir_bounds.proofs.words.word_runs.Goals as goal

pub runs_by_words-requires-clause-some : goal.runs_by_words-requires-clause-some
runs_by_words-requires-clause-some c =
    let net = c.args.topology.now in
    let ok = c.nodes-nodes.ensures.topology in
    let numbers = c.args.numbering.now in
    let held = c.args.held.now in
    let landmarks = held.owners.landmarks.items in
    let are = c.requires.bounds in
    let choices = landmark_choices net ok c.requires.connected landmarks held.stretch are.stretch are.landmarks numbers.order numbers.labels c.requires.labels c.args.u c.requires.node in
    rw (c.nodes-nodes.ensures.count, c.label_of-own.ensures, c.as_slice.ensures.value)
    (words_some net ok landmarks held.stretch numbers.order numbers.labels c.requires.labels c.args.u c.requires.node c.requires.ports c.in_ok-words.words.items c.in_ok-words.ensures choices)

pub returns-clause-longest : goal.returns-clause-longest
returns-clause-longest c =
    let net = c.args.topology.now in
    let ok = c.nodes-nodes.ensures.topology in
    let numbers = c.args.numbering.now in
    let held = c.args.held.now in
    IfOk-weaker c.runs_by_words.result _ _
    (λ made longest. words_longest net ok held.owners.landmarks.items held.stretch numbers.order numbers.labels c.requires.labels c.args.u c.requires.node c.requires.ports c.in_ok-words.words.items c.in_ok-words.ensures made.0.items made.1.items longest)
    (rw (c.nodes-nodes.ensures.count, c.label_of-own.ensures, c.as_slice.ensures.value) at c.runs_by_words.ensures.longest)

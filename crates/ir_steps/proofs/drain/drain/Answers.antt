use Rattle.std.proofs.Common.{◌∙◌, sym, ap, string_bytes}
use Rattle.ir_model.specs.Graph.{names}
use Rattle.ir_core.specs.Setting.{Setting}
use Rattle.ir_core.specs.Drain.{after_rounds}
use Rattle.ir_steps.proofs.Adding.{rounds_none, rounds_more, rounds_done}
use Rattle.ir_steps.proofs.drain.drain.Goals as goal

pub rounds-init : goal.rounds-init
rounds-init c = rounds_none (names c.args.net.now.graph.now) c.args.net.now.topology.now c.args.line c.args.world.now (string_bytes c.args.text.now)

pub round-requires-clause-over : goal.round-requires-clause-over
round-requires-clause-over c = c.requires.over ∙ sym (ap (λ (o : Setting). o.topology) c.rounds.invariant.opening)

pub round-requires-clause-history : goal.round-requires-clause-history
round-requires-clause-history c =
    let has = c.requires.history in
    let so = c.rounds.invariant in
    (after_rounds c.args.world.now.opening so.rounds has.0, so.shows has.0 has.1)

pub rounds-preserved : goal.rounds-preserved
rounds-preserved c =
    let r = c.in_ok-acted.ensures in
    rounds_more (names c.args.net.now.graph.now) c.args.net.now.topology.now c.args.line c.args.world.now c.rounds.world c.round.new.world (string_bytes c.args.text.now) (string_bytes c.rounds.text) (string_bytes c.round.new.text)
    c.rounds.invariant c.in_ok-acted.acted r.moves r.lines c.if-not-acted.false

pub returns-then-not-acted : goal.returns-then-not-acted
returns-then-not-acted c =
    let r = c.in_ok-acted.ensures in
    rounds_done (names c.args.net.now.graph.now) c.args.net.now.topology.now c.args.line c.args.world.now c.rounds.world c.round.new.world (string_bytes c.args.text.now) (string_bytes c.rounds.text) (string_bytes c.round.new.text)
    c.rounds.invariant c.in_ok-acted.acted r.moves r.lines c.if-not-acted.true c.invariant.ensures.world

use Rattle.std.proofs.Common.{ℕ, List, Option, length, ap, sym, ◌∙◌}
use Rattle.std.proofs.lemmas.Result.{IfOk-weaker}
use Rattle.ir_model.specs.Row.{Start}
use Rattle.ir_model.specs.Compiled.{IsCanonical}
use Rattle.ir_model.proofs.Chosen.{off_own}
use Rattle.ir_model.proofs.Steps.{HaveRoundPorts}
use Rattle.ir_compile.proofs.MarkedStarts.{some_stand}
use Rattle.ir_compile.proofs.choices.row_of_longest.Goals as goal

pub plain_round-requires-clause-off : goal.plain_round-requires-clause-off
plain_round-requires-clause-off c = λ e.
    let near = c.first_of_longest.ensures in
    off_own c.args.n c.args.own (λ (d p : ℕ). Unit {0}) (record { has_own = c.requires.own; some = λ d hd ne. (0, tt) }) c.first_of_longest.result near.off_own near.in_round (sym c.label_at-start.ensures.from ∙ e)

pub returns : goal.returns
returns c =
    let n = c.args.n in
    let own = c.args.own in
    let counts = c.args.counts.now in
    let ports = c.args.ports.now in
    let t = c.first_of_longest.result in
    let plain = c.in_ok-plain.plain.items in
    let some = some_stand n own plain c.requires.own c.in_ok-plain.ensures.every in
    let held : List (Option ℕ) = some.0 in
    let round = rw c.label_at-start.ensures.from at c.in_ok-plain.ensures.ports in
    let made = round held some.1 in
    let canonical = rw c.as_slice.ensures.value at c.row_of_ports.ensures in
    IfOk-weaker c.row_of_ports.result (λ (row : List Start). IsCanonical n own held row)
    (λ (row : List Start). (held : List (Option ℕ)) × HaveRoundPorts n own counts ports held × IsCanonical n own held row)
    (λ row is. (
      held,
      record { every = some.1.destinations.every; none = some.1.destinations.none; place = t; near = c.first_of_longest.ensures; steps = made.0; go = made.1; have = made.2 },
      is,
    ))
    (canonical held some.1)

pub first_of_longest-requires : goal.first_of_longest-requires
first_of_longest-requires c = record { two = c.requires.two; own = c.requires.own; steps = c.requires.steps; on = c.requires.on }

pub label_at-start-requires : goal.label_at-start-requires
label_at-start-requires c = record { start = c.requires.own; place = c.first_of_longest.ensures.in_round }

pub plain_round-requires-clause-steps : goal.plain_round-requires-clause-steps
plain_round-requires-clause-steps c = c.requires.steps

pub plain_round-requires-clause-ports : goal.plain_round-requires-clause-ports
plain_round-requires-clause-ports c = c.requires.ports

pub plain_round-requires-clause-start : goal.plain_round-requires-clause-start
plain_round-requires-clause-start c = c.label_at-start.ensures.label

pub row_of_ports-requires : goal.row_of_ports-requires
row_of_ports-requires c = record { own = c.requires.own; every = ap (λ (xs : List ℕ). length xs) c.as_slice.ensures.value ∙ c.in_ok-plain.ensures.every }

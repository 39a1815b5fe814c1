use Rattle.std.proofs.Common.{◌≡◌, ◌<◌, ℕ, List, [], ◌∷◌, Option, None, ap, sym, arith}
use Rattle.std.proofs.lemmas.Result.{IfOk-weaker}
use Rattle.std.specs.Prelude.{slice_index}
use Rattle.ir_model.specs.declared.Kind.TheVariants.{Compact}
use Rattle.ir_model.specs.Topology.{node_count}
use Rattle.ir_model.specs.Row.{Start}
use Rattle.ir_model.specs.Compact.{IsTied}
use Rattle.ir_model.specs.Choices.{AreChosen}
use Rattle.ir_model.specs.Compiled.{IsCanonical, port_to}
use Rattle.ir_model.proofs.Chosen.{chosen_are_destinations}
use Rattle.ir_model.proofs.Steps.{HaveRoundPorts, longest_are_steps, steps_are_chosen}
use Rattle.ir_compile.proofs.Rounds.{longest_run_on}
use Rattle.ir_plan.specs.CompactRows.{MayTake}
use Rattle.ir_plan.specs.NodeRows.{IsNodeRow}
use Rattle.ir_plan.proofs.CompactRows.{may_choices, chosen_of_may}
use Rattle.ir_plan.proofs.compact.compact_row.Goals as goal

-- where there is one node, no port is chosen
alone_chosen : (n a : ℕ) (may : ℕ → ℕ → Type 0) → n ≡ 1 → a < n → AreChosen n a may (None ∷ [])
alone_chosen n a may one label = record {
  every = sym one;
  none = let first : a ≡ 0 = omega (arith, one, label) in ap (port_to (None ∷ [])) first;
  chosen = λ two. absurd (omega (arith, two, one));
}

pub row_of-requires : goal.row_of-requires
row_of-requires c =
    let net = c.args.topology.now in
    let numbers = c.args.numbering.now in
    let u = c.args.u in
    let n = node_count net in
    let a = slice_index numbers.labels u in
    let one : n ≡ 1 = omega (arith, c.nodes-nodes.ensures.count, c.if-nodes-eq1.true) in
    let may = IsTied net numbers.order a in
    rw (c.nodes-nodes.ensures.count, c.label_of-own.ensures)
    (chosen_are_destinations n a may c.in_ok-counts.ensures.tied (None ∷ []) (alone_chosen n a may one (c.requires.labels.label u c.requires.node)))

pub returns-then-nodes-eq1 : goal.returns-then-nodes-eq1
returns-then-nodes-eq1 c =
    let net = c.args.topology.now in
    let numbers = c.args.numbering.now in
    let u = c.args.u in
    let n = node_count net in
    let a = slice_index numbers.labels u in
    let one : n ≡ 1 = omega (arith, c.nodes-nodes.ensures.count, c.if-nodes-eq1.true) in
    let may = IsTied net numbers.order a in
    let tied = c.in_ok-counts.ensures.tied in
    let chosen = alone_chosen n a may one (c.requires.labels.label u c.requires.node) in
    let made = rw (c.nodes-nodes.ensures.count, c.label_of-own.ensures) at c.row_of.ensures in
    IfOk-weaker c.row_of.result (λ (row : List Start). IsCanonical n a (None ∷ []) row) (λ (row : List Start). IsNodeRow Compact net numbers.order numbers.parents a row)
    (λ row canonical. record { ports = None ∷ []; ports_of_kind = (tied, chosen); destinations = chosen_are_destinations n a may tied (None ∷ []) chosen; canonical = canonical })
    made

pub row_of_longest-requires-clause-two : goal.row_of_longest-requires-clause-two
row_of_longest-requires-clause-two c = omega (arith, c.requires.node, c.nodes-nodes.ensures.count, c.if-nodes-eq1.false)

pub row_of_longest-requires-clause-steps : goal.row_of_longest-requires-clause-steps
row_of_longest-requires-clause-steps c =
    let net = c.args.topology.now in
    let numbers = c.args.numbering.now in
    let u = c.args.u in
    let n = node_count net in
    let own = slice_index numbers.labels u in
    let ok = c.nodes-nodes.ensures.topology in
    let two : 1 < n = omega (arith, c.requires.node, c.nodes-nodes.ensures.count, c.if-nodes-eq1.false) in
    let valid = may_choices net ok numbers.order numbers.labels c.requires.labels u c.requires.node c.in_ok-counts.ensures.tied in
    rw (c.nodes-nodes.ensures.count, c.label_of-own.ensures, c.as_slice.ensures.value)
    (longest_are_steps n own (MayTake net numbers.order own) two valid c.in_ok-counts.counts.items c.in_ok-counts.ports.items c.in_ok-counts.ensures.longest c.in_ok-counts.ensures.counts)

pub row_of_longest-requires-clause-on : goal.row_of_longest-requires-clause-on
row_of_longest-requires-clause-on c =
    let net = c.args.topology.now in
    let numbers = c.args.numbering.now in
    let own = slice_index numbers.labels c.args.u in
    rw (c.nodes-nodes.ensures.count, c.label_of-own.ensures, c.as_slice.ensures.value)
    (longest_run_on (node_count net) own (MayTake net numbers.order own) c.in_ok-counts.counts.items c.in_ok-counts.ports.items c.in_ok-counts.ensures.longest)

pub returns : goal.returns
returns c =
    let net = c.args.topology.now in
    let numbers = c.args.numbering.now in
    let u = c.args.u in
    let n = node_count net in
    let a = slice_index numbers.labels u in
    let named = c.requires.labels in
    let ok = c.nodes-nodes.ensures.topology in
    let two : 1 < n = omega (arith, c.requires.node, c.nodes-nodes.ensures.count, c.if-nodes-eq1.false) in
    let tied = c.in_ok-counts.ensures.tied in
    let valid = may_choices net ok numbers.order numbers.labels named u c.requires.node tied in
    let counts = c.in_ok-counts.counts.items in
    let ports = c.in_ok-counts.ports.items in
    let made = rw (c.nodes-nodes.ensures.count, c.label_of-own.ensures, c.as_slice.ensures.value, c.as_slice-2.ensures.value) at c.row_of_longest.ensures in
    IfOk-weaker c.row_of_longest.result (λ (row : List Start). (held : List (Option ℕ)) × HaveRoundPorts n a counts ports held × IsCanonical n a held row)
    (λ (row : List Start). IsNodeRow Compact net numbers.order numbers.parents a row)
    (λ row is.
    let round = is.1 in
    let chosen = chosen_of_may net ok numbers.order numbers.labels named u c.requires.node is.0
    (steps_are_chosen n a (MayTake net numbers.order a) two valid counts ports c.in_ok-counts.ensures.longest c.in_ok-counts.ensures.counts is.0 round.place round.steps round.every round.none round.near round.go round.have) in
    record { ports = is.0; ports_of_kind = (tied, chosen); destinations = chosen_are_destinations n a (IsTied net numbers.order a) tied is.0 chosen; canonical = is.2 })
    made

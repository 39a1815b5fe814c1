use Rattle.std.proofs.Common.{◌≡◌, ◌<◌, ℕ, List, [], ◌∷◌, Option, None, arith}
use Rattle.std.proofs.lemmas.Result.{IfOk-weaker}
use Rattle.std.specs.Prelude.{slice_index}
use Rattle.ir_model.specs.Topology.{node_count}
use Rattle.ir_model.specs.Row.{Start}
use Rattle.ir_model.specs.Compiled.{IsCanonical}
use Rattle.ir_model.specs.Within.{MayLead}
use Rattle.ir_model.proofs.Chosen.{chosen_are_destinations}
use Rattle.ir_model.proofs.Steps.{HaveRoundPorts, longest_are_steps, steps_are_chosen}
use Rattle.ir_compile.proofs.Rounds.{longest_run_on}
use Rattle.ir_model.specs.Landmark.{IsLandmarkBound}
use Rattle.ir_bounds.proofs.Held.{landmark_choices}
use Rattle.ir_bounds.specs.Rows.{MayTakePort, IsRowWithin}
use Rattle.ir_bounds.proofs.Marks.{may_choices, chosen_of_may}
use Rattle.ir_bounds.proofs.Runs.{alone_chosen, row_of_chosen}
use Rattle.ir_bounds.proofs.detours.LandmarkBounds.row.Goals as goal

pub canonical_row-requires : goal.canonical_row-requires
canonical_row-requires c =
    let net = c.args.topology.now in
    let held = c.args.self.now in
    let are = c.requires.bounds in
    let choices = landmark_choices net c.nodes-nodes.ensures.topology c.requires.connected held.owners.landmarks.items held.stretch are.stretch are.landmarks c.args.numbering.now.order c.args.numbering.now.labels c.requires.labels c.args.u c.requires.node in
    let numbers = c.args.numbering.now in
    let u = c.args.u in
    let n = node_count net in
    let a = slice_index numbers.labels u in
    let one : n ≡ 1 = omega (arith, c.nodes-nodes.ensures.count, c.if-nodes-eq1.true) in
    let may = MayLead net (IsLandmarkBound net held.owners.landmarks.items held.stretch) numbers.order a in
    rw (c.nodes-nodes.ensures.count, c.label_of-own.ensures)
    (chosen_are_destinations n a may choices (None ∷ []) (alone_chosen n a may one (c.requires.labels.label u c.requires.node)))

pub returns-then-nodes-eq1 : goal.returns-then-nodes-eq1
returns-then-nodes-eq1 c =
    let net = c.args.topology.now in
    let held = c.args.self.now in
    let are = c.requires.bounds in
    let choices = landmark_choices net c.nodes-nodes.ensures.topology c.requires.connected held.owners.landmarks.items held.stretch are.stretch are.landmarks c.args.numbering.now.order c.args.numbering.now.labels c.requires.labels c.args.u c.requires.node in
    let numbers = c.args.numbering.now in
    let u = c.args.u in
    let n = node_count net in
    let a = slice_index numbers.labels u in
    let bound : ℕ → ℕ → ℕ → Type 0 = IsLandmarkBound net held.owners.landmarks.items held.stretch in
    let one : n ≡ 1 = omega (arith, c.nodes-nodes.ensures.count, c.if-nodes-eq1.true) in
    let chosen = alone_chosen n a (MayLead net bound numbers.order a) one (c.requires.labels.label u c.requires.node) in
    let made = rw (c.nodes-nodes.ensures.count, c.label_of-own.ensures) at c.canonical_row.ensures.canonical in
    IfOk-weaker c.canonical_row.result (λ (row : List Start). IsCanonical n a (None ∷ []) row) (λ (row : List Start). IsRowWithin net bound numbers.order a row)
    (λ row canonical. row_of_chosen net bound numbers.order a (None ∷ []) row choices chosen canonical)
    made

pub row_of_longest-requires-clause-two : goal.row_of_longest-requires-clause-two
row_of_longest-requires-clause-two c = omega (arith, c.requires.node, c.nodes-nodes.ensures.count, c.if-nodes-eq1.false)

pub row_of_longest-requires-clause-steps : goal.row_of_longest-requires-clause-steps
row_of_longest-requires-clause-steps c =
    let net = c.args.topology.now in
    let held = c.args.self.now in
    let are = c.requires.bounds in
    let choices = landmark_choices net c.nodes-nodes.ensures.topology c.requires.connected held.owners.landmarks.items held.stretch are.stretch are.landmarks c.args.numbering.now.order c.args.numbering.now.labels c.requires.labels c.args.u c.requires.node in
    let numbers = c.args.numbering.now in
    let u = c.args.u in
    let n = node_count net in
    let own = slice_index numbers.labels u in
    let bound : ℕ → ℕ → ℕ → Type 0 = IsLandmarkBound net held.owners.landmarks.items held.stretch in
    let two : 1 < n = omega (arith, c.requires.node, c.nodes-nodes.ensures.count, c.if-nodes-eq1.false) in
    let valid = may_choices net bound numbers.order own (c.requires.labels.label u c.requires.node) choices in
    rw (c.nodes-nodes.ensures.count, c.label_of-own.ensures, c.as_slice.ensures.value)
    (longest_are_steps n own (MayTakePort net bound numbers.order own) two valid c.in_ok-counts.counts.items c.in_ok-counts.ports.items c.in_ok-counts.ensures.longest c.in_ok-counts.ensures.counts)

pub row_of_longest-requires-clause-on : goal.row_of_longest-requires-clause-on
row_of_longest-requires-clause-on c =
    let net = c.args.topology.now in
    let held = c.args.self.now in
    let are = c.requires.bounds in
    let choices = landmark_choices net c.nodes-nodes.ensures.topology c.requires.connected held.owners.landmarks.items held.stretch are.stretch are.landmarks c.args.numbering.now.order c.args.numbering.now.labels c.requires.labels c.args.u c.requires.node in
    let numbers = c.args.numbering.now in
    let own = slice_index numbers.labels c.args.u in
    let bound : ℕ → ℕ → ℕ → Type 0 = IsLandmarkBound net held.owners.landmarks.items held.stretch in
    rw (c.nodes-nodes.ensures.count, c.label_of-own.ensures, c.as_slice.ensures.value)
    (longest_run_on (node_count net) own (MayTakePort net bound numbers.order own) c.in_ok-counts.counts.items c.in_ok-counts.ports.items c.in_ok-counts.ensures.longest)

pub returns : goal.returns
returns c =
    let net = c.args.topology.now in
    let held = c.args.self.now in
    let are = c.requires.bounds in
    let choices = landmark_choices net c.nodes-nodes.ensures.topology c.requires.connected held.owners.landmarks.items held.stretch are.stretch are.landmarks c.args.numbering.now.order c.args.numbering.now.labels c.requires.labels c.args.u c.requires.node in
    let numbers = c.args.numbering.now in
    let u = c.args.u in
    let n = node_count net in
    let a = slice_index numbers.labels u in
    let ha = c.requires.labels.label u c.requires.node in
    let bound : ℕ → ℕ → ℕ → Type 0 = IsLandmarkBound net held.owners.landmarks.items held.stretch in
    let two : 1 < n = omega (arith, c.requires.node, c.nodes-nodes.ensures.count, c.if-nodes-eq1.false) in
    let valid = may_choices net bound numbers.order a ha choices in
    let counts = c.in_ok-counts.counts.items in
    let ports = c.in_ok-counts.ports.items in
    let made = rw (c.nodes-nodes.ensures.count, c.label_of-own.ensures, c.as_slice.ensures.value, c.as_slice-2.ensures.value) at c.row_of_longest.ensures in
    IfOk-weaker c.row_of_longest.result (λ (row : List Start). (held : List (Option ℕ)) × HaveRoundPorts n a counts ports held × IsCanonical n a held row)
    (λ (row : List Start). IsRowWithin net bound numbers.order a row)
    (λ row is.
    let round = is.1 in
    let chosen = chosen_of_may net bound numbers.order a ha is.0
    (steps_are_chosen n a (MayTakePort net bound numbers.order a) two valid counts ports c.in_ok-counts.ensures.longest c.in_ok-counts.ensures.counts is.0 round.place round.steps round.every round.none round.near round.go round.have) in
    row_of_chosen net bound numbers.order a is.0 row choices chosen is.2)
    made

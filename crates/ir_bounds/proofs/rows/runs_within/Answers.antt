use Rattle.std.proofs.Common.{◌≡◌, ◌∙◌, ℕ, Bool, List, length, drop, arith}
use Rattle.std.specs.Prelude.{slice_index}
use Rattle.std.proofs.lemmas.List.{take_at}
use Rattle.ir_model.specs.Topology.{node_count}
use Rattle.ir_model.proofs.Walks.{degree_bound}
use Rattle.ir_model.specs.Landmark.{IsLandmarkBound}
use Rattle.ir_bounds.specs.Rows.{MayTakePort, AreMarksWithin}
use Rattle.ir_bounds.proofs.Marks.{marks_may, no_port_past}
use Rattle.ir_bounds.proofs.Runs.{runs_more, runs_all}
use Rattle.ir_bounds.proofs.rows.runs_within.Goals as goal

pub overflow_cast-p : goal.overflow_cast-p
overflow_cast-p c =
    let degree = degree_bound c.args.topology.now c.nodes-nodes.ensures.topology c.args.u in
    let few = c.nodes-nodes.ensures.topology.few_nodes in
    let ports = c.degree-p-end.ensures in
    let below = c.loop-p-test.true in
    omega arith

pub overflow_cast-p-in-loop-p : goal.overflow_cast-p-in-loop-p
overflow_cast-p-in-loop-p c =
    let degree = degree_bound c.args.topology.now c.nodes-nodes.ensures.topology c.args.u in
    let few = c.nodes-nodes.ensures.topology.few_nodes in
    let ports = c.degree-p-end.ensures in
    let below = c.loop-p-test.true in
    omega arith

pub loop-p-preserved : goal.loop-p-preserved
loop-p-preserved c =
    let net = c.args.topology.now in
    let ok = c.nodes-nodes.ensures.topology in
    let numbers = c.args.numbering.now in
    let held = c.args.held.now in
    let landmarks : List ℕ = held.owners.landmarks.items in
    let u = c.args.u in
    let p : ℕ = c.loop-p.p in
    let v = c.loop-p.invariant in
    let n : ℕ = node_count net in
    let own : ℕ = slice_index numbers.labels u in
    let counts = c.keep_longer.new.counts in
    let ports = c.keep_longer.new.ports in
    let counts_len = c.keep_longer.ensures.counts ∙ c.nodes-nodes.ensures.count in
    let ports_len = c.keep_longer.ensures.ports ∙ c.nodes-nodes.ensures.count in
    let counts_back = take_at counts (drop (length counts) c.loop-p.counts.items) c.loop-p.counts.len (omega (arith, counts_len, v.counts_len, c.loop-p.counts.ok.0)) in
    let ports_back = take_at ports (drop (length ports) c.loop-p.ports.items) c.loop-p.ports.len (omega (arith, ports_len, v.ports_len, c.loop-p.ports.ok.0)) in
    let marks : List Bool = c.in_ok-marks.marks.items in
    let whole : List ℕ = c.in_ok-whole.whole.items in
    let rest : List ℕ = c.in_ok-rest.rest.items in
    let every : length whole ≡ n = c.in_ok-whole.ensures.every in
    let told : AreMarksWithin n numbers.order c.port-hop.result.weight whole rest marks = rw (c.as_slice.ensures.value, c.as_slice-in-loop-p.ensures.value, every) at c.in_ok-marks.ensures.marks in
    let longer = rw (c.nodes-nodes.ensures.count, c.label_of-own.ensures, c.as_slice-in-loop-p-2.ensures.value, c.as_mut_slice.ensures.value, c.as_mut_slice-in-loop-p.ensures.value) at c.keep_longer.ensures.longer in
    rw (counts_back, ports_back)
    (runs_more n own (MayTakePort net (IsLandmarkBound net landmarks held.stretch) numbers.order own) p marks c.loop-p.counts.items c.loop-p.ports.items counts ports
    (marks_may net ok landmarks held.stretch numbers.order numbers.labels c.requires.labels u c.requires.node p c.port-hop.result whole rest marks c.in_ok-whole.ensures c.in_ok-rest.ensures c.port-hop.ensures told) v counts_len ports_len longer)

pub returns-clause-longest : goal.returns-clause-longest
returns-clause-longest c =
    let net = c.args.topology.now in
    let numbers = c.args.numbering.now in
    let held = c.args.held.now in
    let landmarks : List ℕ = held.owners.landmarks.items in
    let u = c.args.u in
    let own : ℕ = slice_index numbers.labels u in
    runs_all (node_count net) own (MayTakePort net (IsLandmarkBound net landmarks held.stretch) numbers.order own) c.loop-p.p c.loop-p.counts.items c.loop-p.ports.items
    (λ d q past. no_port_past net c.nodes-nodes.ensures.topology landmarks held.stretch numbers.order numbers.labels c.requires.labels u c.requires.node d q (omega (arith, past, c.degree-p-end.ensures, c.loop-p-test.false))) c.loop-p.invariant

use Rattle.std.proofs.Common.{◌<◌, ◌∙◌, ℕ, Bool, List, length, drop, subst, sym, arith}
use Rattle.std.proofs.lemmas.Bool.{eqb-true}
use Rattle.std.proofs.lemmas.List.{take_at}
use Rattle.ir_model.proofs.Walks.{degree_bound}
use Rattle.ir_tables.specs.FromNode.{AreLedBy}
use Rattle.ir_plan.proofs.BestRuns.{runs_none, runs_more, runs_same, runs_all}
use Rattle.ir_plan.proofs.CompactRows.{marks_led, none_may}
use Rattle.ir_plan.proofs.compact.longest_runs.Goals as goal
use Rattle.ir_plan.proofs.compact.longest_runs.Goals.{then-not-is_empty+in_ok-marks, else-not-is_empty}

pub overflow_cast-p : goal.overflow_cast-p
overflow_cast-p c =
    let degree = degree_bound c.args.topology.now c.nodes-nodes.ensures.topology c.args.u in
    let few = c.nodes-nodes.ensures.topology.few_nodes in
    let ports = c.degree-p-end.ensures in
    let below = c.loop-p-test.true in
    omega arith

pub marks_of-requires-clause-nodes : goal.marks_of-requires-clause-nodes
marks_of-requires-clause-nodes c = rw c.nodes-nodes.ensures.count c.in_ok-led.ensures.node

pub loop-p-init : goal.loop-p-init
loop-p-init c =
    let numbers = c.args.numbering.now in
    runs_none c.args.topology.now numbers.order numbers.labels c.args.u _ _ _ c.nodes-nodes.ensures.count
    (c.in_ok-counts.ensures.items_if_clones_equal (λ y e. e)) (c.in_ok-ports.ensures.items_if_clones_equal (λ y e. e))

pub nodes_by-requires-clause-distances : goal.nodes_by-requires-clause-distances
nodes_by-requires-clause-distances c = rw c.requires.source c.requires.distances

pub nodes_by-requires-clause-port : goal.nodes_by-requires-clause-port
nodes_by-requires-clause-port c = rw (c.requires.source, ← c.degree-p-end.ensures) c.loop-p-test.true

pub keep_longer-requires-clause-every : goal.keep_longer-requires-clause-every
keep_longer-requires-clause-every c = rw (c.nodes-nodes.ensures.count, c.as_slice.ensures.value) (rw c.nodes-nodes.ensures.count at c.in_ok-marks.ensures.marks).every

pub keep_longer-requires-clause-own : goal.keep_longer-requires-clause-own
keep_longer-requires-clause-own c = rw (c.nodes-nodes.ensures.count, c.label_of-own.ensures) (c.requires.labels.label c.args.u c.requires.distances.node)

pub keep_longer-requires-clause-marked : goal.keep_longer-requires-clause-marked
keep_longer-requires-clause-marked c = rw (c.as_slice.ensures.value, c.as_slice-then-not-is_empty.ensures.value) c.in_ok-marks.ensures.marked

pub keep_longer-requires-clause-counts : goal.keep_longer-requires-clause-counts
keep_longer-requires-clause-counts c = rw (c.nodes-nodes.ensures.count, c.as_mut_slice.ensures.value) c.loop-p.invariant.counts_len

pub keep_longer-requires-clause-ports : goal.keep_longer-requires-clause-ports
keep_longer-requires-clause-ports c = rw (c.nodes-nodes.ensures.count, c.as_mut_slice-then-not-is_empty.ensures.value) c.loop-p.invariant.ports_len

pub loop-p-preserved : goal.loop-p-preserved
loop-p-preserved c =
    let net = c.args.topology.now in
    let numbers = c.args.numbering.now in
    let u = c.args.u in
    let p : ℕ = c.loop-p.p in
    let v = c.loop-p.invariant in
    let ok = c.nodes-nodes.ensures.topology in
    let named = c.requires.labels in
    let node = c.requires.distances.node in
    let led : List ℕ = c.in_ok-led.led.items in
    let by = subst (λ (x : ℕ). AreLedBy net x p led) c.requires.source c.in_ok-led.ensures in
    elim c.if-not-is_empty.branch [
      | then-not-is_empty+in_ok-marks w ↦
          let counts = w.keep_longer.new.counts in
          let ports = w.keep_longer.new.ports in
          let counts_len = w.keep_longer.ensures.counts ∙ c.nodes-nodes.ensures.count in
          let ports_len = w.keep_longer.ensures.ports ∙ c.nodes-nodes.ensures.count in
          let counts_back = take_at counts (drop (length counts) c.loop-p.counts.items) c.loop-p.counts.len (omega (arith, counts_len, v.counts_len, c.loop-p.counts.ok.0)) in
          let ports_back = take_at ports (drop (length ports) c.loop-p.ports.items) c.loop-p.ports.len (omega (arith, ports_len, v.ports_len, c.loop-p.ports.ok.0)) in
          let marks : List Bool = w.in_ok-marks.marks.items in
          let of_led = rw c.nodes-nodes.ensures.count at w.in_ok-marks.ensures.marks in
          let tied = marks_led net numbers.order u p led marks by of_led in
          let longer = rw (c.nodes-nodes.ensures.count, c.label_of-own.ensures, w.as_slice.ensures.value, w.as_mut_slice.ensures.value, w.as_mut_slice-then-not-is_empty.ensures.value) at w.keep_longer.ensures.longer in
          rw (w.counts-is, w.ports-is, counts_back, ports_back)
          (runs_more net ok numbers.order numbers.labels named u node p marks c.loop-p.counts.items c.loop-p.ports.items counts ports tied v counts_len ports_len longer)
      | else-not-is_empty w ↦
          rw (w.counts-is, w.ports-is)
          (runs_same net ok numbers.order numbers.labels named u node p c.loop-p.counts.items c.loop-p.ports.items
          (none_may net ok numbers.order numbers.labels named u node p led by (let none = eqb-true _ _ (sym c.is_empty.ensures ∙ w.if-not-is_empty.false) in omega (arith, none, c.in_ok-led.led.ok.0))) v)
    ]

pub returns-clause-longest : goal.returns-clause-longest
returns-clause-longest c =
    let numbers = c.args.numbering.now in
    runs_all c.args.topology.now c.nodes-nodes.ensures.topology numbers.order numbers.labels c.requires.labels c.args.u c.requires.distances.node c.loop-p.p c.loop-p.counts.items c.loop-p.ports.items
    (omega (arith, c.degree-p-end.ensures, c.loop-p-test.false)) c.loop-p.invariant

pub overflow_cast-nodes : goal.overflow_cast-nodes
overflow_cast-nodes c =
    let few = c.nodes-nodes.ensures.topology.few_nodes in
    let count = c.nodes-nodes.ensures.count in
    omega (arith, few, count)

pub label_of-own-requires : goal.label_of-own-requires
label_of-own-requires c = subst (λ (n : ℕ). c.args.u < n) (sym c.requires.labels.every_label) c.requires.distances.node

pub degree-p-end-requires : goal.degree-p-end-requires
degree-p-end-requires c = c.requires.distances.node

pub marks_of-requires-clause-labels : goal.marks_of-requires-clause-labels
marks_of-requires-clause-labels c = rw c.nodes-nodes.ensures.count c.requires.labels

pub returns-clause-counts : goal.returns-clause-counts
returns-clause-counts c = c.loop-p.invariant.counts_len

pub returns-clause-ports : goal.returns-clause-ports
returns-clause-ports c = c.loop-p.invariant.ports_len

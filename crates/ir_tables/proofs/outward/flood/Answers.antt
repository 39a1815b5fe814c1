use Rattle.std.proofs.Common.{◌<◌, ◌∙◌, ℕ, List, length, ap, arith}
use Rattle.std.specs.Prelude.{slice_index_or}
use Rattle.std.proofs.lemmas.List.{get_or_read}
use Rattle.std.proofs.lemmas.List.Elements.{Contains-get_or}
use Rattle.ir_model.proofs.Walks.{degree_bound}
use Rattle.ir_tables.proofs.Flooding.{no_marks, flooding_start, flooding_step, flooding_done, nothing_led}
use Rattle.ir_tables.proofs.outward.flood.Goals as goal

pub overflow_cast-p : goal.overflow_cast-p
overflow_cast-p c =
    let degree = degree_bound c.args.topology.now c.nodes-nodes.ensures.topology c.args.u in
    let few = c.nodes-nodes.ensures.topology.few_nodes in
    let port = c.requires.port in
    omega arith

pub returns-then-not-is_tight : goal.returns-then-not-is_tight
returns-then-not-is_tight c =
    rw c.new.ensures.items
    (nothing_led c.args.topology.now c.nodes-nodes.ensures.topology c.args.u c.args.weights.now c.requires.distances c.args.p c.port-first.result c.port-first.ensures
    (λ tight. let t = c.is_tight.ensures.1 tight in cc (t, c.if-not-is_tight.true)))

pub loop-passed-init : goal.loop-passed-init
loop-passed-init c =
    let bare = c.in_ok-marks.ensures.items_if_clones_equal (λ y e. e) ∙ ap no_marks c.nodes-nodes.ensures.count in
    rw (c.in_ok-push.ensures.items, c.in_ok-led.ensures.items, bare)
    (flooding_start c.args.topology.now c.nodes-nodes.ensures.topology c.args.u c.args.weights.now c.requires.distances c.args.p c.port-first.result c.port-first.ensures
    (c.is_tight.ensures.0 c.if-not-is_tight.false))

pub pass_on-requires-clause-node : goal.pass_on-requires-clause-node
pass_on-requires-clause-node c =
    let led : List ℕ = c.loop-passed.led.items in
    let inside : c.loop-passed.passed < length led = omega (arith, c.loop-passed-test.true, c.len.ensures) in
    let x = get_or_read led c.loop-passed.passed c.index-x.result.now inside c.index-x.ensures 0 in
    rw x (c.loop-passed.invariant.nearer (slice_index_or led c.loop-passed.passed 0) (Contains-get_or led c.loop-passed.passed 0 inside)).0

pub loop-passed-preserved : goal.loop-passed-preserved
loop-passed-preserved c =
    let led : List ℕ = c.loop-passed.led.items in
    let inside : c.loop-passed.passed < length led = omega (arith, c.loop-passed-test.true, c.len.ensures) in
    let x = get_or_read led c.loop-passed.passed c.index-x.result.now inside c.index-x.ensures 0 in
    flooding_step c.args.topology.now c.nodes-nodes.ensures.topology c.args.u c.args.weights.now c.requires.distances c.args.p c.port-first.result c.port-first.ensures
    c.port-first.result.node c.loop-passed.passed c.index-x.result.now c.loop-passed.marks.items c.pass_on.new.marks.items led c.pass_on.new.led.items
    inside x c.in_ok-pass_on.ensures c.loop-passed.invariant

pub returns : goal.returns
returns c =
    flooding_done c.args.topology.now c.nodes-nodes.ensures.topology c.args.u c.args.weights.now c.requires.distances c.args.p c.port-first.result c.port-first.ensures
    c.loop-passed.passed c.loop-passed.marks.items c.loop-passed.led.items (omega (arith, c.loop-passed-test.false, c.len.ensures)) c.loop-passed.invariant

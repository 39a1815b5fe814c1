use Rattle.std.proofs.Common.{◌≡◌, ◌+◌, ◌<◌, ℕ, List, Bool, true, [], None, Some, length, set, slice_index_or, ap, sym, subst, ◌∙◌, arith}
use Rattle.std.specs.Global.{Vec}
use Rattle.std.proofs.lemmas.List.{get_or_read, map-set}
use Rattle.ir_model.specs.declared.Hop.{Hop}
use Rattle.ir_model.specs.Topology.{node_count, port_at}
use Rattle.ir_model.specs.Plan.{table_port, node_in}
use Rattle.ir_model.proofs.Walks.{port_facts}
use Rattle.ir_figures.specs.Arcs.{marks_of}
use Rattle.ir_figures.specs.Exits.{exits_before, AreLinks, WaitsSoFar}
use Rattle.ir_figures.proofs.Marks.{marks_len, marks_at}
use Rattle.ir_figures.proofs.Offsets.{before_more, before_mono}
use Rattle.ir_figures.proofs.Onward.{port_below}
use Rattle.ir_figures.proofs.SoFar.{one_marked, node_passed_by}
use Rattle.ir_figures.proofs.waits.mark_way.Goals as goal

pub hop-next-requires-clause-port : goal.hop-next-requires-clause-port
hop-next-requires-clause-port c =
    let s = c.args.plan.now in
    port_below s c.requires.plan c.args.u (node_in s c.args.a) c.in-Some.p c.requires.node (c.requires.plan.labels.node c.args.a c.requires.label) (sym (c.requires.column.each c.args.u c.requires.node) ∙ c.in-Some.is)

pub index_mut-requires : goal.index_mut-requires
index_mut-requires c =
    let s = c.args.plan.now in
    let net = s.topology in
    let marks = c.args.links.now.marks in
    let p_in = port_below s c.requires.plan c.args.u (node_in s c.args.a) c.in-Some.p c.requires.node (c.requires.plan.labels.node c.args.a c.requires.label) (sym (c.requires.column.each c.args.u c.requires.node) ∙ c.in-Some.is) in
    omega (arith, c.requires.first.1.starts c.args.u c.requires.node, p_in, before_more net c.args.u c.requires.node, before_mono net (c.args.u + 1) (node_count net) (omega (arith, c.requires.node)) (omega arith), c.requires.links.every_row, marks_len marks.items, marks.ok)

pub mark-requires : goal.mark-requires
mark-requires c =
    let s = c.args.plan.now in
    let net = s.topology in
    let marks = c.args.links.now.marks in
    let hop = c.hop-next.result in
    let leaves = sym (c.requires.column.each c.args.u c.requires.node) ∙ c.in-Some.is in
    let goal_in = c.requires.plan.labels.node c.args.a c.requires.label in
    let p_in = port_below s c.requires.plan c.args.u (node_in s c.args.a) c.in-Some.p c.requires.node goal_in leaves in
    let begins = c.requires.first.1.starts c.args.u c.requires.node in
    let below : exits_before net c.args.u + c.in-Some.p < exits_before net (node_count net) = omega (arith, p_in, before_more net c.args.u c.requires.node, before_mono net (c.args.u + 1) (node_count net) (omega (arith, c.requires.node)) (omega arith)) in
    let place : slice_index_or c.args.first.now c.args.u 0 + c.in-Some.p ≡ exits_before net c.args.u + c.in-Some.p = omega (arith, begins) in
    let next_in : hop.node < node_count net = (port_facts net c.requires.plan.topology c.args.u c.in-Some.p hop c.hop-next.ensures).to in
    let goes_on = sym (c.requires.column.each hop.node next_in) ∙ c.in-Some-column.is in
    let goes_in = port_below s c.requires.plan hop.node (node_in s c.args.a) c.in-Some-column.q next_in goal_in goes_on in
    let in_rows : slice_index_or c.args.first.now c.args.u 0 + c.in-Some.p < length marks.items = omega (arith, place, below, c.requires.links.every_row, marks_len marks.items) in
    let read = get_or_read marks.items (slice_index_or c.args.first.now c.args.u 0 + c.in-Some.p) c.index_mut.result.now in_rows c.index_mut.ensures.value c.index_mut.result.now in
    let row_is = marks_at marks.items (slice_index_or c.args.first.now c.args.u 0 + c.in-Some.p) c.index_mut.result.now in_rows read in
    (one_marked s c.requires.plan c.args.links.now.begins.items c.args.a c.args.u c.in-Some.p c.in-Some-column.q hop c.requires.node c.requires.label c.hop-next.ensures leaves goes_on goes_in
    (marks_of marks.items) (exits_before net (node_count net)) c.index_mut.result.now.items p_in below (sym row_is ∙ ap (λ (x : ℕ). slice_index_or (marks_of marks.items) x []) place) c.requires.links).0

pub returns-in-Some-column : goal.returns-in-Some-column
returns-in-Some-column c =
    let s = c.args.plan.now in
    let net = s.topology in
    let marks = c.args.links.now.marks in
    let hop = c.hop-next.result in
    let leaves = sym (c.requires.column.each c.args.u c.requires.node) ∙ c.in-Some.is in
    let goal_in = c.requires.plan.labels.node c.args.a c.requires.label in
    let p_in = port_below s c.requires.plan c.args.u (node_in s c.args.a) c.in-Some.p c.requires.node goal_in leaves in
    let begins = c.requires.first.1.starts c.args.u c.requires.node in
    let at : ℕ = slice_index_or c.args.first.now c.args.u 0 + c.in-Some.p in
    let below : exits_before net c.args.u + c.in-Some.p < exits_before net (node_count net) = omega (arith, p_in, before_more net c.args.u c.requires.node, before_mono net (c.args.u + 1) (node_count net) (omega (arith, c.requires.node)) (omega arith)) in
    let place : at ≡ exits_before net c.args.u + c.in-Some.p = omega (arith, begins) in
    let next_in : hop.node < node_count net = (port_facts net c.requires.plan.topology c.args.u c.in-Some.p hop c.hop-next.ensures).to in
    let goes_on = sym (c.requires.column.each hop.node next_in) ∙ c.in-Some-column.is in
    let goes_in = port_below s c.requires.plan hop.node (node_in s c.args.a) c.in-Some-column.q next_in goal_in goes_on in
    let in_rows : at < length marks.items = omega (arith, place, below, c.requires.links.every_row, marks_len marks.items) in
    let read = get_or_read marks.items at c.index_mut.result.now in_rows c.index_mut.ensures.value c.index_mut.result.now in
    let row_is = marks_at marks.items at c.index_mut.result.now in_rows read in
    let done = (one_marked s c.requires.plan c.args.links.now.begins.items c.args.a c.args.u c.in-Some.p c.in-Some-column.q hop c.requires.node c.requires.label c.hop-next.ensures leaves goes_on goes_in
    (marks_of marks.items) (exits_before net (node_count net)) c.index_mut.result.now.items p_in below (sym row_is ∙ ap (λ (x : ℕ). slice_index_or (marks_of marks.items) x []) place) c.requires.links).1 in
    let rows : marks_of (set marks.items at c.mark.new.row) ≡ set (marks_of marks.items) (exits_before net c.args.u + c.in-Some.p) (set c.index_mut.result.now.items c.in-Some-column.q true) =
    map-set (λ (r : Vec Bool). r.items) marks.items at c.mark.new.row ∙ ap (λ (x : ℕ). set (marks_of marks.items) x c.mark.new.row.items) place ∙ ap (set (marks_of marks.items) (exits_before net c.args.u + c.in-Some.p)) c.mark.ensures in
    subst (λ (xs : List (List Bool)). AreLinks net (WaitsSoFar s c.args.a (c.args.u + 1)) c.args.links.now.begins.items xs (exits_before net (node_count net))) (sym rows) done

pub returns-in_default-column : goal.returns-in_default-column
returns-in_default-column c =
    let s = c.args.plan.now in
    let net = s.topology in
    let hop = c.hop-next.result in
    let leaves = sym (c.requires.column.each c.args.u c.requires.node) ∙ c.in-Some.is in
    let next_in : hop.node < node_count net = (port_facts net c.requires.plan.topology c.args.u c.in-Some.p hop c.hop-next.ensures).to in
    let none : table_port s hop.node (node_in s c.args.a) ≡ None = sym (c.requires.column.each hop.node next_in) ∙ c.in_default-column.is in
    node_passed_by s c.requires.plan c.args.links.now.begins.items c.args.a c.args.u (marks_of c.args.links.now.marks.items) (exits_before net (node_count net))
    (λ p v q by other leads on.
    let same : p ≡ c.in-Some.p = cc (by, leaves) in
    let hop_same : other ≡ hop = cc (subst (λ (x : ℕ). port_at net c.args.u x ≡ Some other) same leads, c.hop-next.ensures) in
    let on' : table_port s hop.node (node_in s c.args.a) ≡ Some q = ap (λ (h : Hop). table_port s h.node (node_in s c.args.a)) (sym hop_same) ∙ on in
    cc (none, on'))
    c.requires.links

pub returns-in_default : goal.returns-in_default
returns-in_default c =
    let s = c.args.plan.now in
    let net = s.topology in
    let none : table_port s c.args.u (node_in s c.args.a) ≡ None = sym (c.requires.column.each c.args.u c.requires.node) ∙ c.in_default.is in
    node_passed_by s c.requires.plan c.args.links.now.begins.items c.args.a c.args.u (marks_of c.args.links.now.marks.items) (exits_before net (node_count net)) (λ p v q by other leads on. cc (none, by)) c.requires.links

use Rattle.std.proofs.Common.{◌≡◌, ◌+◌, ◌<◌, ◌++◌, ◌∷◌, [], ℕ, Bool, List, length, slice_index, ap, sym, subst, ◌∙◌, arith}
use Rattle.ir_model.specs.Topology.{Topology, IsTopology, node_count, ports_of}
use Rattle.ir_model.proofs.Walks.{port_facts}
use Rattle.ir_figures.specs.Arcs.{marks_of}
use Rattle.ir_figures.specs.Exits.{exits_before, AreLinks, WaitsSoFar}
use Rattle.ir_figures.proofs.Offsets.{degree_le, before_more}
use Rattle.ir_figures.proofs.Links.{links_more, marks_push}
use Rattle.ir_figures.proofs.SoFar.{none_waits}
use Rattle.ir_figures.proofs.waits.push_links.Goals as goal

pub overflow_cast-p : goal.overflow_cast-p
overflow_cast-p c =
    let net = c.args.plan.now.topology in
    let ok : IsTopology net = c.requires.plan.topology in
    omega (arith, c.loop-p-test.true, c.degree-p-end.ensures, ap (λ (x : Topology). length (ports_of x c.args.u)) c.topology.ensures, degree_le net ok c.args.u, ok.few_nodes)

pub loop-p-preserved : goal.loop-p-preserved
loop-p-preserved c =
    let s = c.args.plan.now in
    let p_in : c.loop-p.p < length (ports_of s.topology c.args.u) = omega (arith, c.loop-p-test.true, c.degree-p-end.ensures, ap (λ (x : Topology). length (ports_of x c.args.u)) c.topology.ensures) in
    let hop = c.hop-next.result in
    let blocks = c.loop-p.links.begins.items in
    let rows = c.loop-p.links.marks.items in
    let row = c.in_ok-marks.marks in
    let next_in : hop.node < node_count s.topology = (port_facts s.topology c.requires.plan.topology c.args.u c.loop-p.p hop c.hop-next.ensures).to in
    let begins : slice_index c.args.first.now hop.node ≡ exits_before s.topology hop.node = c.requires.first.1.starts hop.node next_in in
    let waited = none_waits s c.args.u c.loop-p.p hop.node row.items c.degree.result c.in_ok-marks.ensures (c.degree.ensures ∙ ap (λ (x : Topology). length (ports_of x hop.node)) c.topology-in-loop-p.ensures) in
    let done = links_more s.topology (WaitsSoFar s 0 0) blocks (marks_of rows) (slice_index c.args.first.now hop.node) row.items c.args.u c.loop-p.p (exits_before s.topology c.args.u + c.loop-p.p) hop
    c.requires.node p_in (omega arith) c.hop-next.ensures begins waited c.loop-p.invariant in
    let count : exits_before s.topology c.args.u + c.loop-p.p + 1 ≡ exits_before s.topology c.args.u + (c.loop-p.p + 1) = omega arith in
    let pushed = ap marks_of c.in_ok-push.ensures.items ∙ marks_push rows row in
    subst (AreLinks s.topology (WaitsSoFar s 0 0) c.push-in-loop-p.new.self.items (marks_of c.push.new.self.items)) count
    (subst (λ (xs : List (List Bool)). AreLinks s.topology (WaitsSoFar s 0 0) c.push-in-loop-p.new.self.items xs (exits_before s.topology c.args.u + c.loop-p.p + 1)) (sym pushed)
    (subst (λ (xs : List ℕ). AreLinks s.topology (WaitsSoFar s 0 0) xs (marks_of rows ++ row.items ∷ []) (exits_before s.topology c.args.u + c.loop-p.p + 1)) (sym c.in_ok-push-2.ensures.items) done))

pub returns : goal.returns
returns c =
    let s = c.args.plan.now in
    let p_end : c.loop-p.p ≡ length (ports_of s.topology c.args.u) =
    omega (arith, c.loop-p-test.false, c.loop-p.auto.p-end, c.degree-p-end.ensures, ap (λ (x : Topology). length (ports_of x c.args.u)) c.topology.ensures) in
    let next : exits_before s.topology c.args.u + c.loop-p.p ≡ exits_before s.topology (c.args.u + 1) = omega (arith, p_end, before_more s.topology c.args.u c.requires.node) in
    subst (AreLinks s.topology (WaitsSoFar s 0 0) c.loop-p.links.begins.items (marks_of c.loop-p.links.marks.items)) next c.loop-p.invariant

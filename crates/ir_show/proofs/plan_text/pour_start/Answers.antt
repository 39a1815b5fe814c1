use Rattle.std.proofs.Common.{◌≡◌, ◌<◌, ◌∙◌, ◌++◌, ℕ, ap, sym, subst, arith, length, get_or, decimal, flat_map, [], refl}
use Rattle.ir_model.specs.Graph.{names}
use Rattle.ir_model.specs.Topology.{ports_of}
use Rattle.ir_model.specs.Plan.{row_in}
use Rattle.ir_model.proofs.Rows.{no_start}
use Rattle.ir_model.proofs.Walks.{port_facts}
use Rattle.ir_trace.specs.Rows.{spaced}
use Rattle.ir_trace.specs.Written.{name_at}
use Rattle.ir_streams.proofs.Poured.{pours_on}
use Rattle.ir_show.specs.PlanText.{start_words}
use Rattle.ir_show.proofs.PlanLines.{leads, start_line}
use Rattle.ir_show.proofs.Pieces.{start_read, spaced_at, spaced_count}
use Rattle.ir_show.proofs.plan_text.pour_start.Goals as goal

pub push_text-requires : goal.push_text-requires
push_text-requires g c =
    let p = c.args.pieces.now in
    let is = c.requires.pieces in
    let row = row_in p.plan c.args.u in
    let label = start_read (λ t. t.label) row c.row-row.result.now c.args.i c.start.result c.start.ensures c.row-row.ensures.row c.requires.place in
    let within = (leads p.plan is.plan c.args.u c.args.i (rw is.nodes c.requires.node) c.requires.place).label in
    let count = spaced_count decimal (length p.graph) p.numbers is.numbers in
    let nodes = is.nodes in
    omega (arith)

pub hop-hop-requires-clause-port : goal.hop-hop-requires-clause-port
hop-hop-requires-clause-port g c =
    let p = c.args.pieces.now in
    let is = c.requires.pieces in
    let row = row_in p.plan c.args.u in
    let port = start_read (λ t. t.port) row c.row-row.result.now c.args.i c.port.result c.port.ensures c.row-row.ensures.row c.requires.place in
    subst (λ (q : ℕ). q < length (ports_of p.plan.topology c.args.u)) (sym port) (leads p.plan is.plan c.args.u c.args.i (rw is.nodes c.requires.node) c.requires.place).port

pub push_text-requires-2 : goal.push_text-requires-2
push_text-requires-2 g c =
    let p = c.args.pieces.now in
    let is = c.requires.pieces in
    let to = (port_facts p.plan.topology is.plan.topology c.args.u c.port.result c.hop-hop.result c.hop-hop.ensures).to in
    let count = spaced_count (name_at (names p.graph)) (length p.graph) p.names is.names in
    let nodes = is.nodes in
    omega (arith)

pub returns : goal.returns
returns g c =
    let p = c.args.pieces.now in
    let is = c.requires.pieces in
    let s = p.plan in
    let row = row_in s c.args.u in
    let start = get_or row c.args.i no_start in
    let label = start_read (λ t. t.label) row c.row-row.result.now c.args.i c.start.result c.start.ensures c.row-row.ensures.row c.requires.place in
    let port = start_read (λ t. t.port) row c.row-row.result.now c.args.i c.port.result c.port.ensures c.row-row.ensures.row c.requires.place in
    let within = (leads s is.plan c.args.u c.args.i (rw is.nodes c.requires.node) c.requires.place).label in
    let to = (port_facts s.topology is.plan.topology c.args.u c.port.result c.hop-hop.result c.hop-hop.ensures).to in
    let nodes = is.nodes in
    let number : get_or p.numbers c.start.result [] ≡ spaced (decimal c.start.result) = spaced_at decimal (length p.graph) p.numbers is.numbers c.start.result (omega arith) in
    let name : get_or p.names c.hop-hop.result.node [] ≡ spaced (name_at (names p.graph) c.hop-hop.result.node) =
    spaced_at (name_at (names p.graph)) (length p.graph) p.names is.names c.hop-hop.result.node (omega arith) in
    pours_on g.W.Writer.contents g.W.Writer.wrote g.W.Writer.settled c.args.writer.now c.args.parts.now (get_or p.numbers c.start.result []) c.push_text.new.writer c.push_text.new.self
    (get_or p.names c.hop-hop.result.node []) c.push_text-2.new.writer c.push_text-2.new.self
    c.push_text.ensures.writes c.push_text-2.ensures.writes (flat_map spaced (start_words (names p.graph) s.topology c.args.u start))
    (ap (λ t. t ++ get_or p.names c.hop-hop.result.node []) number ∙ ap (λ t. spaced (decimal c.start.result) ++ t) name
    ∙ start_line (names p.graph) s.topology c.args.u start c.start.result c.port.result c.hop-hop.result (name_at (names p.graph) c.hop-hop.result.node) label port c.hop-hop.ensures refl)

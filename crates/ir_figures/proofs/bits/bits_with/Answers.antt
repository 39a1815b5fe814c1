use Rattle.std.proofs.Common.{◌≡◌, ◌+◌, ◌-◌, ◌*◌, ◌≤◌, ℕ, length, ap, sym, subst, ◌∙◌, arith}
use Rattle.ir_model.specs.Topology.{Topology, node_count, ports_of}
use Rattle.ir_prefix.specs.Longest.{IsWidth}
use Rattle.ir_figures.specs.RowBits.{AreBitsBefore}
use Rattle.ir_figures.proofs.Widths.{row_short, narrow, light_row, light_table, bits_more}
use Rattle.ir_figures.proofs.Offsets.{degree_le}
use Rattle.ir_figures.proofs.bits.bits_with.Goals as goal

pub overflow_cast-degree : goal.overflow_cast-degree
overflow_cast-degree c =
    let net = c.args.plan.now.topology in
    omega (arith, c.degree.ensures, ap (λ (x : Topology). length (ports_of x c.args.u)) c.topology.ensures, degree_le net c.requires.plan.topology c.args.u, c.requires.plan.topology.few_nodes)

pub overflow_mul-result : goal.overflow_mul-result
overflow_mul-result c =
    let s = c.args.plan.now in
    let few = s.topology in
    let starts : c.len-starts.result ≤ 32768 = omega (arith, c.len-starts.ensures.len ∙ ap length c.row.ensures.row, row_short s c.requires.plan c.args.u c.requires.node) in
    let label : c.args.label ≤ 16 = narrow (node_count s.topology) c.args.label (omega (arith, c.requires.plan.topology.few_nodes)) c.requires.label in
    let degree : c.degree.result ≤ 65536 = omega (arith, c.degree.ensures, ap (λ (x : Topology). length (ports_of x c.args.u)) c.topology.ensures, degree_le s.topology c.requires.plan.topology c.args.u, c.requires.plan.topology.few_nodes) in
    let port : c.width-port.result ≤ 16 = narrow c.degree.result c.width-port.result degree c.width-port.ensures in
    omega (arith, light_row c.len-starts.result c.args.label c.width-port.result starts label port)

pub overflow_add-result-2 : goal.overflow_add-result-2
overflow_add-result-2 c =
    let s = c.args.plan.now in
    let starts : c.len-starts.result ≤ 32768 = omega (arith, c.len-starts.ensures.len ∙ ap length c.row.ensures.row, row_short s c.requires.plan c.args.u c.requires.node) in
    let label : c.args.label ≤ 16 = narrow (node_count s.topology) c.args.label (omega (arith, c.requires.plan.topology.few_nodes)) c.requires.label in
    let degree : c.degree.result ≤ 65536 = omega (arith, c.degree.ensures, ap (λ (x : Topology). length (ports_of x c.args.u)) c.topology.ensures, degree_le s.topology c.requires.plan.topology c.args.u, c.requires.plan.topology.few_nodes) in
    let port : c.width-port.result ≤ 16 = narrow c.degree.result c.width-port.result degree c.width-port.ensures in
    omega (arith, light_row c.len-starts.result c.args.label c.width-port.result starts label port, c.requires.light.0, c.requires.node, c.requires.plan.topology.few_nodes)

pub returns-clause-light : goal.returns-clause-light
returns-clause-light c =
    let s = c.args.plan.now in
    let starts : c.len-starts.result ≤ 32768 = omega (arith, c.len-starts.ensures.len ∙ ap length c.row.ensures.row, row_short s c.requires.plan c.args.u c.requires.node) in
    let label : c.args.label ≤ 16 = narrow (node_count s.topology) c.args.label (omega (arith, c.requires.plan.topology.few_nodes)) c.requires.label in
    let degree : c.degree.result ≤ 65536 = omega (arith, c.degree.ensures, ap (λ (x : Topology). length (ports_of x c.args.u)) c.topology.ensures, degree_le s.topology c.requires.plan.topology c.args.u, c.requires.plan.topology.few_nodes) in
    let port : c.width-port.result ≤ 16 = narrow c.degree.result c.width-port.result degree c.width-port.ensures in
    let nodes : c.nodes-nodes.result ≤ 32768 = omega (arith, c.nodes-nodes.ensures.count, c.requires.plan.topology.few_nodes) in (
      omega (arith, light_row c.len-starts.result c.args.label c.width-port.result starts label port, c.requires.light.0),
      omega (arith, light_table c.nodes-nodes.result c.width-port.result nodes port, c.requires.light.1),
    )

pub returns-clause-bits : goal.returns-clause-bits
returns-clause-bits c =
    let s = c.args.plan.now in
    let degree : c.degree.result ≡ length (ports_of s.topology c.args.u) = c.degree.ensures ∙ ap (λ (x : Topology). length (ports_of x c.args.u)) c.topology.ensures in
    let port = subst (λ (x : ℕ). IsWidth x c.width-port.result) degree c.width-port.ensures in
    let done = bits_more s c.args.u c.args.before.rows c.args.before.tables c.len-starts.result c.args.label c.width-port.result c.requires.node (c.len-starts.ensures.len ∙ ap length c.row.ensures.row) c.requires.label port c.requires.before in
    subst (λ (n : ℕ). AreBitsBefore s (c.args.u + 1) (c.args.before.rows + c.len-starts.result * (c.args.label + c.width-port.result)) (c.args.before.tables + (n - 1) * c.width-port.result)) (sym c.nodes-nodes.ensures.count) done

use Rattle.std.proofs.Common.{◌≡◌, ◌∙◌, ◌++◌, ℕ, List, [], ap, sym, append_assoc, arith, flat_map, length, string_bytes}
use Rattle.std.specs.List.{range_with_len}
use Rattle.std.proofs.lemmas.List.{append-nil}
use Rattle.ir_model.specs.Graph.{names}
use Rattle.ir_model.specs.Topology.{Topology, node_count, ports_of}
use Rattle.ir_show.proofs.PlanLines.{nodes_more}
use Rattle.ir_exports.specs.Ports.{shown_ports}
use Rattle.ir_exports.specs.Ring.{edge_of_ring, node_of_ring, port_box, ring_head}
use Rattle.ir_exports.proofs.circle.ring.circle_dot.Goals as goal

pub loop-port-init : goal.loop-port-init
loop-port-init c =
    rw (c.in_ok-push_ring_edges.ensures, c.in_ok-push_ring_nodes.ensures, c.in_ok-push_ring_head.ensures, c.new-text.ensures.bytes)
    (sym (append-nil _))

pub loop-port-preserved : goal.loop-port-preserved
loop-port-preserved c =
    let nodes = names c.args.graph.now in
    let plan = c.args.plan.now in
    let n = node_count plan.topology in
    let ring : List ℕ = (ring_head ++ flat_map (node_of_ring nodes plan c.args.u) (range_with_len 0 n)) ++ flat_map (edge_of_ring nodes plan) (range_with_len 0 n) in
    let line = port_box nodes plan c.args.u in
    c.in_ok-push_port_box.ensures ∙ ap (λ t. t ++ line c.loop-port.port) c.loop-port.invariant ∙ nodes_more line c.loop-port.port ring

pub returns : goal.returns
returns c =
    let ports : c.degree-ports.result ≡ length (ports_of c.args.plan.now.topology c.args.u) = c.degree-ports.ensures ∙ ap (λ (net : Topology). length (ports_of net c.args.u)) c.topology.ensures in
    let all : c.loop-port.port ≡ shown_ports c.degree-ports.result = omega (arith, c.loop-port-test.false, c.loop-port.auto.port-end, c.shown_ports-port-end.ensures.count) in
    rw (c.in_ok-push_str.ensures.bytes, c.in_ok-push_more_box.ensures, c.loop-port.invariant, all, ports)
    (simp append_assoc)

use Rattle.std.proofs.Common.{◌≡◌, ◌∙◌, ◌++◌, ℕ, List, ap, sym, append_assoc, arith, flat_map, length, string_bytes}
use Rattle.std.specs.Prelude.{codes}
use Rattle.std.specs.List.{range_with_len}
use Rattle.std.proofs.lemmas.List.{append-nil}
use Rattle.ir_model.specs.Graph.{names}
use Rattle.ir_model.specs.Topology.{Topology, ports_of}
use Rattle.ir_show.proofs.PlanLines.{nodes_more}
use Rattle.ir_exports.specs.Circle.{key_head, more_ports, own_key, port_key}
use Rattle.ir_exports.specs.Ports.{shown_ports}
use Rattle.ir_exports.proofs.Written.{followed}
use Rattle.ir_exports.proofs.circle.key.push_key.Goals as goal

pub loop-port-init : goal.loop-port-init
loop-port-init c = rw (c.in_ok-push_own_key.ensures, c.in_ok-push_key_head.ensures) (sym (append-nil _))

pub loop-port-preserved : goal.loop-port-preserved
loop-port-preserved c =
    let nodes = names c.args.graph.now in
    let plan = c.args.plan.now in
    let lines : List ℕ = (string_bytes c.args.text.now ++ key_head) ++ own_key nodes plan c.args.u in
    let line = port_key nodes plan c.args.u in
    c.in_ok-push_port_key.ensures ∙ ap (λ t. t ++ line c.loop-port.port) c.loop-port.invariant ∙ nodes_more line c.loop-port.port lines

pub returns : goal.returns
returns c =
    let old = string_bytes c.args.text.now in
    let nodes = names c.args.graph.now in
    let plan = c.args.plan.now in
    let u = c.args.u in
    let own : List ℕ = own_key nodes plan u in
    let keys : ℕ → List ℕ = λ k. flat_map (port_key nodes plan u) (range_with_len 0 k) in
    let ports : List ℕ = keys (shown_ports (length (ports_of plan.topology u))) in
    let count : c.degree-ports.result ≡ length (ports_of plan.topology u) = c.degree-ports.ensures ∙ ap (λ (net : Topology). length (ports_of net u)) c.topology.ensures in
    let all : c.loop-port.port ≡ shown_ports c.degree-ports.result = omega (arith, c.loop-port-test.false, c.loop-port.auto.port-end, c.shown_ports-port-end.ensures.count) in
    let shown : string_bytes c.loop-port.text ≡ old ++ (key_head ++ own ++ ports) =
    followed old (key_head ++ own) ports ((old ++ key_head) ++ own) (string_bytes c.loop-port.text) (append_assoc old key_head own)
    (c.loop-port.invariant ∙ ap (λ (k : ℕ). ((old ++ key_head) ++ own) ++ keys k) (all ∙ ap shown_ports count)) in
    let here : string_bytes c.push_str.new.self ≡ old ++ (key_head ++ own ++ ports ++ more_ports c.degree-ports.result ++ codes "</g>\n") =
    followed old (key_head ++ own ++ ports ++ more_ports c.degree-ports.result) (codes "</g>\n") (string_bytes c.push_more.new.text) (string_bytes c.push_str.new.self)
    (followed old (key_head ++ own ++ ports) (more_ports c.degree-ports.result) (string_bytes c.loop-port.text) (string_bytes c.push_more.new.text) shown c.in_ok-push_more.ensures) c.in_ok-push_str.ensures.bytes in
    here
    ∙ ap (λ (k : ℕ). old ++ (key_head ++ own ++ ports ++ more_ports k ++ codes "</g>\n")) count

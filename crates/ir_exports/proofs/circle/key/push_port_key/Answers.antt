use Rattle.std.proofs.Common.{◌≡◌, ◌∙◌, ◌++◌, ℕ, List, ap, string_bytes}
use Rattle.std.specs.Prelude.{◌+◌, codes}
use Rattle.ir_model.specs.Graph.{names}
use Rattle.ir_trace.specs.Written.{name_at}
use Rattle.ir_show.specs.PlanText.{node_by}
use Rattle.ir_exports.specs.Ports.{colour, intervals_by, first_intervals}
use Rattle.ir_exports.specs.Names.{xml}
use Rattle.ir_exports.specs.Circle.{key_start}
use Rattle.ir_exports.proofs.Written.{followed}
use Rattle.ir_exports.proofs.circle.key.push_port_key.Goals as goal

pub returns : goal.returns
returns c =
    let old = string_bytes c.args.text.now in
    let plan = c.args.plan.now in
    let port = c.args.port in
    let nodes = names c.args.graph.now in
    let first = first_intervals (intervals_by plan c.args.u port) in
    let paint : c.colour.result.now ≡ colour port = c.colour.ensures in
    let node : c.node_by.result ≡ node_by plan.topology c.args.u port = c.node_by.ensures.node in
    let line : List ℕ → ℕ → List ℕ = λ ink v. old ++ (key_start (port + 1) ink ++ xml (name_at nodes v) ++ codes ":" ++ first ++ codes "</text>\n") in
    let here : string_bytes c.push_str-2.new.self ≡ old ++ (key_start (port + 1) c.colour.result.now ++ xml (name_at nodes c.node_by.result) ++ codes ":" ++ first ++ codes "</text>\n") =
    followed old (key_start (port + 1) c.colour.result.now ++ xml (name_at nodes c.node_by.result) ++ codes ":" ++ first) (codes "</text>\n") (string_bytes c.push_first.new.text) (string_bytes c.push_str-2.new.self) (followed old (key_start (port + 1) c.colour.result.now ++ xml (name_at nodes c.node_by.result) ++ codes ":") (first) (string_bytes c.push_str.new.self) (string_bytes c.push_first.new.text) (followed old (key_start (port + 1) c.colour.result.now ++ xml (name_at nodes c.node_by.result)) (codes ":") (string_bytes c.push_xml_name.new.text) (string_bytes c.push_str.new.self) (followed old (key_start (port + 1) c.colour.result.now) (xml (name_at nodes c.node_by.result)) (string_bytes c.push_key_start.new.text) (string_bytes c.push_xml_name.new.text) c.in_ok-push_key_start.ensures c.in_ok-push_xml_name.ensures) c.in_ok-push_str.ensures.bytes) c.in_ok-push_first.ensures) c.in_ok-push_str-2.ensures.bytes in
    here
    ∙ ap (λ (ink : List ℕ). line ink c.node_by.result) paint
    ∙ ap (λ (v : ℕ). line (colour port) v) node

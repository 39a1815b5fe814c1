use Rattle.std.proofs.Common.{◌≡◌, ◌∙◌, ◌++◌, ℕ, List, ap, string_bytes}
use Rattle.std.specs.Prelude.{codes, decimal}
use Rattle.ir_model.specs.Graph.{names}
use Rattle.ir_model.specs.Plan.{label_in}
use Rattle.ir_trace.specs.Written.{name_at}
use Rattle.ir_exports.specs.Ports.{ink}
use Rattle.ir_exports.specs.Names.{xml}
use Rattle.ir_exports.specs.Circle.{key_start}
use Rattle.ir_exports.proofs.Written.{followed, three}
use Rattle.ir_exports.proofs.circle.key.push_own_key.Goals as goal

pub returns : goal.returns
returns c =
    let old = string_bytes c.args.text.now in
    let name = xml (name_at (names c.args.graph.now) c.args.u) in
    let own : c.label_of-label.result ≡ label_in c.args.plan.now c.args.u = c.label_of-label.ensures in
    let here : string_bytes c.write.new.self ≡ old ++ (key_start 0 ink ++ name ++ (codes " itself: label " ++ decimal c.label_of-label.result ++ codes "</text>\n")) =
    followed old (key_start 0 ink ++ name) ((codes " itself: label " ++ decimal c.label_of-label.result ++ codes "</text>\n")) (string_bytes c.push_xml_name.new.text) (string_bytes c.write.new.self) (followed old (key_start 0 ink) (name) (string_bytes c.push_key_start.new.text) (string_bytes c.push_xml_name.new.text) c.in_ok-push_key_start.ensures c.in_ok-push_xml_name.ensures) c.in_ok-write.ensures.bytes in
    here
    ∙ ap (λ (t : List ℕ). old ++ t) (three (key_start 0 ink ++ name) (codes " itself: label ") (decimal c.label_of-label.result) (codes "</text>\n"))
    ∙ ap (λ (l : ℕ). old ++ (key_start 0 ink ++ name ++ codes " itself: label " ++ decimal l ++ codes "</text>\n")) own

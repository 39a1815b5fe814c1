use Rattle.std.proofs.Common.{◌≡◌, ◌∙◌, ◌++◌, ℕ, List, ap, string_bytes}
use Rattle.std.specs.Prelude.{codes, decimal}
use Rattle.ir_model.specs.Graph.{names}
use Rattle.ir_model.specs.Plan.{label_in}
use Rattle.ir_trace.specs.Written.{name_at}
use Rattle.ir_exports.specs.Names.{short_name}
use Rattle.ir_exports.proofs.Written.{followed, three}
use Rattle.ir_exports.proofs.circle.svg.push_middle.Goals as goal

pub returns : goal.returns
returns c =
    let old = string_bytes c.args.text.now in
    let name = short_name (name_at (names c.args.graph.now) c.args.u) in
    let own : c.label_of-label.result ≡ label_in c.args.plan.now c.args.u = c.label_of-label.ensures in
    let here : string_bytes c.write.new.self ≡ old ++ (codes "<text font-size=\"24\" text-anchor=\"middle\">" ++ name ++ (codes "</text>\n<text y=\"24\" text-anchor=\"middle\">label " ++ decimal c.label_of-label.result ++ codes "</text>\n")) =
    followed old (codes "<text font-size=\"24\" text-anchor=\"middle\">" ++ name) ((codes "</text>\n<text y=\"24\" text-anchor=\"middle\">label " ++ decimal c.label_of-label.result ++ codes "</text>\n")) (string_bytes c.push_short_name.new.text) (string_bytes c.write.new.self) (followed old (codes "<text font-size=\"24\" text-anchor=\"middle\">") (name) (string_bytes c.push_str.new.self) (string_bytes c.push_short_name.new.text) c.in_ok-push_str.ensures.bytes c.in_ok-push_short_name.ensures) c.in_ok-write.ensures.bytes in
    here
    ∙ ap (λ (t : List ℕ). old ++ t) (three (codes "<text font-size=\"24\" text-anchor=\"middle\">" ++ name) (codes "</text>\n<text y=\"24\" text-anchor=\"middle\">label ") (decimal c.label_of-label.result) (codes "</text>\n"))
    ∙ ap (λ (l : ℕ). old ++ (codes "<text font-size=\"24\" text-anchor=\"middle\">" ++ name ++ codes "</text>\n<text y=\"24\" text-anchor=\"middle\">label " ++ decimal l ++ codes "</text>\n")) own

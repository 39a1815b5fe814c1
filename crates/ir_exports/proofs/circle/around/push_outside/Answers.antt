use Rattle.std.proofs.Common.{◌++◌, ◌∙◌, List, ℕ, ap, string_bytes}
use Rattle.std.specs.Prelude.{codes}
use Rattle.ir_exports.specs.Around.{anchor, spoke}
use Rattle.ir_exports.proofs.Written.{ended, six}
use Rattle.ir_exports.proofs.circle.around.push_outside.Goals as goal

pub returns : goal.returns
returns c =
    let old = string_bytes c.args.text.now in
    let place = spoke c.args.n c.args.half_cells in
    let line : List ℕ → List ℕ → List ℕ = λ end bold. old ++ (place ++ codes "248\" text-anchor=\"" ++ end ++ codes "\"" ++ bold ++ codes ">") in
    ended c.push_str-5.result _ _ (codes ">") _ c.push_str-5.ensures.bytes
    (six old _ _ _ _ _ place (codes "248\" text-anchor=\"") c.anchor.result.now (codes "\"") c.bold_text.result.now (codes ">")
    c.in_ok-push_spoke.ensures c.in_ok-push_str.ensures.bytes c.in_ok-push_str-2.ensures.bytes c.in_ok-push_str-3.ensures.bytes c.in_ok-push_str-4.ensures.bytes
    ∙ ap (λ (end : List ℕ). line end c.bold_text.result.now) c.anchor.ensures ∙ ap (line (anchor c.args.n c.args.half_cells)) c.bold_text.ensures)

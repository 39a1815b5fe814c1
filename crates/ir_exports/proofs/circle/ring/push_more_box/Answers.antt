use Rattle.std.proofs.Common.{◌++◌, ◌-◌, Bool, [], ap, sym, string_bytes}
use Rattle.std.specs.Prelude.{if◌then◌else◌, codes, decimal}
use Rattle.std.proofs.lemmas.Bool.{lt-ltb}
use Rattle.std.proofs.lemmas.Result.{IfOk-equal}
use Rattle.ir_exports.proofs.circle.ring.push_more_box.Goals as goal

pub returns-then-count-gt30 : goal.returns-then-count-gt30
returns-then-count-gt30 c =
    let piece = codes "  \"more ports\" [fillcolor=\"#1d2733\", label=\"and " ++ decimal (c.args.count - 30) ++ codes " more ports\"];\n" in
    IfOk-equal c.write.result _ _ _ c.write.ensures.bytes
    (ap (λ (many : Bool). string_bytes c.args.text.now ++ (if many then piece else [])) (sym (lt-ltb 30 c.args.count c.if-count-gt30.true)))

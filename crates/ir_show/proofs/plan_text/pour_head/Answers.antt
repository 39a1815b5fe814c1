use Rattle.std.proofs.Common.{List, ℕ, [], ◌∷◌, ◌++◌, ◌≡◌, ◌∙◌, codes, decimal, length, sum_by, ap}
use Rattle.ir_model.specs.Topology.{node_count}
use Rattle.ir_trace.specs.Rows.{spaced}
use Rattle.ir_streams.proofs.Poured.{pours_more, pours_on}
use Rattle.ir_show.specs.PlanText.{kind_text, plan_head}
use Rattle.ir_show.specs.Words.{line_text}
use Rattle.ir_show.proofs.PlanLines.{head_line}
use Rattle.ir_show.proofs.plan_text.pour_head.Goals as goal

pub returns : goal.returns
returns g c =
    let first = c.args.writer.now in
    let kept = c.args.parts.now in
    let s = c.args.plan.now in
    let name : List ℕ = codes "plan" in
    let kind : List ℕ = c.kind_text.result.now in
    let nodes : List ℕ = decimal c.nodes.result in
    let starts : List ℕ = decimal c.labels.result in
    let two = pours_more g.W.Writer.contents g.W.Writer.wrote g.W.Writer.settled first kept name c.push.new.writer c.push.new.self (spaced kind) c.pour_word.new.writer c.pour_word.new.parts c.push.ensures.writes c.pour_word.ensures in
    let three = pours_more g.W.Writer.contents g.W.Writer.wrote g.W.Writer.settled first kept (name ++ spaced kind) c.pour_word.new.writer c.pour_word.new.parts (spaced nodes) c.pour_number.new.writer c.pour_number.new.parts two c.pour_number.ensures in
    let four = pours_more g.W.Writer.contents g.W.Writer.wrote g.W.Writer.settled first kept ((name ++ spaced kind) ++ spaced nodes) c.pour_number.new.writer c.pour_number.new.parts (spaced starts) c.pour_number-2.new.writer c.pour_number-2.new.parts three c.pour_number-2.ensures in
    let kind_is : kind ≡ kind_text s.kind = c.kind_text.ensures ∙ ap kind_text c.kind.ensures in
    let nodes_are : nodes ≡ decimal (node_count s.topology) = ap decimal c.nodes.ensures.count in
    let starts_are : starts ≡ decimal (sum_by length s.rows) = ap decimal c.labels.ensures.starts in
    let words : line_text (name ∷ kind ∷ nodes ∷ starts ∷ []) ≡ line_text (plan_head s) =
    ap (λ t. line_text (name ∷ t ∷ nodes ∷ starts ∷ [])) kind_is ∙ ap (λ t. line_text (name ∷ kind_text s.kind ∷ t ∷ starts ∷ [])) nodes_are ∙ ap (λ t. line_text (name ∷ kind_text s.kind ∷ decimal (node_count s.topology) ∷ t ∷ [])) starts_are in
    pours_on g.W.Writer.contents g.W.Writer.wrote g.W.Writer.settled first kept (((name ++ spaced kind) ++ spaced nodes) ++ spaced starts) c.pour_number-2.new.writer c.pour_number-2.new.parts (10 ∷ []) c.push-2.new.writer c.push-2.new.self four c.push-2.ensures.writes
    (line_text (plan_head s)) (head_line name kind nodes starts ∙ words)

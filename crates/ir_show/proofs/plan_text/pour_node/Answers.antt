use Rattle.std.proofs.Common.{List, ℕ, [], ◌∷◌, ◌++◌, ◌≡◌, ◌∙◌, decimal, flat_map, ap, sym}
use Rattle.ir_model.specs.Graph.{names}
use Rattle.ir_model.specs.Plan.{label_in, row_in}
use Rattle.ir_trace.specs.Rows.{spaced}
use Rattle.ir_trace.specs.Written.{name_at}
use Rattle.ir_streams.proofs.Poured.{pours_in_vain, pours_more, pours_on}
use Rattle.ir_show.specs.PlanText.{start_words, node_words}
use Rattle.ir_show.specs.Words.{line_text}
use Rattle.ir_show.proofs.PlanLines.{node_line}
use Rattle.ir_show.proofs.plan_text.pour_node.Goals as goal

pub returns-then-has_failed : goal.returns-then-has_failed
returns-then-has_failed g c =
    pours_in_vain g.W.Writer.contents g.W.Writer.wrote g.W.Writer.settled c.args.writer.now c.args.parts.now (sym c.has_failed.ensures ∙ c.if-has_failed.true) (line_text (node_words (names c.args.pieces.now.graph) c.args.pieces.now.plan c.args.u))

pub returns : goal.returns
returns g c =
    let first = c.args.writer.now in
    let kept = c.args.parts.now in
    let s = c.args.pieces.now.plan in
    let u = c.args.u in
    let nodes = names c.args.pieces.now.graph in
    let name : List ℕ = c.as_bytes.result.now in
    let label : List ℕ = decimal c.label_of.result in
    let starts : List (List ℕ) = flat_map (start_words nodes s.topology u) (row_in s u) in
    let two = pours_more g.W.Writer.contents g.W.Writer.wrote g.W.Writer.settled first kept name c.push.new.writer c.push.new.self (spaced label) c.pour_number.new.writer c.pour_number.new.parts c.push.ensures.writes c.pour_number.ensures in
    let three = pours_more g.W.Writer.contents g.W.Writer.wrote g.W.Writer.settled first kept (name ++ spaced label) c.pour_number.new.writer c.pour_number.new.parts (flat_map spaced starts) c.pour_starts.new.writer c.pour_starts.new.parts two c.pour_starts.ensures in
    let name_is : name ≡ name_at nodes u = c.as_bytes.ensures.value ∙ c.name_of.ensures in
    let label_is : label ≡ decimal (label_in s u) = ap decimal c.label_of.ensures in
    let words : line_text (name ∷ label ∷ starts) ≡ line_text (node_words nodes s u) =
    ap (λ t. line_text (t ∷ label ∷ starts)) name_is ∙ ap (λ t. line_text (name_at nodes u ∷ t ∷ starts)) label_is in
    pours_on g.W.Writer.contents g.W.Writer.wrote g.W.Writer.settled first kept ((name ++ spaced label) ++ flat_map spaced starts) c.pour_starts.new.writer c.pour_starts.new.parts (10 ∷ []) c.push-2.new.writer c.push-2.new.self three c.push-2.ensures.writes
    (line_text (node_words nodes s u)) (node_line name label starts ∙ words)

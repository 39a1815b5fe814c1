use Rattle.std.proofs.Common.{List, ℕ, Option, [], Some, subst}
use Rattle.ir_model.specs.Graph.{names}
use Rattle.ir_streams.specs.Pouring.{Pours}
use Rattle.ir_streams.proofs.Poured.{poured}
use Rattle.ir_show.specs.PlanText.{node_words}
use Rattle.ir_show.specs.Words.{line_text}
use Rattle.ir_show.proofs.plan_text.write_node.Goals as goal

pub returns : goal.returns
returns g c =
    let first = c.args.writer.now in
    let mid = c.pour_node.new.writer in
    let after = c.pour_node.new.parts in
    let last = c.finish.new.writer in
    let text : List ℕ = line_text (node_words (names c.args.pieces.now.graph) c.args.pieces.now.plan c.args.u) in
    let begun : Pours g.W.Writer.contents g.W.Writer.wrote g.W.Writer.settled first (Some []) text mid after =
    subst (λ (kept : Option (List ℕ)). Pours g.W.Writer.contents g.W.Writer.wrote g.W.Writer.settled first kept text mid after) c.requires.parts c.pour_node.ensures in
    (poured g.W.Writer.contents g.W.Writer.wrote g.W.Writer.settled first text mid after c.finish.result last begun c.finish.ensures).1

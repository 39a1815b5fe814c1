use Rattle.std.proofs.Common.{◌≡◌, List, ℕ, Option, [], Some, subst}
use Rattle.ir_model.specs.Graph.{names}
use Rattle.ir_streams.specs.Writing.{Calls, Writes}
use Rattle.ir_streams.specs.Pouring.{Pours}
use Rattle.ir_streams.proofs.Poured.{poured}
use Rattle.ir_show.specs.PlanText.{plan_text}
use Rattle.ir_show.proofs.plan_text.PlanText.write_by.Goals as goal

pub returns : goal.returns
returns g c =
    let first = c.args.writer.now in
    let mid = c.pour_plan_by.new.writer in
    let after = c.pour_plan_by.new.parts in
    let last = c.finish.new.writer in
    let text : List ℕ = plan_text (names c.self.inside.pieces.graph) c.self.inside.pieces.plan in
    let begun : Pours g.W.Writer.contents g.W.Writer.wrote g.W.Writer.settled first (Some []) text mid after =
    subst (λ (kept : Option (List ℕ)). Pours g.W.Writer.contents g.W.Writer.wrote g.W.Writer.settled first kept text mid after) c.self.invariant.parts c.pour_plan_by.ensures in
    let sent = poured g.W.Writer.contents g.W.Writer.wrote g.W.Writer.settled first text mid after c.finish.result last begun c.finish.ensures in
    let is : text ≡ c.args.self = c.self.view_is in
    record {
      calls = subst (λ (t : List ℕ). Calls g.W.Writer.wrote g.W.Writer.settled c.finish.result first t last) is sent.0;
      bytes = subst (λ (t : List ℕ). Writes c.finish.result (g.W.Writer.contents first) (g.W.Writer.contents last) t) is sent.1;
    }

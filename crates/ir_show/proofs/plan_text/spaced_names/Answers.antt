use Rattle.std.proofs.Common.{ℕ, ◌≡◌, ◌++◌, ap, arith, length, subst, ◌∙◌}
use Rattle.ir_model.specs.Graph.{names}
use Rattle.ir_trace.specs.Rows.{spaced}
use Rattle.ir_trace.specs.Written.{name_at}
use Rattle.ir_show.specs.Blocks.{AreSpaced}
use Rattle.ir_show.proofs.Pieces.{spaced_more}
use Rattle.ir_show.proofs.plan_text.spaced_names.Goals as goal

pub loop-u-preserved : goal.loop-u-preserved
loop-u-preserved c =
    rw c.in_ok-push.ensures.more (spaced_more (name_at (names c.args.graph.now)) c.loop-u.u c.loop-u.texts c.loop-u.invariant c.as_bytes.result.now (c.as_bytes.ensures.value ∙ c.in_ok-push_name.ensures ∙ ap (λ t. t ++ spaced (name_at (names c.args.graph.now) c.loop-u.u)) c.new-text.ensures.bytes))

pub returns : goal.returns
returns c =
    let all : c.loop-u.u ≡ length c.args.graph.now = omega (arith, c.number_of_nodes-count.ensures.len) in
    subst (λ (n : ℕ). AreSpaced (name_at (names c.args.graph.now)) n c.loop-u.texts) all c.loop-u.invariant

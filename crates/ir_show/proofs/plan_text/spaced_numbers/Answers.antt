use Rattle.std.proofs.Common.{ℕ, ◌≡◌, ◌++◌, ap, arith, decimal, subst, ◌∙◌}
use Rattle.ir_trace.specs.Rows.{spaced}
use Rattle.ir_show.specs.Blocks.{AreSpaced}
use Rattle.ir_show.proofs.Pieces.{spaced_more}
use Rattle.ir_show.proofs.plan_text.spaced_numbers.Goals as goal

pub loop-n-preserved : goal.loop-n-preserved
loop-n-preserved c =
    rw c.in_ok-push.ensures.more (spaced_more decimal c.loop-n.n c.loop-n.texts c.loop-n.invariant c.as_bytes.result.now (c.as_bytes.ensures.value ∙ c.in_ok-push_next_number.ensures ∙ ap (λ t. t ++ spaced (decimal c.loop-n.n)) c.new-text.ensures.bytes))

pub returns : goal.returns
returns c =
    let all : c.loop-n.n ≡ c.args.count = omega (arith) in
    subst (λ (n : ℕ). AreSpaced decimal n c.loop-n.texts) all c.loop-n.invariant

use Rattle.std.proofs.Common.{◌∙◌, ◌++◌, List, ℕ, flat_map, ap}
use Rattle.ir_show.specs.Words.{line_text}
use Rattle.ir_figures.specs.Failures.{failures_head}
use Rattle.ir_figures.specs.Made.{bytes_made}
use Rattle.ir_figures.proofs.failures.failures_text.Goals as goal

pub returns : goal.returns
returns c =
    let head = c.in_ok-push_head.ensures in (
      head.0,
      head.1,
      c.in_ok-push_texts.ensures
          ∙ ap (λ (t : List ℕ). t ++ flat_map bytes_made c.args.lines.now)
          (head.2 ∙ ap (λ (t : List ℕ). t ++ line_text (failures_head c.args.what.now c.args.plan.now head.0)) c.new-text.ensures.bytes),
    )

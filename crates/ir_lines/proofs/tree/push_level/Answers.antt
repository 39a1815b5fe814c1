use Rattle.std.proofs.Common.{◌++◌, ◌∷◌, [], ℕ, ap, ◌∙◌}
use Rattle.ir_lines.specs.Words.{row_word}
use Rattle.ir_lines.proofs.Levels.{level_more, level_none}
use Rattle.ir_lines.proofs.tree.push_level.Goals as goal

pub loop-place-init : goal.loop-place-init
loop-place-init c = level_none (row_word c.args.row.now) c.args.stride c.args.words.now.items

pub loop-place-preserved : goal.loop-place-preserved
loop-place-preserved c =
    c.in_ok-push.ensures.items ∙ ap (λ (x : ℕ). c.loop-place.words.items ++ x ∷ []) c.row_word.ensures
    ∙ level_more (row_word c.args.row.now) c.args.stride c.loop-place.place c.args.words.now.items c.loop-place.words.items c.loop-place.invariant

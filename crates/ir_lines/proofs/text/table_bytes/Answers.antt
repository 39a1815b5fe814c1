use Rattle.std.proofs.Common.{List, ℕ, ap, ◌∙◌}
use Rattle.std.proofs.lemmas.List.{take_all}
use Rattle.ir_lines.specs.Texts.{table_bytes}
use Rattle.ir_lines.proofs.Texts.{bytes_more}
use Rattle.ir_lines.proofs.text.table_bytes.Goals as goal

pub loop-place-preserved : goal.loop-place-preserved
loop-place-preserved c =
    c.in_ok-extend_from_slice.ensures.items ∙ bytes_more c.loop-place.bytes.items c.args.words.now c.loop-place.place c.loop-place-test.true c.loop-place.invariant

pub returns : goal.returns
returns c = c.loop-place.invariant ∙ ap (λ (ws : List ℕ). table_bytes ws) (take_all c.loop-place.place c.args.words.now c.loop-place-test.false)

use Rattle.std.proofs.Common.{◌-◌, ℕ, length, ap, ◌∙◌, arith, ◌≡◌, ◌+◌, ◌*◌}
use Rattle.std.specs.Prelude.{slice_index}
use Rattle.ir_model.specs.Row.{labels}
use Rattle.ir_lines.specs.Words.{from_zero}
use Rattle.ir_lines.proofs.Levels.{longer, word_in}
use Rattle.ir_lines.proofs.tree.row_word.Goals as goal

pub returns : goal.returns
returns c =
    let row = c.args.row.now in
    let more = longer row in
    let before : ℕ = c.args.count - c.len.result in
    let sum : length row + before ≡ length (from_zero row) = omega arith in
    ap (λ (x : ℕ). x * 65536 + c.port-2.result) c.start.ensures
    ∙ ap (λ (x : ℕ). slice_index (labels row) (c.args.place - before) * 65536 + x) c.port-2.ensures
    ∙ word_in row c.args.place before sum c.if-place-before.false (omega arith)

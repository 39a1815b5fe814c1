use Rattle.std.proofs.Common.{◌≤◌, arith}
use Rattle.ir_lines.proofs.Found.{few_words}
use Rattle.ir_lines.proofs.Levels.{longer}
use Rattle.ir_lines.proofs.tree.words_of.Goals as goal

pub overflow_add-result : goal.overflow_add-result
overflow_add-result c =
    let row = c.args.row.now in
    let few = few_words row c.args.n c.len-else-start-eq0.ensures.ascending c.requires in
    let more = longer row in
    let same = c.len-else-start-eq0.ensures.len in
    omega (arith, few, more, same)

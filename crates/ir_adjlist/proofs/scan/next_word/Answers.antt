use Rattle.std.proofs.Common.{◌<◌, ◌-◌, ◌∙◌, sym, ap, arith, take, drop, length}
use Rattle.std.proofs.lemmas.List.{take_rest}
use Rattle.std.proofs.lemmas.Bool.{eqb-true, eqb-false}
use Rattle.ir_model.proofs.Pieces.{next_word_from, no_word_is}
use Rattle.ir_adjlist.proofs.scan.next_word.Goals as goal

pub returns-then-is_empty : goal.returns-then-is_empty
returns-then-is_empty c =
    let s = c.args.bytes.now in
    no_word_is s c.blanks.result (sym c.blanks.ensures.len) (ap length (sym (take_rest s c.blanks.result)) ∙ eqb-true _ _ (sym c.if-is_empty.ensures))

pub returns : goal.returns
returns c =
    let s = c.args.bytes.now in
    let skip = c.blanks.result in
    let rest = take (length s - skip) (drop skip s) in
    let filled : 0 < length rest = omega (arith, eqb-false (length rest) 0 (sym c.if-is_empty.ensures)) in
    next_word_from s rest _ skip c.word_len-end.result (take_rest s skip) (take_rest rest c.word_len-end.result) (sym c.blanks.ensures.len) filled (sym c.word_len-end.ensures.len)

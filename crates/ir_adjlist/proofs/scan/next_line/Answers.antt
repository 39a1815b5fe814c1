use Rattle.std.proofs.Common.{◌≡◌, ◌∙◌, sym, ap, arith, take, drop, suc, ◌+◌, ◌∷◌}
use Rattle.std.proofs.lemmas.List.{take_all, drop_all, take_rest}
use Rattle.ir_model.specs.Text.{lines}
use Rattle.ir_model.proofs.Pieces.{lines_at}
use Rattle.ir_adjlist.proofs.scan.next_line.Goals as goal

pub returns-then-end-text-clause-lines : goal.returns-then-end-text-clause-lines
returns-then-end-text-clause-lines c =
    let s = c.args.text.now in
    let n = c.before-end.result in
    lines_at s n (sym c.before-end.ensures.len) c.requires
    ∙ ap (λ t. t ∷ lines (drop (suc n) s)) (take_all n s (omega arith)) ∙ ap (λ t. s ∷ lines t) (drop_all (suc n) s (omega arith))

pub returns-clause-lines : goal.returns-clause-lines
returns-clause-lines c =
    let one : suc c.before-end.result ≡ c.before-end.result + 1 = omega arith in
    let s = c.args.text.now in
    let n = c.before-end.result in
    lines_at s n (sym c.before-end.ensures.len) c.requires
    ∙ ap (λ m. take n s ∷ lines (drop m s)) one ∙ ap (λ t. take n s ∷ lines t) (sym (take_rest s (n + 1)))

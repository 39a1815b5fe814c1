use Rattle.std.proofs.Common.{◌∙◌, arith, take, List, ℕ, ap, sym, subst}
use Rattle.std.proofs.lemmas.List.{take_at}
use Rattle.std.proofs.lemmas.Result.{IfOk-weaker}
use Rattle.ir_model.proofs.Partial.{IsPartial}
use Rattle.ir_lookup.specs.Words.{starts_of}
use Rattle.ir_compile.proofs.changes.Goals as goal

pub returns : goal.returns
returns c = λ ports stand.
    let new : List ℕ = c.mark_changes-count.new.words in
    let all = take_at new _ c.in_ok-words.words.len (omega (arith, c.mark_changes-count.ensures.length, c.in_ok-words.words.ok, c.in_ok-words.ensures.len)) in
    let marked = c.mark_changes-count.ensures.starts ports stand in
    IfOk-weaker c.from_slice.result _ _
    (λ words same.
    subst (λ (xs : List ℕ). IsPartial c.args.n c.args.own ports c.args.n (starts_of xs))
    (sym (same ∙ ap (take c.mark_changes-count.result) (c.deref.ensures.value ∙ all))) marked)
    c.from_slice.ensures.items

use Rattle.std.proofs.Common.{◌-◌, ◌++◌, List, ℕ, length, replicate, sym, ap, subst, ◌∙◌}
use Rattle.std.proofs.lemmas.List.{drop-replicate}
use Rattle.ir_core.specs.declared.marks.TheConstants.{MARK_WORDS}
use Rattle.ir_core.specs.Marks.{AreWords, marks_in, word_up}
use Rattle.ir_core.proofs.MarkWords.{rest_up_words}
use Rattle.ir_core.proofs.marks.Marks.from_words.Goals as goal

pub invariant_of-result : goal.invariant_of-result
invariant_of-result c =
    subst AreWords
    (sym
    (ap (λ (t : List ℕ). c.copy_from_slice.new.self ++ t) (drop-replicate _ _ _)
    ∙ ap (λ (t : List ℕ). t ++ replicate (MARK_WORDS - length c.args.words.now) word_up) c.copy_from_slice.ensures.after))
    (rest_up_words c.args.words.now c.requires (λ k. (c.type_inv.words k).fits))

pub returns : goal.returns
returns c =
    ap marks_in
    (ap (λ (t : List ℕ). c.copy_from_slice.new.self ++ t) (drop-replicate _ _ _)
    ∙ ap (λ (t : List ℕ). t ++ replicate (MARK_WORDS - length c.args.words.now) word_up) c.copy_from_slice.ensures.after)

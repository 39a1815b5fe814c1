use Rattle.std.proofs.Common.{◌≡◌, ◌∙◌, ℕ, List, [], ap, subst, sym, arith, length, inl, inr, true, false}
use Rattle.std.specs.Prelude.{slice_index_or, vec_len}
use Rattle.std.specs.Global.{Vec}
use Rattle.std.proofs.lemmas.Bool.{cases_eq, eq-eqb}
use Rattle.ir_plan.specs.Distances.{lists_of}
use Rattle.ir_plan.proofs.Lists.{list_at}
use Rattle.ir_plan.proofs.ties.are_found.Goals as goal

pub loop-words-preserved : goal.loop-words-preserved
loop-words-preserved c =
    let batches = c.args.batches.now in
    let i = c.loop-words.words-index in
    let item = c.words-item.result in
    let here : slice_index_or (lists_of batches) i [] ≡ item.items = list_at batches i item c.loop-words-test.true ∙ sym (ap (λ (v : Vec ℕ). v.items) c.words-item.is) in
    λ b lt none.
    elim (cases_eq b i) [
      | inl same ↦
          let empty : item.items ≡ [] = sym here ∙ subst (λ (u : ℕ). slice_index_or (lists_of batches) u [] ≡ []) same none in
          let long : length item.items ≡ 0 = ap (λ (xs : List ℕ). length xs) empty in
          let zero : vec_len item ≡ 0 = omega (arith, long, item.ok) in
          absurd (let bad : true ≡ false = sym (eq-eqb (vec_len item) 0 zero) ∙ sym c.is_empty.ensures ∙ c.if-is_empty.false in cc bad)
      | inr ne ↦ c.loop-words.invariant b (omega arith) none
    ]

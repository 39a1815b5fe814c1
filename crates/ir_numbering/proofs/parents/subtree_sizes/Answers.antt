use Rattle.std.proofs.Common.{◌≡◌, ◌+◌, ◌-◌, ◌<◌, ◌∙◌, ℕ, List, length, set, sym, subst, inl, inr, arith, length-set, get_or-set_other}
use Rattle.std.specs.Prelude.{slice_index}
use Rattle.std.proofs.lemmas.Bool.{cases_eq}
use Rattle.std.proofs.lemmas.List.{get_or-set_same}
use Rattle.ir_model.specs.Subtree.{IsSubtree}
use Rattle.ir_numbering.specs.Sizes.{AreSizesFrom}
use Rattle.ir_numbering.proofs.parents.subtree_sizes.Goals as goal

-- the size of one more subtree
sizes_more : (place size : ℕ) (parents sizes : List ℕ) → place < length parents → AreSizesFrom (place + 1) parents sizes → IsSubtree (length parents) parents place size
    → AreSizesFrom place parents (set sizes place size)
sizes_more place size parents sizes within behind here = record {
  every = length-set sizes place size ∙ behind.every;
  each = λ a from below.
      let T : ℕ → ℕ → Type 0 = λ b s. IsSubtree (length parents) parents b s in
      elim (cases_eq a place) [
        | inl e ↦
            let at = get_or-set_same sizes place size 0 (omega (arith, within, behind.every)) in
            subst (λ (b : ℕ). T b (slice_index (set sizes place size) b)) (sym e) (subst (λ (s : ℕ). T place s) (sym at) here)
        | inr ne ↦ subst (λ (s : ℕ). T a s) (sym (get_or-set_other sizes place a size 0 ne)) (behind.each a (omega (arith, from, ne)) below)
      ];
}

pub loop-first-init : goal.loop-first-init
loop-first-init c = record {
  within = omega arith;
  sizes = let ok = c.in_ok-sizes.sizes.ok in record { every = omega (arith, c.in_ok-sizes.ensures.len, ok); each = λ a from below. absurd (omega (arith, from, below)) };
}

pub overflow_sub-first : goal.overflow_sub-first
overflow_sub-first c = c.loop-first-test.true

pub subtree_size-requires-clause-nested : goal.subtree_size-requires-clause-nested
subtree_size-requires-clause-nested c = c.requires.nested

pub subtree_size-requires-clause-place : goal.subtree_size-requires-clause-place
subtree_size-requires-clause-place c = omega (arith, c.loop-first-test.true, c.loop-first.invariant.within)

pub subtree_size-requires-clause-sizes : goal.subtree_size-requires-clause-sizes
subtree_size-requires-clause-sizes c =
    let next : c.loop-first.first ≡ c.loop-first.first - 1 + 1 = omega (arith, c.loop-first-test.true) in
    rw c.as_slice.ensures.value (subst (λ (k : ℕ). AreSizesFrom k c.args.parents.now c.loop-first.sizes.items) next c.loop-first.invariant.sizes)

pub overflow_cast-subtree_size : goal.overflow_cast-subtree_size
overflow_cast-subtree_size c = omega (arith, c.subtree_size.ensures.within, c.requires.few)

pub index_mut-requires : goal.index_mut-requires
index_mut-requires c =
    let i = c.loop-first.invariant in
    let ok = c.loop-first.sizes.ok in
    omega (arith, c.loop-first-test.true, i.within, i.sizes.every, ok)

pub loop-first-preserved : goal.loop-first-preserved
loop-first-preserved c =
    let i = c.loop-first.invariant in
    let next : c.loop-first.first ≡ c.loop-first.first - 1 + 1 = omega (arith, c.loop-first-test.true) in
    record {
      within = omega (arith, i.within);
      sizes = sizes_more (c.loop-first.first - 1) c.subtree_size.result c.args.parents.now c.loop-first.sizes.items (omega (arith, c.loop-first-test.true, i.within))
          (subst (λ (k : ℕ). AreSizesFrom k c.args.parents.now c.loop-first.sizes.items) next i.sizes) c.subtree_size.ensures;
    }

pub returns : goal.returns
returns c =
    let none : c.loop-first.first ≡ 0 = omega (arith, c.loop-first-test.false) in
    subst (λ (k : ℕ). AreSizesFrom k c.args.parents.now c.loop-first.sizes.items) none c.loop-first.invariant.sizes

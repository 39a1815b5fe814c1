use Rattle.std.proofs.Common.{◌≡◌, ◌<◌, ◌∙◌, ℕ, List, Bool, length, set, get_or, true, false, ap, sym, subst, inl, inr, arith, length-set, get_or-set_other}
use Rattle.std.specs.Prelude.{slice_index, slice_index_or}
use Rattle.std.proofs.lemmas.Bool.{cases_eq}
use Rattle.std.proofs.lemmas.List.{get_or_default}
use Rattle.std.proofs.lemmas.Grind.{get_or-set_at}
use Rattle.ir_numbering.specs.Search.{list_at}
use Rattle.ir_numbering.proofs.search.mark_next.Goals as goal

-- a mark stays where one more is put
mark_stays : (marks : List Bool) (x v : ℕ) → x < length marks → slice_index_or marks v false ≡ true → slice_index_or (set marks x true) v false ≡ true
mark_stays marks x v l h = elim (cases_eq v x) [ inl e ↦ get_or-set_at marks x v true false e l | inr ne ↦ get_or-set_other marks x v true false ne ∙ h ]

pub first_unmarked-requires-clause-nodes : goal.first_unmarked-requires-clause-nodes
first_unmarked-requires-clause-nodes c = rw (c.list_of-list.ensures, c.as_slice.ensures.value, c.requires.marks) (c.requires.nodes c.args.u c.requires.node)

pub first_unmarked-requires-clause-from : goal.first_unmarked-requires-clause-from
first_unmarked-requires-clause-from c =
    let every = c.requires.passed.every in
    let node = c.requires.node in
    let passed : List ℕ = c.args.passed.now.items in
    let at = c.index.ensures ∙ sym (get_or_default passed c.args.u 0 c.index.result.now (omega (arith, every, node))) in
    rw (at, c.list_of-list.ensures, c.as_slice.ensures.value) (c.requires.passed.each c.args.u node)

pub returns-clause-first : goal.returns-clause-first
returns-clause-first c =
    let place : ℕ = c.in-Some.place in
    let here = rw (c.list_of-list.ensures, c.as_slice.ensures.value) at c.in-Some.ensures.unmarked in
    let is : slice_index (list_at c.args.lists.now c.args.u) place ≡ get_or c.list_of-list.result.now place 0 = ap (λ (xs : List ℕ). slice_index xs place) (sym c.list_of-list.ensures) in
    record {
      port = place;
      below = here.below;
      is = is;
      unmarked = subst (λ (v : ℕ). slice_index_or c.args.marked.now.items v true ≡ false) is here.unmarked;
      first = here.first;
    }

pub returns-clause-passed : goal.returns-clause-passed
returns-clause-passed c =
    let u : ℕ = c.args.u in
    let lists = c.args.lists.now in
    let marked : List Bool = c.args.marked.now.items in
    let passed : List ℕ = c.args.passed.now.items in
    let place : ℕ = c.in-Some.place in
    let node = c.requires.node in
    let every = c.requires.passed.every in
    let here = rw (c.list_of-list.ensures, c.as_slice.ensures.value) at c.in-Some.ensures.unmarked in
    let label : get_or c.list_of-list.result.now place 0 < length marked = rw (c.list_of-list.ensures, c.requires.marks) (c.requires.nodes u node place 0 here.below) in
    record {
      every = length-set passed u place ∙ every;
      each = λ v l k h.
          elim (cases_eq v u) [
            | inl e ↦
                let at = get_or-set_at passed u v place 0 e (omega (arith, every, node)) in
                mark_stays marked _ _ label (subst (λ (w : ℕ). slice_index_or marked (slice_index (list_at lists w) k) false ≡ true) (sym e) (here.first k (omega (arith, h, at))))
            | inr ne ↦ let at = get_or-set_other passed u v place 0 ne in mark_stays marked _ _ label (c.requires.passed.each v l k (omega (arith, h, at)))
          ];
    }

use Rattle.std.proofs.Common.{◌≡◌, ◌+◌, ◌<◌, ◌++◌, ℕ, List, [], ◌∷◌, length, arith, rules, ap, ◌∙◌, replicate, true, false}
use Rattle.std.specs.Prelude.{slice_set}
use Rattle.std.proofs.lemmas.List.{length_push, nil_from_length}
use Rattle.ir_numbering.specs.Search.{AllMarked, IsFirstUnmarked, list_at}
use Rattle.ir_numbering.proofs.Traversal.{top_below, begun, passed_none, goes_back, goes_on, marks_one, marks_more, all_seen}
use Rattle.ir_numbering.proofs.search.search_lists.Goals as goal
use Rattle.ir_numbering.proofs.search.search_lists.Goals.{else-search-test, then-search-test+in_default}

pub search-init : goal.search-init
search-init c =
    let nodes : c.push.new.self.items ≡ c.args.root ∷ [] = rw c.new-nodes.ensures.items at c.in_ok-push.ensures.items in
    let parents : c.push-2.new.self.items ≡ 0 ∷ [] = rw c.new-parents.ensures.items at c.in_ok-push-2.ensures.items in
    let stack : c.push-3.new.self.items ≡ 0 ∷ [] = rw c.new-stack.ensures.items at c.in_ok-push-3.ensures.items in
    let all : c.in_ok-marked.marked.items ≡ replicate (length c.args.lists.now) false = c.in_ok-marked.ensures.items_if_clones_equal (λ y h. search rules) in
    let none : c.in_ok-passed.passed.items ≡ replicate (length c.args.lists.now) 0 = c.in_ok-passed.ensures.items_if_clones_equal (λ y h. search rules) in
    record {
      traversal = rw (nodes, parents, stack) (begun (list_at c.args.lists.now) (length c.args.lists.now) c.args.root c.requires.root);
      marks = rw (nodes, all) (marks_one (length c.args.lists.now) c.args.root c.requires.root);
      passed = rw none (passed_none c.args.lists.now _);
      within = let r = c.requires.root in rw nodes (omega arith);
    }

pub index-requires : goal.index-requires
index-requires c =
    let t = rw c.in-Some.ensures.items at c.search.invariant.traversal in
    let top : c.in-Some.top < length c.search.nodes.items = top_below _ _ _ _ _ _ _ t in
    let ok = c.search.nodes.ok in
    omega (arith, top, ok)

pub mark_next-requires-clause-node : goal.mark_next-requires-clause-node
mark_next-requires-clause-node c =
    let t = rw c.in-Some.ensures.items at c.search.invariant.traversal in
    let top : c.in-Some.top < length c.search.nodes.items = top_below _ _ _ _ _ _ _ t in
    let node = t.nodes c.in-Some.top c.index.result.now top in
    let at = c.index.ensures in
    omega (arith, node, at)

pub search-smaller : goal.search-smaller
search-smaller c =
    let more = length_push c.pop.new.self.items c.in-Some.top in
    let long = ap (λ (xs : List ℕ). length xs) c.in-Some.ensures.items in
    omega (arith, more, long)

pub search-smaller-in-Continue-branch-6 : goal.search-smaller-in-Continue-branch-6
search-smaller-in-Continue-branch-6 c =
    let few = c.search-test.true in
    let len = c.len.ensures in
    let ok = c.search.nodes.ok in
    let stack0 = ap (λ (xs : List ℕ). length xs) c.in-Some.ensures.items ∙ length_push c.pop.new.self.items c.in-Some.top in
    let stack1 = ap (λ (xs : List ℕ). length xs) c.in_ok-visit.ensures.stack ∙ length_push (c.pop.new.self.items ++ c.in-Some.top ∷ []) (length c.search.nodes.items) ∙ ap (λ (k : ℕ). k + 1) (length_push c.pop.new.self.items c.in-Some.top) in
    let nodes = ap (λ (xs : List ℕ). length xs) c.in_ok-visit.ensures.nodes ∙ length_push c.search.nodes.items c.in-Some-mark_next.next in
    omega (arith, few, len, ok, stack0, stack1, nodes)

pub search-preserved : goal.search-preserved
search-preserved c =
    let t = c.search.invariant in
    let none : AllMarked c.search.marked.items (list_at c.args.lists.now c.index.result.now) = c.in_default-mark_next.ensures.first in
    let same : c.mark_next.new.marked.items ≡ c.search.marked.items = c.in_default-mark_next.ensures.marks in
    record {
      traversal = goes_back _ _ _ _ _ _ _ _ _ _ c.requires.nodes t.traversal t.marks c.in-Some.ensures.items c.index.ensures none;
      marks = rw same t.marks;
      passed = c.in_default-mark_next.ensures.passed;
      within = t.within;
    }

pub search-preserved-in-Continue-branch-6 : goal.search-preserved-in-Continue-branch-6
search-preserved-in-Continue-branch-6 c =
    let x = c.in-Some-mark_next.next in
    let t = c.search.invariant in
    let first : IsFirstUnmarked c.search.marked.items (list_at c.args.lists.now c.index.result.now) x = c.in-Some-mark_next.ensures.first in
    let label : x < length c.args.lists.now = c.in-Some-mark_next.ensures.node in
    let marked : c.mark_next.new.marked.items ≡ slice_set c.search.marked.items x true = c.in-Some-mark_next.ensures.marks in
    let stack : c.visit.new.stack.items ≡ (c.pop.new.self.items ++ c.in-Some.top ∷ []) ++ length c.search.nodes.items ∷ [] = c.in_ok-visit.ensures.stack in
    let parents : c.visit.new.parents.items ≡ c.search.parents.items ++ c.in-Some.top ∷ [] = c.in_ok-visit.ensures.parents in
    let nodes : c.visit.new.nodes.items ≡ c.search.nodes.items ++ x ∷ [] = c.in_ok-visit.ensures.nodes in
    let more = length_push c.search.nodes.items x in
    let few = c.search-test.true in
    let len = c.len.ensures in
    record {
      traversal = rw (nodes, parents, stack) (goes_on _ _ _ _ _ _ _ _ _ _ c.requires.nodes t.traversal t.marks c.in-Some.ensures.items c.index.ensures x label first);
      marks = rw (nodes, marked) (marks_more _ _ _ t.marks x label);
      passed = c.in-Some-mark_next.ensures.passed;
      within = rw nodes (omega arith);
    }

pub returns-clause-some : goal.returns-clause-some
returns-clause-some c few =
    let t = c.search.invariant.traversal in
    elim c.search-test.branch [
      | else-search-test w ↦ let e = c.len.ensures in let f = w.search-test.false in absurd (omega arith)
      | then-search-test+in_default w ↦
          let none = w.in_default.ensures.cases.0 in
          let empty : c.search.stack.items ≡ [] = nil_from_length c.search.stack.items (omega arith) in
          all_seen _ _ _ _ _ (rw empty at t)
    ]

pub index_mut-requires : goal.index_mut-requires
index_mut-requires c = omega (arith, c.requires.root, c.in_ok-marked.ensures.len)

pub mark_next-requires-clause-marks : goal.mark_next-requires-clause-marks
mark_next-requires-clause-marks c = c.search.invariant.marks.every

pub mark_next-requires-clause-passed : goal.mark_next-requires-clause-passed
mark_next-requires-clause-passed c = c.search.invariant.passed

pub returns-clause-all : goal.returns-clause-all
returns-clause-all c enough =
    let i = c.search.invariant in
    let t = i.traversal in
    let every : length c.search.nodes.items ≡ length c.args.lists.now = omega (arith, enough, i.within) in
    record {
      every = every;
      parented = t.parented ∙ every;
      nodes = t.nodes;
      once = t.once;
      root_first = t.root_first;
      next = λ k from below. t.next k from (omega (arith, below, every));
    }

use Rattle.std.proofs.Common.{◌≡◌, ℕ, List, Option, None, length, replicate, ap, subst, ◌∙◌, arith, rules, refl}
use Rattle.std.proofs.lemmas.List.{length-replicate, get_or-replicate}
use Rattle.ir_model.specs.Subtree.{IsNested}
use Rattle.ir_numbering.proofs.numbering.Numbering.listed.Goals as goal

-- where each place has the first for its parent
zeros_nest : (n : ℕ) (parents : List ℕ) → parents ≡ replicate n 0 → IsNested n parents
zeros_nest n parents e = rw e (record {
  lower = λ i some l. let at = get_or-replicate {A = ℕ} n i 0 0 l in omega (arith, some, at);
  nested = λ i k before after l. let at = get_or-replicate {A = ℕ} n i 0 0 l in omega (arith, at);
})

pub labels_of-requires-clause-listing : goal.labels_of-requires-clause-listing
labels_of-requires-clause-listing c = rw c.as_slice.ensures.value c.requires.listing

pub subtree_sizes-requires-clause-nested : goal.subtree_sizes-requires-clause-nested
subtree_sizes-requires-clause-nested c =
    let zeros : c.in_ok-parents.parents.items ≡ replicate c.len.result 0 = c.in_ok-parents.ensures.items_if_clones_equal (λ y h. search rules) in
    let long = ap (λ (xs : List ℕ). length xs) zeros ∙ length-replicate c.len.result 0 in
    rw (c.as_slice-2.ensures.value, long) (zeros_nest c.len.result c.in_ok-parents.parents.items zeros)

pub invariant_of-result : goal.invariant_of-result
invariant_of-result c =
    let zeros : c.in_ok-parents.parents.items ≡ replicate c.len.result 0 = c.in_ok-parents.ensures.items_if_clones_equal (λ y h. search rules) in
    let nones : c.in_ok-ports.ports.items ≡ replicate c.len-2.result None = c.in_ok-ports.ensures.items_if_clones_equal (λ y h. search rules) in
    let ok = c.args.order.ok in
    let len = c.len.ensures in
    let len-2 = c.len-2.ensures in
    let n : c.len.result ≡ length c.args.order.items = omega (arith, len, ok) in
    let m : c.len-2.result ≡ length c.args.order.items = omega (arith, len-2, ok) in (
      record {
        labels = rw c.as_slice.ensures.value at c.in_ok-labels.ensures;
        parented = ap (λ (xs : List ℕ). length xs) zeros ∙ length-replicate c.len.result 0 ∙ n;
        ported = ap (λ (xs : List (Option ℕ)). length xs) nones ∙ length-replicate c.len-2.result None ∙ m;
        nested = subst (λ (k : ℕ). IsNested k c.in_ok-parents.parents.items) n (zeros_nest c.len.result c.in_ok-parents.parents.items zeros);
      },
      rw c.as_slice-2.ensures.value at c.in_ok-sizes.ensures,
    )

pub returns-clause-labels : goal.returns-clause-labels
returns-clause-labels c = rw c.as_slice.ensures.value at c.in_ok-labels.ensures

pub labels_of-requires-clause-few : goal.labels_of-requires-clause-few
labels_of-requires-clause-few c = omega (arith, ap (λ (xs : List ℕ). length xs) c.as_slice.ensures.value, c.requires.few)

pub subtree_sizes-requires-clause-few : goal.subtree_sizes-requires-clause-few
subtree_sizes-requires-clause-few c =
    let ok = c.args.order.ok in
    let made = c.in_ok-parents.parents.ok in
    omega (arith, ap (λ (xs : List ℕ). length xs) c.as_slice-2.ensures.value, c.in_ok-parents.ensures.len, made, c.len.ensures, ok, c.requires.few)

pub returns-clause-order : goal.returns-clause-order
returns-clause-order c = refl

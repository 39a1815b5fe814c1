use Rattle.std.proofs.Common.{ℕ, rules}
use Rattle.std.proofs.lemmas.Fn.{always_returns_same}
use Rattle.std.proofs.lemmas.List.Sorted.{IsPermutation-trans}
use Rattle.std.specs.declared.cmp.Reverse.{Reverse}
use Rattle.ir_prefix.specs.declared.cover.Prefix.{Prefix}
use Rattle.ir_prefix.proofs.Orders.{sorted_before, distinct_permutation}
use Rattle.ir_prefix.proofs.order.sort_longest_first.Goals as goal

abbrev key_of : Prefix → Reverse ℕ × ℕ
key_of m = (record { 0 = m.length }, m.value)

pub returns-clause-permutation : goal.returns-clause-permutation
returns-clause-permutation c = IsPermutation-trans _ _ _ c.sort_by_key.ensures.permutation c.sort_by_key-2.ensures.permutation

pub returns-clause-order : goal.returns-clause-order
returns-clause-order c =
    sorted_before _ (distinct_permutation _ _ c.sort_by_key-2.ensures.permutation (distinct_permutation _ _ c.sort_by_key.ensures.permutation c.requires))
    (c.in_ok-sort_by_key-2.ensures.sorted key_of (always_returns_same _ _ _ (λ a r q k. search rules)))

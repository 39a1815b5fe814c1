-- Counts with one node more.
use Rattle.std.proofs.Common.{◌≡◌, ◌≤◌, ◌+◌, ◌*◌, ◌∙◌, ℕ, Bool, true, false, ◌∷◌, [], ◌++◌, length, sum_by, sym, ap, arith}
use Rattle.std.specs.List.{range_with_len}
use Rattle.std.proofs.lemmas.List.Sums.{sum_by_push}
use Rattle.ir_show.proofs.PlanLines.{range_more}
use Rattle.ir_patches.specs.declared.counts.Counts.{Counts}
use Rattle.ir_patches.specs.DiffText.{NodeChanges, TwoPlans, as_count, changes_at, counts_to, is_changed, is_relabelled}
use Rattle.ir_patches.specs.Sides.{AreAtMost, counts_with}

-- the sum with one number more
sum_more : (f : ℕ → ℕ) (n : ℕ) → sum_by f (range_with_len 0 n) + f n ≡ sum_by f (range_with_len 0 (n + 1))
sum_more f n =
    let last : 0 + n ≡ n = omega arith in
    sym (ap (sum_by f) (range_more 0 n ∙ ap (λ (k : ℕ). range_with_len 0 n ++ k ∷ []) last) ∙ sum_by_push f (range_with_len 0 n) n)

abbrev made : ℕ → ℕ → ℕ → ℕ → Counts
made a b c d = record { changed = a; relabelled = b; removed = c; put = d }

pub counts_more : (p : TwoPlans) (n : ℕ) → counts_with (counts_to p n) (changes_at p n) ≡ counts_to p (n + 1)
counts_more p n =
    let changed = sum_more (λ u. as_count (is_changed (changes_at p u))) n in
    let relabelled = sum_more (λ u. as_count (is_relabelled (changes_at p u))) n in
    let removed = sum_more (λ u. length (changes_at p u).removed) n in
    let put = sum_more (λ u. length (changes_at p u).put) n in
    let before = counts_to p n in
    let after = counts_to p (n + 1) in
    let c = changes_at p n in
    ap (λ a. made a (before.relabelled + as_count (is_relabelled c)) (before.removed + length c.removed) (before.put + length c.put)) changed
    ∙ ap (λ b. made after.changed b (before.removed + length c.removed) (before.put + length c.put)) relabelled
    ∙ ap (λ r. made after.changed after.relabelled r (before.put + length c.put)) removed
    ∙ ap (λ q. made after.changed after.relabelled after.removed q) put

count_at_most : (b : Bool) → as_count b ≤ 1
count_at_most true = omega arith
count_at_most false = omega arith

pub few_more : (counts : Counts) (c : NodeChanges) (u : ℕ) → AreAtMost counts (u * 32768) → length c.removed ≤ 32768 → length c.put ≤ 32768 → AreAtMost (counts_with counts c) ((u + 1) * 32768)
few_more counts c u few removed put =
    let changed = count_at_most (is_changed c) in
    let relabelled = count_at_most (is_relabelled c) in
    let a = few.changed in
    let b = few.relabelled in
    let r = few.removed in
    let q = few.put in
    record {
      changed = omega (arith, changed, a);
      relabelled = omega (arith, relabelled, b);
      removed = omega (arith, removed, r);
      put = omega (arith, put, q);
    }

use Rattle.std.proofs.Common.{ℕ, ◌+◌, List, sym, arith, subst}
use Rattle.std.proofs.lemmas.List.Sorted.{IsNonDecreasingBy-from_sort}
use Rattle.ir_tables.specs.Numbered.{AreKeysOf}
use Rattle.ir_tables.proofs.LinkKeys.{keys_moved, keys_more}
use Rattle.ir_tables.proofs.link_keys.link_keys.Goals as goal

pub loop-l-preserved : goal.loop-l-preserved
loop-l-preserved c =
    subst (λ (keys : List ℕ). AreKeysOf c.args.links.now (c.loop-l.l + 1) keys) (sym c.in_ok-push.ensures.items)
    (keys_more c.args.links.now c.loop-l.l c.ends_key.result c.loop-l.keys.items c.loop-l-test.true c.ends_key.ensures c.loop-l.invariant)

pub returns : goal.returns
returns c =
    let all = keys_moved c.args.links.now c.loop-l.l c.loop-l.keys.items c.sort_unstable.new.self.items c.sort_unstable.ensures.permutation c.loop-l.invariant in
    let P : ℕ → Type 0 = λ n. AreKeysOf c.args.links.now n c.sort_unstable.new.self.items in
    record {
      rising = IsNonDecreasingBy-from_sort (λ (x : ℕ). x) c.sort_unstable.new.self.items c.sort_unstable.ensures.sorted;
      all = subst P (omega (arith, c.loop-l.auto.l-end, c.loop-l-test.false)) all;
    }

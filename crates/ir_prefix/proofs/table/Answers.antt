use Rattle.std.proofs.Common.{sym, subst, List}
use Rattle.std.specs.List.Sorted.{IsPermutation}
use Rattle.ir_prefix.specs.Cover.{AreDistinct}
use Rattle.ir_prefix.specs.declared.cover.Prefix.{Prefix}
use Rattle.ir_prefix.proofs.Orders.{cover_distinct}
use Rattle.ir_prefix.proofs.Final.{sorted_forwards, sorted_is_fewest, sorted_is_least}
use Rattle.ir_prefix.proofs.PortLemmas.{sorted_has_ports}
use Rattle.ir_prefix.proofs.table.Goals as goal

pub sort_longest_first-requires : goal.sort_longest_first-requires
sort_longest_first-requires c =
    let bits = c.args.bits in
    let w = c.in_ok-set.ensures in
    subst AreDistinct (sym w.2) (cover_distinct bits c.args.ports.now w.0 w.1)

pub returns-clause-fits : goal.returns-clause-fits
returns-clause-fits c =
    let bits = c.args.bits in
    let w = c.in_ok-set.ensures in
    sorted_forwards bits c.args.ports.now w.0 _ w.1
    (subst (λ (xs : List Prefix). IsPermutation xs c.sort_longest_first.new.set.items) w.2 c.sort_longest_first.ensures.permutation)
    c.requires.every

pub returns-clause-fewest : goal.returns-clause-fewest
returns-clause-fewest c =
    let bits = c.args.bits in
    let w = c.in_ok-set.ensures in
    sorted_is_fewest bits c.args.ports.now w.0 _ w.1
    (subst (λ (xs : List Prefix). IsPermutation xs c.sort_longest_first.new.set.items) w.2 c.sort_longest_first.ensures.permutation)

pub returns-clause-values : goal.returns-clause-values
returns-clause-values c =
    let bits = c.args.bits in
    let w = c.in_ok-set.ensures in
    sorted_is_least bits c.args.ports.now w.0 _ w.1
    (subst (λ (xs : List Prefix). IsPermutation xs c.sort_longest_first.new.set.items) w.2 c.sort_longest_first.ensures.permutation)

pub returns-clause-ports : goal.returns-clause-ports
returns-clause-ports c =
    let bits = c.args.bits in
    let w = c.in_ok-set.ensures in
    sorted_has_ports bits c.args.ports.now w.0 _ w.1
    (subst (λ (xs : List Prefix). IsPermutation xs c.sort_longest_first.new.set.items) w.2 c.sort_longest_first.ensures.permutation)

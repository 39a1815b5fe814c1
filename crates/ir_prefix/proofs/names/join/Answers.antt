use Rattle.std.proofs.Common.{◌≡◌, ◌<◌, ◌++◌, length, ap, arith, inl, inr}
use Rattle.std.proofs.lemmas.Grind.{common_steps}
use Rattle.std.proofs.lemmas.List.Sorted.{IsNonDecreasingBy-from_sort}
use Rattle.ir_prefix.proofs.AmongLemmas.{sorted_are_joined}
use Rattle.ir_prefix.proofs.names.join.Goals as goal
use Rattle.ir_prefix.proofs.names.join.Goals.{then-is_empty+in_ok-extend_from_slice+in_ok-extend_from_slice-2, else-is_empty}

pub returns-clause-joined : goal.returns-clause-joined
returns-clause-joined c =
    let left = c.args.left.now in
    let right = c.args.right.now in
    sorted_are_joined _ _ _ _ _ c.in_ok-share.ensures
    (elim c.if-is_empty.branch [
      | then-is_empty+in_ok-extend_from_slice+in_ok-extend_from_slice-2 w ↦
          let none : length c.share.new.room.items ≡ 0 = grind (arith, common_steps, w.if-is_empty.ensures) in
          let e : c.if-is_empty.room.items ≡ left ++ right = grind (arith, common_steps, w.room-is, w.in_ok-extend_from_slice-2.ensures.items, w.in_ok-extend_from_slice.ensures.items, none) in
          inl (none, e)
      | else-is_empty w ↦
          let some : 0 < length c.share.new.room.items = grind (arith, common_steps, w.if-is_empty.ensures) in
          inr (some, ap (λ v. v.items) w.room-is)
    ])
    c.sort.ensures.permutation

pub returns-clause-rising : goal.returns-clause-rising
returns-clause-rising c = IsNonDecreasingBy-from_sort (λ x. x) c.sort.new.self.items c.in_ok-sort.ensures.sorted

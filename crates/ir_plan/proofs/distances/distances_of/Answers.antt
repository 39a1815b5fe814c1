use Rattle.std.proofs.Common.{◌≡◌, ℕ, List, [], arith, length}
use Rattle.std.specs.Global.{Vec}
use Rattle.std.specs.Prelude.{slice_index_or}
use Rattle.ir_plan.specs.Distances.{IsRow, lists_of}
use Rattle.ir_plan.proofs.Crews.{by_closure}
use Rattle.ir_plan.proofs.Lists.{lists_for_range, lists_length, of_ok}
use Rattle.ir_plan.proofs.distances.distances_of.OwnLists.{same-1-1}
use Rattle.ir_plan.proofs.distances.distances_of.Goals as goal

pub returns : goal.returns
returns g c =
    let n = length c.args.columns.now in
    let columns = lists_of c.args.columns.now in
    let P : ℕ → List ℕ → Type 0 = λ a row. IsRow columns (slice_index_or columns a []) row in
    let len : length columns ≡ n = lists_length c.args.columns.now in
    of_ok c.lists.result _ _ c.lists.ensures
    (λ v zipped.
    let made = lists_for_range P n v.items (by_closure (Vec ℕ) _ _ (same-1-1 c.lists-arg-2-1.given) _ _ _ zipped) in
    record { every = omega (arith, made.0, len); each = λ a lt. made.1 a (omega (arith, lt, len)) })

use Rattle.std.proofs.Common.{cond, eqb, replicate, slice_index, sym, subst, w32}
use Rattle.std.specs.Simd.Lanes.{sel_l}
use Rattle.std.proofs.lemmas.Simd.{tops_compared}
use Rattle.ir_compile.specs.ShortRuns.{HoldLanes}
use Rattle.ir_compile.proofs.ShortRuns.{lanes_chosen}
use Rattle.ir_compile.proofs.sixteen.where_some.Goals as goal

pub returns : goal.returns
returns c =
    let lanes = c.args.lanes in
    let some = c.args.some in
    let none = c.args.none in
    subst (λ ms. HoldLanes (sel_l ms none some) (λ k. cond (eqb (slice_index lanes k) 0) (slice_index none k) (slice_index some k)))
    (sym (tops_compared w32 eqb lanes (replicate 16 0))) (lanes_chosen lanes some none c.requires.lanes c.requires.some c.requires.none)

use Rattle.std.proofs.Common.{ltb, min, get_or, sym, subst, w32}
use Rattle.std.specs.Simd.Lanes.{sel_l}
use Rattle.std.proofs.lemmas.Simd.{tops_compared}
use Rattle.ir_lanes.specs.Lanes.{HasLanes}
use Rattle.ir_lanes.proofs.LaneLemmas.{HasLanes-min}
use Rattle.ir_lanes.proofs.vectors.lesser.Goals as goal

pub returns : goal.returns
returns c =
    let a = c.args.a in
    let b = c.args.b in
    subst (λ ms. HasLanes (sel_l ms a b) (λ k. min (get_or a k 0) (get_or b k 0)))
    (sym (tops_compared w32 ltb a b)) (HasLanes-min a b c.requires.left c.requires.right)

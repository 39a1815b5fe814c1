use Rattle.std.proofs.Common.{◌≡◌, ℕ, List, arith}
use Rattle.std.specs.Prelude.{slice_index}
use Rattle.ir_model.specs.Landmark.{followers}
use Rattle.ir_bounds.proofs.Numbers.{list_pushed, lists_length}
use Rattle.ir_bounds.proofs.trees.follower_lists.Goals as goal

pub loop-u-preserved : goal.loop-u-preserved
loop-u-preserved c =
    let P : ℕ → List ℕ → Type 0 = λ u xs. xs ≡ followers c.args.topology.now c.args.landmarks.now (slice_index c.args.parents.now) u in
    let more = list_pushed P c.loop-u.u c.loop-u.lists.items c.push.new.self.items c.in_ok-follower_list.field-0 c.loop-u.invariant.every c.loop-u.invariant.each c.in_ok-push.ensures.items c.in_ok-follower_list.ensures in
    record { every = more.0; each = more.1 }

pub returns-clause-every : goal.returns-clause-every
returns-clause-every c = omega (arith, lists_length c.loop-u.lists.items, c.loop-u.invariant.every, c.loop-u.auto.u-end, c.loop-u-test.false, c.nodes-nodes.ensures.count)

pub returns-clause-each : goal.returns-clause-each
returns-clause-each c = λ u lt. c.loop-u.invariant.each u (omega (arith, lt, c.loop-u-test.false, c.nodes-nodes.ensures.count))

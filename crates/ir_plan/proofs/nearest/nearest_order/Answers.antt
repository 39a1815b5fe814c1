use Rattle.std.proofs.Common.{◌≡◌, ◌<◌, ◌-◌, ◌∙◌, length, ap, arith}
use Rattle.std.specs.Prelude.{slice_index}
use Rattle.std.proofs.lemmas.List.{get_or_read}
use Rattle.ir_plan.specs.Distances.{far_between, far_from}
use Rattle.ir_plan.proofs.Tours.{nearest_first, nearest_more, nearest_all}
use Rattle.ir_plan.proofs.nearest.nearest_order.Goals as goal

pub loop-place-init : goal.loop-place-init
loop-place-init c =
    nearest_first c.args.far.now.nodes (far_between c.args.far.now.rows.items) c.args.first c.in_ok-order.order.items c.swap.new.self.items
    (rw c.nodes-nodes.ensures at c.in_ok-order.ensures.listing) (λ v lt. c.in_ok-order.ensures.own v (omega (arith, lt, c.nodes-nodes.ensures))) c.requires.first c.swap.ensures.items

pub loop-place-preserved : goal.loop-place-preserved
loop-place-preserved c =
    let n = c.args.far.now.nodes in
    let far = far_between c.args.far.now.rows.items in
    let xs = c.loop-place.order.items in
    let every = c.loop-place.invariant.listing.every in
    let next = c.nearest-next.result in
    let same = c.as_slice.ensures.value in
    let inside : next < n = omega (arith, ap length same, every, c.nearest-next.ensures.inside) in
    let row : c.from.result.now ≡ far_from c.args.far.now.rows.items (slice_index xs (c.loop-place.place - 1)) = c.from.ensures.far ∙ ap (far_from c.args.far.now.rows.items) (get_or_read xs (c.loop-place.place - 1) c.index.result.now (omega arith) c.index.ensures 0) in
    nearest_more n far c.args.first c.loop-place.place next xs c.swap-in-loop-place.new.self.items c.loop-place.invariant (omega arith) c.nearest-next.ensures.behind inside c.swap-in-loop-place.ensures.items
    (λ j from lt. rw (same, row) at (c.nearest-next.ensures.nearest j from (omega (arith, lt, ap length same, every))))

pub returns : goal.returns
returns c =
    nearest_all c.args.far.now.nodes (far_between c.args.far.now.rows.items) c.args.first c.loop-place.place c.loop-place.order.items (omega (arith, c.nodes-nodes.ensures)) c.loop-place.invariant

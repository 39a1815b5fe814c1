use Rattle.std.proofs.Common.{◌∙◌, ℕ, true, List, [], ◌∷◌, ◌++◌, set, refl, ap, arith}
use Rattle.ir_bounds.proofs.Linked.{linked_first, linked_more, linked_all, linked_are}
use Rattle.ir_bounds.proofs.order.most_linked.Goals as goal

pub loop-i-init : goal.loop-i-init
loop-i-init c =
    linked_first c.args.topology.now c.args.root c.push.new.self.items c.in_ok-marks.marks.items (set c.in_ok-marks.marks.items c.args.root true) c.nodes-nodes.result c.requires.root c.nodes-nodes.ensures.count
    (c.in_ok-marks.ensures.items_if_clones_equal (λ y e. e)) (c.in_ok-push.ensures.items ∙ ap (λ (xs : List ℕ). xs ++ (c.args.root ∷ [])) c.new-landmarks.ensures.items) refl

pub loop-i-preserved : goal.loop-i-preserved
loop-i-preserved c =
    let items = c.as_slice.ensures.value in
    linked_more c.args.topology.now c.args.root c.loop-i.i c.in-Some.next c.loop-i.landmarks.items c.push-in-Some.new.self.items c.loop-i.marks.items (set c.loop-i.marks.items c.in-Some.next true) c.loop-i.invariant
    c.in_ok-push-in-Some.ensures.items refl c.in-Some.ensures.node (rw items at c.in-Some.ensures.free) (rw items at c.in-Some.ensures.most)

pub returns-clause-chosen : goal.returns-clause-chosen
returns-clause-chosen c =
    linked_all c.args.topology.now c.args.root c.loop-i.i c.args.count c.loop-i.landmarks.items c.loop-i.marks.items c.loop-i.invariant (c.loop-i.auto.i-end c.requires.some) (λ lt. absurd (omega (arith, lt, c.loop-i-test.false)))

pub returns-in-None-clause-chosen : goal.returns-in-None-clause-chosen
returns-in-None-clause-chosen c =
    linked_all c.args.topology.now c.args.root c.loop-i.i c.args.count c.loop-i.landmarks.items c.loop-i.marks.items c.loop-i.invariant (c.loop-i.auto.i-end c.requires.some)
    (λ lt. rw c.as_slice.ensures.value at (c.in-None.ensures.none refl))

pub returns-clause-landmarks : goal.returns-clause-landmarks
returns-clause-landmarks c = linked_are c.args.topology.now c.args.root c.loop-i.i c.loop-i.landmarks.items c.loop-i.marks.items c.loop-i.invariant

pub returns-in-None-clause-landmarks : goal.returns-in-None-clause-landmarks
returns-in-None-clause-landmarks c = linked_are c.args.topology.now c.args.root c.loop-i.i c.loop-i.landmarks.items c.loop-i.marks.items c.loop-i.invariant

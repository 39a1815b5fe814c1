use Rattle.std.proofs.Common.{◌≡◌, ◌++◌, take, drop, length, ◌∙◌, ap, arith}
use Rattle.std.proofs.lemmas.List.{take_at}
use Rattle.std.proofs.lemmas.List.Sorted.{length_permutation}
use Rattle.ir_plan.specs.Distances.{far_between}
use Rattle.ir_plan.specs.Tour.{shortened}
use Rattle.ir_plan.proofs.Tours.{shortened_permutes}
use Rattle.ir_plan.proofs.Labelled.{tour_made}
use Rattle.ir_plan.proofs.tour.tour_of.Goals as goal

pub returns : goal.returns
returns g c =
    let plan = c.args.plan.now in
    let far = far_between c.in_ok-far.far.rows.items in
    let start = c.in_ok-order.order.items in
    let new = c.shorten.new.order in
    let short : new ≡ shortened far 16 start = c.shorten.ensures ∙ ap (shortened far 16) c.as_mut_slice.ensures.value in
    let len : length new ≡ length start = ap length short ∙ length_permutation start (shortened far 16 start) (shortened_permutes far 16 start) in
    let whole : take c.in_ok-order.order.len (new ++ drop (length new) start) ≡ new = take_at new (drop (length new) start) c.in_ok-order.order.len (omega (arith, len, c.in_ok-order.order.ok)) in
    let nearest = rw (c.in_ok-far.ensures.nodes, c.root.ensures) at c.in_ok-order.ensures in
    let made = tour_made plan.topology plan.root far start new c.in_ok-far.ensures.shortest c.invariant.ensures.plan.root_in nearest short in
    rw whole (record { tour = made.0; listing = made.1; first = made.2 })

use Rattle.std.proofs.Common.{◌≡◌, ◌+◌, ◌-◌, ◌<◌, length, ◌∙◌, arith}
use Rattle.std.specs.Prelude.{nat_lt, if◌then◌else◌}
use Rattle.std.proofs.lemmas.Bool.{cond_below, cond_above}
use Rattle.ir_plan.specs.Distances.{far_between}
use Rattle.ir_plan.proofs.Tours.{shorter_is}
use Rattle.ir_plan.proofs.sweeps.gets_shorter.Goals as goal
use Rattle.ir_plan.proofs.sweeps.gets_shorter.Goals.{then-to-order, else-to-order}

pub returns : goal.returns
returns c =
    let xs = c.args.order.now in
    let j = c.args.to in
    let next : c.if-to-order.next ≡ (if nat_lt (j + 1) (length xs) then j + 1 else 0) =
    elim c.if-to-order.branch [
      | then-to-order w ↦ w.next-is ∙ cond_below (j + 1) (length xs) (j + 1) 0 w.if-to-order.true
      | else-to-order w ↦ cond_above (j + 1) (length xs) (j + 1) 0 c.if-to-order.next w.if-to-order.false w.next-is
    ] in
    shorter_is (far_between c.args.far.now.rows.items) xs c.args.from j c.if-to-order.next c.between.result c.between-2.result c.between-3.result c.between-4.result next c.between.ensures c.between-2.ensures c.between-3.ensures c.between-4.ensures

pub between-requires : goal.between-requires
between-requires c =
    let some = c.requires.some in
    let inside = c.requires.inside in
    record {
      from = c.requires.nodes (c.args.from - 1) 0 (omega (arith, some, inside));
      to = c.requires.nodes c.args.from 0 (omega (arith, some, inside));
    }

pub between-requires-2 : goal.between-requires-2
between-requires-2 c =
    let next : c.if-to-order.next < length c.args.order.now =
    elim c.if-to-order.branch [
      | then-to-order w ↦ rw w.next-is w.if-to-order.true
      | else-to-order w ↦ let zero = w.next-is in omega (arith, zero, c.requires.inside)
    ] in
    record { from = c.requires.nodes c.args.to 0 c.requires.inside; to = c.requires.nodes c.if-to-order.next 0 next }

pub between-requires-3 : goal.between-requires-3
between-requires-3 c =
    let some = c.requires.some in
    let inside = c.requires.inside in
    record { from = c.requires.nodes (c.args.from - 1) 0 (omega (arith, some, inside)); to = c.requires.nodes c.args.to 0 inside }

pub between-requires-4 : goal.between-requires-4
between-requires-4 c =
    let some = c.requires.some in
    let inside = c.requires.inside in
    let next : c.if-to-order.next < length c.args.order.now =
    elim c.if-to-order.branch [
      | then-to-order w ↦ rw w.next-is w.if-to-order.true
      | else-to-order w ↦ let zero = w.next-is in omega (arith, zero, c.requires.inside)
    ] in
    record { from = c.requires.nodes c.args.from 0 (omega (arith, some, inside)); to = c.requires.nodes c.if-to-order.next 0 next }

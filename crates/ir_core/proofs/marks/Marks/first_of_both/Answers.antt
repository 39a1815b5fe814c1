use Rattle.std.proofs.Common.{◌≡◌, List, Bool, length, take, ap, sym, ◌∙◌, arith}
use Rattle.std.proofs.lemmas.List.{take_all, length-take-le}
use Rattle.ir_core.specs.Marks.{both}
use Rattle.ir_core.proofs.Used.{both_more, length_both}
use Rattle.ir_core.proofs.marks.Marks.first_of_both.Goals as goal

pub loop-link-preserved : goal.loop-link-preserved
loop-link-preserved c =
    let more = both_more c.args.self.now c.args.other.now c.args.links c.loop-link.link (omega arith) (omega (arith, c.invariant.ensures)) (omega (arith, c.invariant-2.ensures)) in
    cc (c.in_ok-push.ensures.items, c.loop-link.invariant, c.each.ensures, c.is_up.ensures, c.is_up-in-loop-link.ensures, more)

pub returns-clause-marks : goal.returns-clause-marks
returns-clause-marks c =
    let a = length-take-le c.args.links c.args.self.now (omega (arith, c.invariant.ensures)) in
    let b = length-take-le c.args.links c.args.other.now (omega (arith, c.invariant-2.ensures)) in
    let all = length_both (take c.args.links c.args.self.now) (take c.args.links c.args.other.now) (a ∙ sym b) in
    c.loop-link.invariant ∙ take_all c.loop-link.link (both (take c.args.links c.args.self.now) (take c.args.links c.args.other.now)) (omega (arith, a, all))

pub returns-clause-count : goal.returns-clause-count
returns-clause-count c =
    let a = length-take-le c.args.links c.args.self.now (omega (arith, c.invariant.ensures)) in
    let b = length-take-le c.args.links c.args.other.now (omega (arith, c.invariant-2.ensures)) in
    let all = length_both (take c.args.links c.args.self.now) (take c.args.links c.args.other.now) (a ∙ sym b) in
    let now : length c.loop-link.marks.items ≡ length (both (take c.args.links c.args.self.now) (take c.args.links c.args.other.now)) =
    ap (λ (xs : List Bool). length xs) (c.loop-link.invariant ∙ take_all c.loop-link.link (both (take c.args.links c.args.self.now) (take c.args.links c.args.other.now)) (omega (arith, a, all))) in
    now ∙ all ∙ a

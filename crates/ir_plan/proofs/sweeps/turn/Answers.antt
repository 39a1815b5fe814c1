use Rattle.std.proofs.Common.{◌+◌, ◌-◌, ◌∙◌, ap, sym, arith}
use borrow.Rule.Slice.PartMut.{put_mid}
use Rattle.ir_plan.proofs.Tours.{turned_is}
use Rattle.ir_plan.proofs.sweeps.turn.Goals as goal

pub returns : goal.returns
returns c =
    let k = c.args.to + 1 - c.args.from in
    ap (put_mid c.args.from k c.args.order.now) c.reverse.ensures.after ∙ sym (turned_is c.args.order.now c.args.from c.args.to k (omega arith))

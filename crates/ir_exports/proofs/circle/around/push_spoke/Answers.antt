use Rattle.std.proofs.Common.{append_assoc, arith}
use Rattle.std.proofs.lemmas.Bool.{le-leb, lt-leb}
use Rattle.ir_exports.proofs.circle.around.push_spoke.Goals as goal

pub returns-in_ok-push_str-2 : goal.returns-in_ok-push_str-2
returns-in_ok-push_str-2 c =
    rw (le-leb c.args.half_cells c.args.n c.if-half_cells-n.true, c.in_ok-push_str-2.ensures.bytes, c.in_ok-push_angle.ensures, c.in_ok-push_str.ensures.bytes) (simp append_assoc)

pub returns-in_ok-push_str-3 : goal.returns-in_ok-push_str-3
returns-in_ok-push_str-3 c =
    rw (lt-leb c.args.half_cells c.args.n (omega (arith, c.if-half_cells-n.false)), c.in_ok-push_str-3.ensures.bytes, c.in_ok-push_angle-2.ensures, c.in_ok-push_str.ensures.bytes) (simp append_assoc)

use Rattle.std.proofs.Common.{append_assoc}
use Rattle.std.proofs.lemmas.Bool.{le-leb}
use Rattle.ir_exports.proofs.circle.svg.push_marks.Goals as goal

pub returns-in_ok-write : goal.returns-in_ok-write
returns-in_ok-write c = rw (le-leb c.args.n 64 c.if-n-le64.true, c.in_ok-write.ensures.bytes) (simp append_assoc)

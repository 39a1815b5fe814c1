use Rattle.ir_prefix.proofs.marks.+push_marks.Given as goal

abbrev pub decreases-push_marks : goal.decreases-push_marks
decreases-push_marks l = l.height

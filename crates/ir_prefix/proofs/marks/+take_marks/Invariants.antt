use Rattle.ir_prefix.proofs.marks.+take_marks.Given as goal

abbrev pub decreases-take_marks : goal.decreases-take_marks
decreases-take_marks l = l.height

use Rattle.ir_prefix.proofs.cover.+cover.Given as goal

abbrev pub decreases-cover : goal.decreases-cover
decreases-cover l = l.spot.height

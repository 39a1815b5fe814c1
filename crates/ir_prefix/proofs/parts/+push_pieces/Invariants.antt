use Rattle.ir_prefix.proofs.parts.+push_pieces.Given as goal

abbrev pub decreases-push_pieces : goal.decreases-push_pieces
decreases-push_pieces l = l.height

use Rattle.ir_model.specs.Landmark.{IsLandmarkBound}
use Rattle.ir_bounds.specs.Near.{IsWayRound}
use Rattle.ir_bounds.specs.Words.{AreWordsUpTo}
use Rattle.ir_bounds.proofs.words.words_within.Given as goal

abbrev pub invariant-loop-p : goal.invariant-loop-p
invariant-loop-p l =
    AreWordsUpTo l.topology (IsWayRound l.topology l.held.owners.landmarks.items) (IsLandmarkBound l.topology l.held.owners.landmarks.items l.held.stretch) l.numbering.order l.u l.p l.words.items

use Rattle.std.proofs.Common.{◌≡◌, refl, sym, ◌∙◌}
use Rattle.ir_model.proofs.Within.{within_walks, prescribed_within}
use Rattle.ir_model.proofs.laws.bounds.prescribed_walk_within_a_bound.Goals as goal

pub returns-clause-exists : goal.returns-clause-exists
returns-clause-exists c net ok bound table keeps u d u_in d_in =
    within_walks net ok (λ u d b. bound u d ≡ b) (λ u d a b is so. sym is ∙ so) table keeps d d_in u (bound u d) u_in refl

pub returns-clause-within : goal.returns-clause-within
returns-clause-within c net ok bound table keeps u d u_in d_in walk prescribed =
    prescribed_within net ok (λ u d b. bound u d ≡ b) (λ u d a b is so. sym is ∙ so) table keeps d d_in u (bound u d) u_in refl walk prescribed

-- Columns of figures as the program holds these.
use Rattle.std.specs.Prelude.{ℕ, List, [], ◌∷◌, Option, None, Some}
use Rattle.ir_show.specs.declared.worst.Weighed.{Weighed}
use Rattle.ir_figures.specs.Compared.{dash, ratio_text}

-- the mean and the worst stretch, by the sums and the worst pair
abbrev pub stretches_of : ℕ → ℕ → Option Weighed → List (List ℕ)
stretches_of walks distances None = dash ∷ dash ∷ []
stretches_of walks distances (Some p) = ratio_text walks distances ∷ ratio_text p.walk p.distance ∷ []

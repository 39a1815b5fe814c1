-- One input for several texts: the first line that is exactly `%%` ends the first text, and the rest is the next.
-- The rest is an end of the input, so its lines give its bytes.
use Rattle.std.specs.Prelude.{◌≡◌, ℕ, ◌++◌, Bool, if◌then◌else◌, List, [], ◌∷◌, bytes_eq, codes}

abbrev pub is_cut : List ℕ → Bool
is_cut line = bytes_eq line (codes "%%")

-- the lines before the cut; all of them where there is no cut
abbrev pub topology_part : List (List ℕ) → List (List ℕ)
topology_part [] = []
topology_part (l ∷ ls) = if is_cut l then [] else l ∷ topology_part ls

-- the lines after the cut; none where there is no cut
abbrev pub script_part : List (List ℕ) → List (List ℕ)
script_part [] = []
script_part (l ∷ ls) = if is_cut l then ls else script_part ls

-- the bytes at the end of the input
abbrev pub EndsWithBytes : List ℕ → List ℕ → Type 0
EndsWithBytes input rest = (front : List ℕ) × (front ++ rest ≡ input)

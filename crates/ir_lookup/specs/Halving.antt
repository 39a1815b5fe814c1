-- How many starts a look-up by halving compares.
use Rattle.std.specs.Prelude.{◌≡◌, ℕ, zero, suc, ◌+◌, ◌-◌, ◌/◌, ◌<◌, ◌≤◌, ◌⊎◌, List, slice_index}

-- So many comparisons with d leave none of the labels from the place `low` up to, and without, `high`. Each is with the
-- label in the middle of what is left: the half after it is left out where it is above d, and else the half before it.
abbrev pub Halves : List ℕ → ℕ → ℕ → ℕ → ℕ → Type 0
Halves ls d low high zero = high ≤ low
Halves ls d low high (suc n) =
    (middle : ℕ) × (low < high) × (middle ≡ low + (high - low) / 2)
    × (((d < slice_index ls middle) × Halves ls d low middle n) ⊎ ((slice_index ls middle ≤ d) × Halves ls d (middle + 1) high n))

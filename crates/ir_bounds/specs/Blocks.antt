-- What the trees of blocks are made by.
use Rattle.std.specs.Prelude.{◌≡◌, ℕ, ◌+◌, List, slice_index}
use Rattle.ir_model.specs.declared.Hop.{Hop}

-- the hop from v leads to a node with the same landmark, which is as much nearer as the link weighs
abbrev pub IsInward : List ℕ → List ℕ → ℕ → Hop → Type 0
IsInward nodes radii v hop = (slice_index nodes hop.node ≡ slice_index nodes v) × (slice_index radii v ≡ hop.weight + slice_index radii hop.node)

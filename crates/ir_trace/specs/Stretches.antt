-- The segments of a record, from its hops and restamps in order.
use Rattle.std.specs.Prelude.{ℕ, ◌+◌, ◌-◌, ◌<◌, ◌≤◌, List, [], ◌∷◌, take, drop}
use Rattle.ir_core.specs.declared.packet.Restamp.{Restamp}
use Rattle.ir_trace.specs.Row.{Segment}

-- the segment of an epoch from a place on, and those of the restamps after it
abbrev pub parts_from : ℕ → ℕ → List ℕ → List Restamp → List Segment
parts_from epoch from hops [] = record { epoch = epoch; hops = drop from hops } ∷ []
parts_from epoch from hops (s ∷ later) = record { epoch = epoch; hops = take ((s.from + 1) - from) (drop from hops) } ∷ parts_from s.epoch s.from hops later

-- the places of restamps in order: from this one on, below this number
abbrev pub AreAscending : ℕ → ℕ → List Restamp → Type 0
AreAscending from n [] = Unit {0}
AreAscending from n (s ∷ later) = (from ≤ s.from) × (s.from < n) × AreAscending s.from n later

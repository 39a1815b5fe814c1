-- By which way a node takes a parcel.
use Rattle.std.specs.Prelude.{◌≡◌, ℕ, List, Some, slice_get}
use Rattle.ir_model.specs.declared.Hop.{Hop}
use Rattle.ir_core.specs.declared.event.Way.{Way}
use Rattle.ir_core.specs.declared.event.Way.TheVariants.{Inbox, Link}

-- A parcel with this last hop, which goes to `next`, came to the node u by this way. It waited in the inbox of u, or it
-- came from the node of a port of u, by that port's link.
abbrev pub CameBy : List Hop → ℕ → Way → ℕ → ℕ → Type 0
CameBy ports u Inbox last next = (last ≡ u) × (next ≡ u)
CameBy ports u (Link l) last next = (next ≡ u) × ((j : ℕ) × (mine : Hop) × (slice_get ports j ≡ Some mine) × (mine.link ≡ l) × (last ≡ mine.node))

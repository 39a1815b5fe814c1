-- A network over some of the links of another.
use Rattle.std.specs.Prelude.{◌≡◌, Bool, List, length}
use Rattle.ir_model.specs.Topology.{Topology, restrict}

-- the one network is the other restricted to the links that are up, for some marks up or down of its links
abbrev pub IsOver : Topology → Topology → Type 0
IsOver net over = ∥ ((up : List Bool) × (length up ≡ length net.links) × (over ≡ restrict up net)) ∥₁

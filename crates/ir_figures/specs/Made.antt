-- Texts that a crew made, and plans that stand beside others.
use Rattle.std.specs.Prelude.{◌≡◌, ◌<◌, ℕ, List, Option, IfSome, string_bytes}
use Rattle.ir_model.specs.Plan.{Plan}
use Rattle.ir_model.specs.Topology.{Topology, node_count}
use Rattle.ir_plan.specs.declared.crew.NodeText.{NodeText}
use Rattle.ir_figures.specs.Waits.{whole_number}

-- the bytes of a text
abbrev pub bytes_made : NodeText → List ℕ
bytes_made one = string_bytes one.text

-- the other plan, if there is one, is over this network
abbrev pub IsOtherOver : Option Plan → Topology → Type 0
IsOtherOver other net = IfSome other (λ o. o.topology ≡ net)

-- so many nodes have numbers in the network of the other plan, if there is one
abbrev pub HaveNumbers : Option Plan → Option ℕ → ℕ → Type 0
HaveNumbers other without count = IfSome other (λ o. (x : ℕ) → x < count → whole_number without x < node_count o.topology)

-- A graph that is read again.
use Rattle.std.specs.Prelude.{◌≡◌, ℕ, List, None}
use Rattle.ir_model.specs.Graph.{Adjacency}
use Rattle.ir_model.specs.Text.{lines}
use Rattle.ir_cli.specs.declared.words.Format.{Format}
use Rattle.ir_cli.specs.Openings.{topology_fault, topology_graph}

-- the graph was read from the text, which has no fault
abbrev pub IsRead : Format → List ℕ → Adjacency → Type 0
IsRead format text g = (topology_fault format (lines text) ≡ None) × (g ≡ topology_graph format (lines text))

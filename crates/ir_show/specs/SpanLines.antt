-- The lines of some nodes of a plan, as they are made.
use Rattle.std.specs.Prelude.{◌≡◌, ℕ, ◌<◌, List, ◌∷◌, length, flat_map, slice_index_or, decimal, string_bytes}
use Rattle.ir_model.specs.Graph.{Name}
use Rattle.ir_model.specs.Topology.{Topology, ports_of}
use Rattle.ir_model.specs.Row.{Start}
use Rattle.ir_model.specs.Plan.{Plan}
use Rattle.ir_trace.specs.Written.{name_at}
use Rattle.ir_show.specs.PlanText.{start_words}
use Rattle.ir_show.specs.SpanText.{span_lines, span_starts}
use Rattle.ir_show.specs.declared.span.SpanLines.{SpanLines}

-- the start at a place of a row
abbrev pub start_at : List Start → ℕ → Start
start_at row i = slice_index_or row i (record { label = 0; port = 0 })

-- each start of the row has a port of the node
abbrev pub AreItsPorts : Topology → ℕ → List Start → Type 0
AreItsPorts topology u row = (i : ℕ) → i < length row → (start_at row i).port < length (ports_of topology u)

-- a node's name, its label, and its row
abbrev pub words_of_row : List Name → Topology → ℕ → ℕ → List Start → List (List ℕ)
words_of_row nodes topology u label row = name_at nodes u ∷ decimal label ∷ flat_map (start_words nodes topology u) row

-- the lines of these nodes, and how many starts they have
pub record AreSpanLines (nodes : List Name) (plan : Plan) (first last : ℕ) (lines : SpanLines) : Type 0 where
  pub text : string_bytes lines.text ≡ span_lines nodes plan first last
  pub starts : lines.starts ≡ span_starts plan first last

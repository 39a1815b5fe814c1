-- The pieces that a plan's text is made of, and the lines of nodes that follow one another.
use Rattle.std.specs.Prelude.{◌≡◌, ℕ, ◌≤◌, ◌-◌, List, length, map, flat_map, slice_index_or, decimal}
use Rattle.std.specs.List.{range_with_len}
use Rattle.ir_model.specs.Graph.{names}
use Rattle.ir_model.specs.Topology.{node_count}
use Rattle.ir_model.specs.Plan.{IsPlan, row_in}
use Rattle.ir_trace.specs.Rows.{spaced}
use Rattle.ir_trace.specs.Written.{name_at}
use Rattle.ir_show.specs.declared.blocks.TextBlock.{TextBlock}
use Rattle.ir_show.specs.declared.plan_text.Pieces.{Pieces}
use Rattle.ir_show.specs.PlanText.{node_words, start_words}
use Rattle.ir_show.specs.Words.{line_text}

-- for each number below this one its word, after a space
abbrev pub AreSpaced : (ℕ → List ℕ) → ℕ → List (List ℕ) → Type 0
AreSpaced word count texts = texts ≡ map (λ k. spaced (word k)) (range_with_len 0 count)

-- the plan is over the graph's network, and the pieces are those of its labels and of its nodes
pub record ArePieces (pieces : Pieces) : Type 0 where
  pub plan : IsPlan pieces.plan
  pub nodes : node_count pieces.plan.topology ≡ length pieces.graph
  pub numbers : AreSpaced decimal (length pieces.graph) pieces.numbers
  pub names : AreSpaced (name_at (names pieces.graph)) (length pieces.graph) pieces.names

-- the block is of nodes, which are so many
abbrev pub IsBlock : ℕ → TextBlock → Type 0
IsBlock nodes block = (block.from ≤ block.to) × (block.to ≤ nodes)

-- a start of a node's row and the name of the neighbour at its port, each after a space
abbrev pub start_text : Pieces → ℕ → ℕ → List ℕ
start_text pieces u i = flat_map spaced (start_words (names pieces.graph) pieces.plan.topology u (slice_index_or (row_in pieces.plan u) i (record { label = 0; port = 0 })))

-- the starts of a node's row
abbrev pub starts_text : Pieces → ℕ → List ℕ
starts_text pieces u = flat_map spaced (flat_map (start_words (names pieces.graph) pieces.plan.topology u) (row_in pieces.plan u))

-- the line of a node
abbrev pub line_of_node : Pieces → ℕ → List ℕ
line_of_node pieces u = line_text (node_words (names pieces.graph) pieces.plan u)

-- the lines of a block of nodes
abbrev pub block_lines : Pieces → TextBlock → List ℕ
block_lines pieces block = flat_map (λ u. line_of_node pieces u) (range_with_len block.from (block.to - block.from))

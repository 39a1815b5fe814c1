-- How many bits a plan's rows take, and the rows of full tables by label.
use Rattle.std.specs.Prelude.{◌≡◌, ℕ, ◌+◌, ◌-◌, ◌*◌, ◌<◌, length, sum_by}
use Rattle.std.specs.List.{range_with_len}
use Rattle.ir_model.specs.Topology.{node_count, ports_of}
use Rattle.ir_model.specs.Plan.{Plan, row_in}
use Rattle.ir_prefix.specs.Longest.{IsWidth}

-- the bits of the labels, and of the ports of each node, are the fewest that tell these apart
pub record AreFewestBits (plan : Plan) (label : ℕ) (port : ℕ → ℕ) : Type 0 where
  pub labels : IsWidth (node_count plan.topology) label
  pub ports : (u : ℕ) → u < node_count plan.topology → IsWidth (length (ports_of plan.topology u)) (port u)

-- each start of a node's row has the bits of a label and of a port of the node
abbrev pub row_bits : Plan → ℕ → (ℕ → ℕ) → ℕ → ℕ
row_bits plan label port u = length (row_in plan u) * (label + port u)

-- each entry of a node's full table, for each other label, has the bits of a port of the node
abbrev pub table_bits : Plan → (ℕ → ℕ) → ℕ → ℕ
table_bits plan port u = (node_count plan.topology - 1) * port u

-- the bits of the rows, and of the full tables, of the first so many nodes
abbrev pub AreBitsBefore : Plan → ℕ → ℕ → ℕ → Type 0
AreBitsBefore plan count rows tables =
    (label : ℕ) (port : ℕ → ℕ) → AreFewestBits plan label port
    → (rows ≡ sum_by (row_bits plan label port) (range_with_len 0 count)) × (tables ≡ sum_by (table_bits plan port) (range_with_len 0 count))

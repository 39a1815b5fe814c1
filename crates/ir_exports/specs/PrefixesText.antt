-- The text of a plan's forwarding tables.
use Rattle.std.specs.Prelude.{◌≡◌, ℕ, ◌+◌, Bool, List, [], ◌∷◌, ◌++◌, Option, None, Some, length, map, flat_map, sum_by, decimal, codes}
use Rattle.ir_model.specs.Graph.{Name}
use Rattle.ir_model.specs.Topology.{Topology, node_count}
use Rattle.ir_model.specs.Plan.{Plan, label_in}
use Rattle.ir_prefix.specs.declared.line.TableLine.{TableLine}
use Rattle.ir_trace.specs.Written.{name_at}
use Rattle.ir_show.specs.PlanText.{kind_text, node_by}
use Rattle.ir_show.specs.Words.{line_text}
use Rattle.ir_exports.specs.Tables.{AreTablesOf}

-- `VALUE/LENGTH`
abbrev pub prefix_text : ℕ → ℕ → List ℕ
prefix_text value length = decimal value ++ codes "/" ++ decimal length

-- the name of the neighbour at a port of u, or `#`, which no name holds, for what is unreachable
abbrev pub goal_text : List Name → Topology → ℕ → Option ℕ → List ℕ
goal_text nodes topology u None = codes "#"
goal_text nodes topology u (Some p) = name_at nodes (node_by topology u p)

-- a line of u: its prefix and its neighbour
abbrev pub entry_words : List Name → Topology → ℕ → TableLine → List (List ℕ)
entry_words nodes topology u m = prefix_text m.value m.length ∷ goal_text nodes topology u m.port ∷ []

-- a node: its name, its label, and its lines
abbrev pub prefix_node_words : List Name → Plan → ℕ → List TableLine → List (List ℕ)
prefix_node_words nodes plan u table = name_at nodes u ∷ decimal (label_in plan u) ∷ flat_map (entry_words nodes plan.topology u) table

-- a line of text for each table, those of the nodes from u on
abbrev pub nodes_text : List Name → Plan → ℕ → List (List TableLine) → List ℕ
nodes_text nodes plan u [] = []
nodes_text nodes plan u (table ∷ tables) = line_text (prefix_node_words nodes plan u table) ++ nodes_text nodes plan (u + 1) tables

-- `prefixes KIND N BITS LINES`
abbrev pub prefixes_head : Plan → ℕ → ℕ → List (List ℕ)
prefixes_head plan bits lines = codes "prefixes" ∷ kind_text plan.kind ∷ decimal (node_count plan.topology) ∷ decimal bits ∷ decimal lines ∷ []

abbrev pub prefixes_text : List Name → Plan → ℕ → List (List TableLine) → List ℕ
prefixes_text nodes plan bits tables = line_text (prefixes_head plan bits (sum_by length tables)) ++ nodes_text nodes plan 0 tables

-- The text is that of the lines of a plan's nodes, disjoint or not.
pub record IsPrefixesOf (is_disjoint : Bool) (nodes : List Name) (plan : Plan) (text : List ℕ) : Type 0 where
  pub bits : ℕ
  pub tables : List (List TableLine)
  pub are : AreTablesOf is_disjoint plan bits tables
  pub whole : text ≡ prefixes_text nodes plan bits tables

-- both texts have the same width, and as many lines for each node; they are one text where they have the same lines
abbrev pub AgreeByLines : Bool → List Name → Plan → List ℕ → List ℕ → Type 0
AgreeByLines is_disjoint nodes plan text other =
    (a : IsPrefixesOf is_disjoint nodes plan text) (b : IsPrefixesOf is_disjoint nodes plan other)
    → (a.bits ≡ b.bits) × (map length a.tables ≡ map length b.tables) × (a.tables ≡ b.tables → text ≡ other)

-- The text of a plan's figures, those of the field among them.
use Rattle.std.specs.Prelude.{◌≡◌, ℕ, ◌++◌, List, [], ◌∷◌, map, decimal, codes, Option, None, Some}
use Rattle.std.specs.Option.{option_map_or}
use Rattle.ir_model.specs.declared.Kind.{Kind}
use Rattle.ir_model.specs.declared.Kind.TheVariants.{Tree, Shortest, Compact, Landmark}
use Rattle.ir_model.specs.Graph.{Name}
use Rattle.ir_model.specs.Topology.{Topology, node_count, port_at}
use Rattle.ir_model.specs.Plan.{Plan}
use Rattle.ir_trace.specs.Written.{name_at}
use Rattle.ir_show.specs.Drawing.{ArePlanLandmarks}
use Rattle.ir_show.specs.Words.{line_text}
use Rattle.ir_show.specs.StatsText.{count_line, IsStatsOf}
use Rattle.ir_figures.specs.declared.most.Most.{Most}
use Rattle.ir_figures.specs.Compactness.{AreMost}
use Rattle.ir_figures.specs.RowBits.{AreBitsBefore}
use Rattle.ir_figures.specs.Waits.{Waits, WaitsInEither, IsWithoutRing, IsWaitingRing}

-- the node beyond a port
abbrev pub behind : Topology → ℕ → ℕ → ℕ
behind topology u p = option_map_or (λ hop. hop.node) (port_at topology u p) 0

-- `compactness NODE NEIGHBOUR COUNT`, where there is a port
abbrev pub most_line : List Name → Plan → Option Most → List ℕ
most_line nodes plan None = []
most_line nodes plan (Some m) = line_text (codes "compactness" ∷ name_at nodes m.node ∷ name_at nodes (behind plan.topology m.node m.port) ∷ decimal m.count ∷ [])

-- `bits ROWS TABLES`
abbrev pub bits_line : ℕ → ℕ → List ℕ
bits_line rows tables = line_text (codes "bits" ∷ decimal rows ∷ decimal tables ∷ [])

-- `landmarks NODE NODE ..` and `stretch PERCENT` of a landmark plan
abbrev pub landmarks_text : List Name → Kind → List ℕ → List ℕ
landmarks_text nodes Tree landmarks = []
landmarks_text nodes Shortest landmarks = []
landmarks_text nodes Compact landmarks = []
landmarks_text nodes (Landmark t) landmarks =
    line_text (codes "landmarks" ∷ map (name_at nodes) landmarks) ++ count_line (codes "stretch") t.stretch

-- `WORD acyclic`, or `WORD cycle` and the nodes that the links of a ring leave
abbrev pub ring_line : List ℕ → List Name → Option (List ℕ) → List ℕ
ring_line word nodes None = line_text (word ∷ codes "acyclic" ∷ [])
ring_line word nodes (Some ring) = line_text (word ∷ codes "cycle" ∷ map (name_at nodes) ring)

-- the links of a ring that wait for each other leave these nodes; without, no links do so
abbrev pub IsRingOf : (ℕ → ℕ → ℕ → ℕ → Type 0) → Option (List ℕ) → Type 0
IsRingOf waits None = IsWithoutRing waits
IsRingOf waits (Some ring) = (ports : List ℕ) × IsWaitingRing waits ring ports

-- The text has the figures of a plan, and after them those of the field.
pub record AreFiguresOf (nodes : List Name) (plan : Plan) (text : List ℕ) : Type 0 where
  pub figures : List ℕ
  pub stats : IsStatsOf nodes plan figures
  pub most : Option Most
  pub most_are : AreMost plan most
  pub rows : ℕ
  pub tables : ℕ
  pub bits : AreBitsBefore plan (node_count plan.topology) rows tables
  pub ring : Option (List ℕ)
  pub ring_is : IsRingOf (Waits plan) ring
  pub landmarks : List ℕ
  pub landmarks_are : ArePlanLandmarks plan.kind plan landmarks
  pub whole :
      text
      ≡ (((figures ++ most_line nodes plan most) ++ bits_line rows tables) ++ ring_line (codes "dependencies") nodes ring) ++ landmarks_text nodes plan.kind landmarks

-- The text has all figures of a plan, and after them whether links wait for each other in a ring while packets of a second
-- plan are under way too.
pub record AreFiguresBeside (nodes : List Name) (plan second : Plan) (text : List ℕ) : Type 0 where
  pub figures : List ℕ
  pub figures_are : AreFiguresOf nodes plan figures
  pub ring : Option (List ℕ)
  pub ring_is : IsRingOf (WaitsInEither plan second) ring
  pub whole : text ≡ figures ++ ring_line (codes "together") nodes ring

-- The text that compares the plans of a network: a row of figures for each kind and order of labels, beside full tables.
use Rattle.std.specs.Prelude.{◌≡◌, ℕ, ◌++◌, List, [], ◌∷◌, length, sum_by, decimal, codes, Option, None, Some}
use Rattle.ir_model.specs.declared.Detour.{Detour}
use Rattle.ir_model.specs.declared.Kind.{Kind}
use Rattle.ir_model.specs.declared.Kind.TheVariants.{Tree, Shortest, Compact, Landmark}
use Rattle.ir_model.specs.Topology.{Topology, node_count}
use Rattle.ir_model.specs.Plan.{Plan, IsPlan, row_in}
use Rattle.ir_plan.specs.declared.tour.LabelOrder.{LabelOrder}
use Rattle.ir_plan.specs.declared.tour.LabelOrder.TheVariants.{DepthFirst, Tour}
use Rattle.ir_plan.specs.Building.{FromRoot, IsPlanBy}
use Rattle.ir_show.specs.declared.worst.Pair.{Pair}
use Rattle.ir_show.specs.PlanText.{kind_text}
use Rattle.ir_show.specs.StatsText.{AreWalkWeights, ArePlanDistances, sum_of_pairs, IsGreatestRow, IsWorstOf}
use Rattle.ir_show.specs.Words.{line_text}
use Rattle.ir_figures.specs.RowBits.{AreBitsBefore}
use Rattle.ir_figures.specs.Waits.{Waits}
use Rattle.ir_figures.specs.FiguresText.{IsRingOf}

-- the word of an order of labels
abbrev pub order_word : LabelOrder → List ℕ
order_word DepthFirst = codes "depth-first"
order_word Tour = codes "tour"

-- the word by which a kind's labels are ordered: those of a landmark plan are by blocks, whatever the order
abbrev pub labels_word : Kind → LabelOrder → List ℕ
labels_word Tree order = order_word order
labels_word Shortest order = order_word order
labels_word Compact order = order_word order
labels_word (Landmark t) order = codes "blocks"

-- the word of a kind, with the stretch after that of landmark plans
abbrev pub compared_kind : Kind → List ℕ
compared_kind Tree = kind_text Tree
compared_kind Shortest = kind_text Shortest
compared_kind Compact = kind_text Compact
compared_kind (Landmark t) = codes "landmark-" ++ decimal t.stretch

-- what is not given
abbrev pub dash : List ℕ
dash = codes "-"

-- `OVER/UNDER`
abbrev pub ratio_text : ℕ → ℕ → List ℕ
ratio_text over under = decimal over ++ codes "/" ++ decimal under

-- The mean and the worst stretch: the weights of all walks over all distances, and the walk of the worst pair over its
-- distance. Of one node there are none.
abbrev pub stretch_words : ℕ → (ℕ → ℕ → ℕ) → (ℕ → ℕ → ℕ) → Option Pair → List (List ℕ)
stretch_words n walk distance None = dash ∷ dash ∷ []
stretch_words n walk distance (Some p) =
    ratio_text (sum_of_pairs n walk) (sum_of_pairs n distance) ∷ ratio_text (walk p.from p.to) (distance p.from p.to) ∷ []

-- whether links wait for each other in a ring
abbrev pub ring_word : Option (List ℕ) → List ℕ
ring_word None = codes "acyclic"
ring_word (Some ring) = codes "cycle"

-- how many starts the rows have, the greatest row, and the bits of the rows
abbrev pub count_words : Plan → ℕ → ℕ → List (List ℕ)
count_words plan greatest bits = decimal (sum_by length plan.rows) ∷ decimal (length (row_in plan greatest)) ∷ decimal bits ∷ []

-- The line has a plan's figures, those of `stats`.
pub record IsRowOf (order : LabelOrder) (plan : Plan) (line : List ℕ) : Type 0 where
  pub greatest : ℕ
  pub greatest_row : IsGreatestRow plan greatest
  pub walk : ℕ → ℕ → ℕ
  pub walks : AreWalkWeights plan walk
  pub distance : ℕ → ℕ → ℕ
  pub distances : ArePlanDistances plan distance
  pub worst : Option Pair
  pub worst_pair : IsWorstOf (node_count plan.topology) walk distance worst
  pub rows : ℕ
  pub tables : ℕ
  pub bits : AreBitsBefore plan (node_count plan.topology) rows tables
  pub ring : Option (List ℕ)
  pub ring_is : IsRingOf (Waits plan) ring
  pub whole :
      line
      ≡ line_text (compared_kind plan.kind ∷ labels_word plan.kind order ∷ count_words plan greatest rows ++ stretch_words (node_count plan.topology) walk distance worst ++ ring_word ring ∷ [])

-- the line has the figures of the plan of this kind, labelled in this order from the root
abbrev pub IsRowBy : Topology → ℕ → Kind → LabelOrder → List ℕ → Type 0
IsRowBy network root kind order line = (plan : Plan) × IsPlanBy network kind (FromRoot order root) plan × IsRowOf order plan line

-- the lines of both orders
abbrev pub AreBothRows : Topology → ℕ → Kind → List ℕ → Type 0
AreBothRows network root kind lines =
    (first second : List ℕ) × IsRowBy network root kind DepthFirst first × IsRowBy network root kind Tour second × (lines ≡ first ++ second)

-- the lines of a kind; of one of other than shortest ways that of its first labels alone
abbrev pub AreRowsOf : Topology → ℕ → Kind → List ℕ → Type 0
AreRowsOf network root Shortest lines = AreBothRows network root Shortest lines
AreRowsOf network root Compact lines = AreBothRows network root Compact lines
AreRowsOf network root Tree lines = IsRowBy network root Tree DepthFirst lines
AreRowsOf network root (Landmark t) lines = IsRowBy network root (Landmark t) DepthFirst lines

-- the lines of the landmark plans of three detours
abbrev pub AreDetourRows : Topology → ℕ → Detour × Detour × Detour → List ℕ → Type 0
AreDetourRows network root detours lines =
    (first second third : List ℕ) × IsRowBy network root (Landmark detours.0) DepthFirst first × IsRowBy network root (Landmark detours.1) DepthFirst second
    × IsRowBy network root (Landmark detours.2) DepthFirst third × (lines ≡ (first ++ second) ++ third)

-- the bits of full tables by label, as a plan of the network has them
abbrev pub AreTableBits : Topology → ℕ → Type 0
AreTableBits network tables =
    (plan : Plan) × IsPlan plan × (plan.topology ≡ network) × (rows : ℕ) × AreBitsBefore plan (node_count plan.topology) rows tables

-- `compare N M`
abbrev pub compare_head : Topology → List (List ℕ)
compare_head network = codes "compare" ∷ decimal (node_count network) ∷ decimal (length network.links) ∷ []

-- the names of the columns
abbrev pub column_names : List (List ℕ)
column_names =
    codes "kind" ∷ codes "numbering" ∷ codes "intervals" ∷ codes "greatest-row" ∷ codes "bits" ∷ codes "mean-stretch" ∷ codes "worst-stretch"
    ∷ codes "dependencies" ∷ []

-- the row of full tables, of which the bits alone are reported
abbrev pub table_words : ℕ → List (List ℕ)
table_words tables = codes "tables" ∷ dash ∷ dash ∷ dash ∷ decimal tables ∷ dash ∷ dash ∷ dash ∷ []

-- The text compares the plans of a network from a root, the landmark plans of three detours among them.
pub record IsComparison (network : Topology) (root : ℕ) (detours : Detour × Detour × Detour) (text : List ℕ) : Type 0 where
  pub shortest : List ℕ
  pub shortest_are : AreRowsOf network root Shortest shortest
  pub compact : List ℕ
  pub compact_are : AreRowsOf network root Compact compact
  pub tree : List ℕ
  pub tree_are : AreRowsOf network root Tree tree
  pub by_landmarks : List ℕ
  pub by_landmarks_are : AreDetourRows network root detours by_landmarks
  pub tables : ℕ
  pub tables_are : AreTableBits network tables
  pub whole :
      text
      ≡ (((((line_text (compare_head network) ++ line_text column_names) ++ shortest) ++ compact) ++ tree) ++ by_landmarks) ++ line_text (table_words tables)

-- The text of the figures that a network has where each of its links or nodes fails.
use Rattle.std.specs.Prelude.{◌≡◌, ℕ, ◌-◌, ◌==◌, ◌⊎◌, ◌++◌, Bool, true, false, not, nat_lt, if◌then◌else◌, List, [], ◌∷◌, length, map, filter, flat_map, decimal, codes, replicate, slice_get, slice_set, Option, None, Some}
use Rattle.std.specs.List.{AllZip, range_with_len}
use Rattle.ir_model.specs.declared.Kind.{Kind}
use Rattle.ir_model.specs.declared.Kind.TheVariants.{Tree, Shortest, Compact, Landmark}
use Rattle.ir_model.specs.declared.Link.{Link}
use Rattle.ir_model.specs.Graph.{Name, Adjacency, names, without_node}
use Rattle.ir_model.specs.OfGraph.{topology_of_graph}
use Rattle.ir_model.specs.Topology.{Topology, node_count, restrict}
use Rattle.ir_model.specs.Walk.{IsDisconnected}
use Rattle.ir_model.specs.Plan.{Plan}
use Rattle.ir_plan.specs.declared.tour.LabelOrder.{LabelOrder}
use Rattle.ir_plan.specs.declared.tour.LabelOrder.TheVariants.{DepthFirst}
use Rattle.ir_plan.specs.Building.{Labelling, FromRoot, ByList, IsPlanBy}
use Rattle.ir_trace.specs.Written.{name_at}
use Rattle.ir_show.specs.declared.worst.Pair.{Pair}
use Rattle.ir_show.specs.PlanText.{kind_text}
use Rattle.ir_show.specs.StatsText.{AreWalkWeights, ArePlanDistances, IsGreatestRow, IsWorstOf}
use Rattle.ir_show.specs.Words.{line_text}
use Rattle.ir_figures.specs.RowBits.{AreBitsBefore}
use Rattle.ir_figures.specs.Waits.{whole_number, Waits, WaitsBeside}
use Rattle.ir_figures.specs.FiguresText.{IsRingOf}
use Rattle.ir_figures.specs.Compared.{count_words, stretch_words, ring_word}

-- The words of a plan's figures, those of `stats`: as in a row of `compare`.
pub record AreFigureWords (plan : Plan) (words : List (List ℕ)) : Type 0 where
  pub greatest : ℕ
  pub greatest_row : IsGreatestRow plan greatest
  pub walk : ℕ → ℕ → ℕ
  pub walks : AreWalkWeights plan walk
  pub distance : ℕ → ℕ → ℕ
  pub distances : ArePlanDistances plan distance
  pub worst : Option Pair
  pub worst_pair : IsWorstOf (node_count plan.topology) walk distance worst
  pub rows : ℕ
  pub tables : ℕ
  pub bits : AreBitsBefore plan (node_count plan.topology) rows tables
  pub ring : Option (List ℕ)
  pub ring_is : IsRingOf (Waits plan) ring
  pub whole : words ≡ count_words plan greatest rows ++ stretch_words (node_count plan.topology) walk distance worst ++ ring_word ring ∷ []

-- Whether links wait for each other in a ring while packets of another plan, over the whole network, are under way too, if
-- there is one. The plan is over that network, without a node if there is one.
abbrev pub IsRingWord : Option Plan → Option ℕ → Plan → List (List ℕ) → Type 0
IsRingWord None without plan words = words ≡ []
IsRingWord (Some other) without plan words =
    (ring : Option (List ℕ)) × IsRingOf (WaitsBeside other (whole_number without) plan) ring × (words ≡ ring_word ring ∷ [])

-- the words of a plan's figures, and after them that one
abbrev pub AreFiguresWith : Option Plan → Option ℕ → Plan → List (List ℕ) → Type 0
AreFiguresWith other without plan words =
    (figures more : List (List ℕ)) × AreFigureWords plan figures × IsRingWord other without plan more × (words ≡ figures ++ more)

-- all of so many links are up, but one
abbrev pub all_but : ℕ → ℕ → List Bool
all_but count l = slice_set (replicate count true) l false

-- the network without a link
abbrev pub without_link : Topology → ℕ → Topology
without_link net l = restrict (all_but (length net.links) l) net

-- the labels of a plan as a list; those of a tree are depth first from its root, whatever the network
abbrev pub labelling_kept : Kind → Plan → Labelling
labelling_kept Tree plan = FromRoot DepthFirst plan.root
labelling_kept Shortest plan = ByList plan.order
labelling_kept Compact plan = ByList plan.order
labelling_kept (Landmark t) plan = ByList plan.order

-- By what the plans are labelled where a link fails: in this order from the root of the plan of the whole network, or with
-- the labels of that plan.
abbrev pub labelling_left : Plan → Option LabelOrder → Labelling
labelling_left plan (Some order) = FromRoot order plan.root
labelling_left plan None = labelling_kept plan.kind plan

-- The words say what a network comes to: the figures of the plan over it of this kind and these labels, that some node has
-- no walk to some node, or that there is no node.
abbrev pub AreWordsOf : Topology → Kind → Labelling → Option Plan → Option ℕ → List (List ℕ) → Type 0
AreWordsOf net kind labels other without words =
    ((plan : Plan) × IsPlanBy net kind labels plan × AreFiguresWith other without plan words)
    ⊎ (IsDisconnected net × (words ≡ codes "disconnected" ∷ []))
    ⊎ ((node_count net ≡ 0) × (words ≡ codes "empty" ∷ []))

-- `A B ..`: the ends of the link l, and what the network without it comes to, beside another plan over the whole network if
-- there is one. That plan keeps the link.
pub record IsLinkLine (nodes : List Name) (plan : Plan) (labels : Option LabelOrder) (other : Option Plan) (l : ℕ) (line : List ℕ) : Type 0 where
  pub link : Link
  pub at : slice_get plan.topology.links l ≡ Some link
  pub words : List (List ℕ)
  pub left : AreWordsOf (without_link plan.topology l) plan.kind (labelling_left plan labels) other None words
  pub whole : line ≡ line_text (name_at nodes link.low ∷ name_at nodes link.high ∷ words)

-- `each WHAT KIND N M ..`: with the figures of the plan of the whole network
abbrev pub failures_head : List ℕ → Plan → List (List ℕ) → List (List ℕ)
failures_head what plan words =
    codes "each" ∷ what ∷ kind_text plan.kind ∷ decimal (node_count plan.topology) ∷ decimal (length plan.topology.links) ∷ words

-- The text has the figures of a plan, and after them a line for each link, by number.
pub record AreLinkFailures (nodes : List Name) (plan : Plan) (labels : Option LabelOrder) (other : Option Plan) (text : List ℕ) : Type 0 where
  pub words : List (List ℕ)
  pub figures : AreFiguresWith other None plan words
  pub lines : List (List ℕ)
  pub each : AllZip (IsLinkLine nodes plan labels other) (range_with_len 0 (length plan.topology.links)) lines
  pub whole : text ≡ line_text (failures_head (codes "links") plan words) ++ flat_map (λ line. line) lines

-- ---- where a node fails

-- the network of a graph without the node k and its links: that of a graph that never had it
abbrev pub network_without : Adjacency → ℕ → Topology
network_without g k = topology_of_graph (without_node g (name_at (names g) k))

-- the number that another node has there: the nodes after k come one earlier
abbrev pub number_left : ℕ → ℕ → ℕ
number_left k u = if nat_lt k u then u - 1 else u

-- the root there: that of the whole network's plan, or where it is the one that fails the first node
abbrev pub root_left : ℕ → ℕ → ℕ
root_left k root = if root == k then 0 else number_left k root

-- the nodes of a list there, in the same order
abbrev pub list_left : ℕ → List ℕ → List ℕ
list_left k nodes = map (number_left k) (filter (λ u. not (u == k)) nodes)

-- the labels of a plan there as a list, in the same order; those of a tree are depth first from the root
abbrev pub labelling_less : Kind → Plan → ℕ → Labelling
labelling_less Tree plan k = FromRoot DepthFirst (root_left k plan.root)
labelling_less Shortest plan k = ByList (list_left k plan.order)
labelling_less Compact plan k = ByList (list_left k plan.order)
labelling_less (Landmark t) plan k = ByList (list_left k plan.order)

-- By what the plans of this kind are labelled where a node fails: in this order from the root, or as the plan of the whole
-- network.
abbrev pub labelling_without : Kind → Plan → Option LabelOrder → ℕ → Labelling
labelling_without kind plan (Some order) k = FromRoot order (root_left k plan.root)
labelling_without kind plan None k = labelling_less kind plan k

-- `A ..`: the node k, and what the network without it comes to by a plan of this kind, beside another plan over the whole
-- network if there is one. That plan keeps the node.
pub record IsNodeLine (g : Adjacency) (plan : Plan) (kind : Kind) (labels : Option LabelOrder) (other : Option Plan) (k : ℕ) (line : List ℕ) : Type 0 where
  pub words : List (List ℕ)
  pub left : AreWordsOf (network_without g k) kind (labelling_without kind plan labels k) other (Some k) words
  pub whole : line ≡ line_text (name_at (names g) k ∷ words)

-- The text has the figures of a plan, and after them a line for each node, in order.
pub record AreNodeFailures (g : Adjacency) (plan : Plan) (kind : Kind) (labels : Option LabelOrder) (other : Option Plan) (text : List ℕ) : Type 0 where
  pub words : List (List ℕ)
  pub figures : AreFiguresWith other None plan words
  pub lines : List (List ℕ)
  pub each : AllZip (IsNodeLine g plan kind labels other) (range_with_len 0 (node_count plan.topology)) lines
  pub whole : text ≡ line_text (failures_head (codes "nodes") plan words) ++ flat_map (λ line. line) lines

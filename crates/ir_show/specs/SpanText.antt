-- The text of some nodes of a plan: a first line of its own, and these lines of the plan's text.
use Rattle.std.specs.Prelude.{◌≡◌, ℕ, ◌+◌, ◌-◌, List, [], ◌∷◌, ◌++◌, length, flat_map, sum_by, decimal, codes}
use Rattle.std.specs.List.{range_with_len}
use Rattle.ir_model.specs.declared.Kind.{Kind}
use Rattle.ir_model.specs.Graph.{Name}
use Rattle.ir_model.specs.Topology.{Topology, node_count}
use Rattle.ir_model.specs.Plan.{Plan, row_in}
use Rattle.ir_plan.specs.Building.{Labelling, IsPlanBy}
use Rattle.ir_show.specs.PlanText.{kind_text, node_words}
use Rattle.ir_show.specs.Words.{line_text}

-- the nodes from one to another, both of them in it
abbrev pub span_nodes : ℕ → ℕ → List ℕ
span_nodes first last = range_with_len first (last + 1 - first)

-- how many starts their rows have
abbrev pub span_starts : Plan → ℕ → ℕ → ℕ
span_starts plan first last = sum_by (λ u. length (row_in plan u)) (span_nodes first last)

-- `plan KIND N L FIRST LAST`, with L starts
abbrev pub span_words : Kind → ℕ → ℕ → ℕ → ℕ → List (List ℕ)
span_words kind nodes starts first last =
    codes "plan" ∷ kind_text kind ∷ decimal nodes ∷ decimal starts ∷ decimal first ∷ decimal last ∷ []

-- the lines of these nodes in the plan's text
abbrev pub span_lines : List Name → Plan → ℕ → ℕ → List ℕ
span_lines nodes plan first last = flat_map (λ u. line_text (node_words nodes plan u)) (span_nodes first last)

-- the first line, with the starts of these nodes alone, and their lines
abbrev pub text_of_span : List Name → Plan → ℕ → ℕ → List ℕ
text_of_span nodes plan first last =
    line_text (span_words plan.kind (node_count plan.topology) (span_starts plan first last) first last) ++ span_lines nodes plan first last

-- The text is that of these nodes in a plan of a kind and these labels over the network.
pub record IsSpanOfPlan (nodes : List Name) (topology : Topology) (kind : Kind) (labels : Labelling) (first last : ℕ) (text : List ℕ) : Type 0 where
  pub plan : Plan
  pub built : IsPlanBy topology kind labels plan
  pub whole : text ≡ text_of_span nodes plan first last

-- The text of the rows of a comparison.
use Rattle.std.proofs.Common.{◌≡◌, ℕ, List, [], ◌∷◌, ◌++◌, Option, None, Some, Ok, Err, IfSome, option_map, flat_map, ap, sym, subst, ◌∙◌, refl, append_assoc}
use Rattle.std.specs.Prelude.{OnOk}
use Rattle.std.specs.declared.result.Result.{Result}
use Rattle.std.proofs.lemmas.Grind.{flat_map-append}
use Rattle.std.proofs.lemmas.List.{append-nil}
use Rattle.ir_model.specs.declared.Kind.{Kind}
use Rattle.ir_model.specs.Topology.{Topology, node_count}
use Rattle.ir_model.specs.Plan.{Plan, IsPlan}
use Rattle.ir_plan.specs.declared.tour.LabelOrder.TheVariants.{DepthFirst, Tour}
use Rattle.ir_plan.specs.Building.{FromRoot, IsPlanBy}
use Rattle.ir_plan.specs.Starts.{IsFirstPlan, IsLabelledBy, IsPlanAs}
use Rattle.ir_trace.specs.Rows.{spaced}
use Rattle.ir_trace.proofs.WrittenRows.{join_spaced}
use Rattle.ir_show.specs.declared.worst.Weighed.{Weighed}
use Rattle.ir_show.specs.declared.figures.Figures.{Figures}
use Rattle.ir_show.specs.Before.{IsWeighed}
use Rattle.ir_show.specs.Figures.{AreFigures}
use Rattle.ir_show.specs.StatsText.{sum_of_pairs}
use Rattle.ir_show.specs.Words.{line_text}
use Rattle.ir_figures.specs.Compared.{stretch_words, IsRowOf, IsRowBy, AreBothRows}
use Rattle.ir_figures.specs.Columns.{stretches_of}

pieces : (old a b c d e f : List ℕ) → (((((old ++ a) ++ b) ++ c) ++ d) ++ e) ++ f ≡ old ++ ((a ++ (b ++ ((c ++ d) ++ e))) ++ f)
pieces old a b c d e f = simp append_assoc

-- the words of a row, put one after another
pub row_words : (old kind order : List ℕ) (counts stretches : List (List ℕ)) (ring : List ℕ)
    → (((((old ++ kind) ++ spaced order) ++ flat_map spaced counts) ++ flat_map spaced stretches) ++ spaced ring) ++ 10 ∷ []
    ≡ old ++ line_text (kind ∷ order ∷ counts ++ stretches ++ ring ∷ [])
row_words old kind order counts stretches ring =
    pieces old kind (spaced order) (flat_map spaced counts) (flat_map spaced stretches) (spaced ring) (10 ∷ [])
    ∙ ap (λ t. old ++ ((kind ++ (spaced order ++ ((flat_map spaced counts ++ flat_map spaced stretches) ++ t))) ++ 10 ∷ [])) (sym (append-nil (spaced ring)))
    ∙ ap (λ t. old ++ ((kind ++ (spaced order ++ (t ++ flat_map spaced (ring ∷ [])))) ++ 10 ∷ [])) (sym (flat_map-append spaced counts stretches))
    ∙ ap (λ t. old ++ ((kind ++ (spaced order ++ t)) ++ 10 ∷ [])) (sym (flat_map-append spaced (counts ++ stretches) (ring ∷ [])))
    ∙ ap (λ t. old ++ (t ++ 10 ∷ [])) (sym (join_spaced kind (order ∷ ((counts ++ stretches) ++ ring ∷ []))))

-- a row, as it is written word by word
pub row_told : (old a b c d e f kind order : List ℕ) (counts stretches : List (List ℕ)) (ring : List ℕ)
    → a ≡ old ++ kind → b ≡ a ++ spaced order → c ≡ b ++ flat_map spaced counts → d ≡ c ++ flat_map spaced stretches → e ≡ d ++ spaced ring → f ≡ e ++ 10 ∷ []
    → f ≡ old ++ line_text (kind ∷ order ∷ counts ++ stretches ++ ring ∷ [])
row_told old a b c d e f kind order counts stretches ring one two three four five six = rw (six, five, four, three, two, one) (row_words old kind order counts stretches ring)

weighed_stretches : (n : ℕ) (walk distance : ℕ → ℕ → ℕ) (walks distances : ℕ) (worst : Option Weighed) → IfSome worst (IsWeighed walk distance)
    → (walks ≡ sum_of_pairs n walk) → (distances ≡ sum_of_pairs n distance)
    → stretches_of walks distances worst ≡ stretch_words n walk distance (option_map (λ p. p.ends) worst)
weighed_stretches n walk distance walks distances None is one other = refl
weighed_stretches n walk distance walks distances (Some p) is one other = rw (one, other, is.0, is.1) refl

-- the stretches of figures are those of the walks and of the distances
pub figures_stretches : (s : Plan) (f : Figures) (are : AreFigures s f)
    → stretches_of f.walks f.distances f.worst ≡ stretch_words (node_count s.topology) are.walk are.distance (option_map (λ p. p.ends) f.worst)
figures_stretches s f are =
    weighed_stretches (node_count s.topology) are.walk are.distance f.walks f.distances f.worst are.weighed are.walks_sum are.distances_sum

-- the row of a plan as another one that is labelled by the tour
pub row_by_tour : {X E : Type 0} (r : Result X E) (p q : Plan) (old new : List ℕ) → IsPlanAs p q → IsLabelledBy Tour q → OnOk r ((line : List ℕ) × IsRowOf Tour q line × (new ≡ old ++ line))
    → OnOk r ((line : List ℕ) × IsRowBy p.topology p.root p.kind Tour line × (new ≡ old ++ line))
row_by_tour (Ok x) p q old new like labelled told = (told.0, (q, record { valid = like.plan; over = like.topology; of_kind = like.kind; labelled = (labelled, like.root) }, told.1), told.2)
row_by_tour (Err e) p q old new like labelled told = tt

-- the row of a depth-first plan
pub row_by_depth : (p : Plan) (line : List ℕ) → IsPlan p → IsFirstPlan p → IsRowOf DepthFirst p line → IsRowBy p.topology p.root p.kind DepthFirst line
row_by_depth p line is numbers row = (p, record { valid = is; over = refl; of_kind = refl; labelled = (numbers, refl) }, row)

-- the rows of a plan are those of its network, kind and root
pub rows_by : (net : Topology) (kind : Kind) (root : ℕ) (p : Plan) (lines : List ℕ) → IsPlanBy net kind (FromRoot DepthFirst root) p → AreBothRows p.topology p.root p.kind lines → AreBothRows net root kind lines
rows_by net kind root p lines is rows =
    subst (λ (n : Topology). AreBothRows n root kind lines) is.over
    (subst (λ (r : ℕ). AreBothRows p.topology r kind lines) is.labelled.1 (subst (λ (k : Kind). AreBothRows p.topology p.root k lines) is.of_kind rows))

-- two texts, one written after the other
pub more_words : (old first second a b : List ℕ) → a ≡ old ++ first → b ≡ a ++ second → b ≡ old ++ (first ++ second)
more_words old first second a b one two = rw (two, one) (append_assoc old first second)

-- the texts of a comparison, one written after the other
pub whole_text : (a b c d e f g head columns one two three four tables : List ℕ) → a ≡ [] → b ≡ (a ++ head) ++ columns → c ≡ b ++ one → d ≡ c ++ two → e ≡ d ++ three → f ≡ e ++ four → g ≡ f ++ tables
    → g ≡ (((((head ++ columns) ++ one) ++ two) ++ three) ++ four) ++ tables
whole_text a b c d e f g head columns one two three four tables p q r s t u v = rw (v, u, t, s, r, q, p) refl

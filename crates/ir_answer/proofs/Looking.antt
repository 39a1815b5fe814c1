-- The answers that show a plan, by what was read before it is built.
use Rattle.std.proofs.Common.{◌≡◌, ◌≢◌, ◌∙◌, ◌<◌, ℕ, Bool, length, List, Option, Some, None, MatchOption, string_bytes, refl, sym, ap, subst, true, false, true≢false, arith}
use Rattle.std.specs.Option.{option_map}
use Rattle.ir_model.specs.declared.Detour.{Detour}
use Rattle.ir_model.specs.declared.Kind.{Kind}
use Rattle.ir_model.specs.declared.Kind.TheVariants.{Tree}
use Rattle.ir_cli.specs.declared.kinds.KindChoice.{KindChoice}
use Rattle.ir_cli.specs.declared.kinds.KindChoice.TheVariants as choices
use Rattle.ir_cli.specs.Words.{takes_list}
use Rattle.ir_model.specs.Graph.{Name, Adjacency, names}
use Rattle.ir_model.specs.Topology.{node_count}
use Rattle.ir_model.specs.OfGraph.{topology_of_graph}
use Rattle.ir_model.specs.Plan.{Plan, IsPlan}
use Rattle.ir_plan.specs.declared.error.PlanError.{PlanError}
use Rattle.ir_plan.specs.declared.error.PlanError.TheVariants as plans
use Rattle.ir_plan.specs.declared.tour.LabelOrder.TheVariants as orders
use Rattle.ir_model.specs.Text.{lines}
use Rattle.ir_script.specs.Order.{order_fault, IsOrder}
use Rattle.ir_script.specs.declared.order_fault.OrderFaultKind.{OrderFaultKind}
use Rattle.ir_cli.specs.declared.words.Words.{Words}
use Rattle.ir_cli.specs.declared.words.Second.{Second}
use Rattle.ir_cli.specs.declared.words.Span.{Span}
use Rattle.ir_cli.specs.Kinds.{detour_of, kind_of}
use Rattle.ir_cli.specs.Answer.{Answer, Ran, Found, Refused, NoThread}
use Rattle.ir_core.specs.declared.event.OpenError.{OpenError}
use Rattle.ir_core.specs.declared.event.OpenError.TheVariants as errors
use Rattle.ir_core.specs.Codes.{open_error_of}
use Rattle.ir_cli.specs.Lines.{numbering_line, opening_line}
use Rattle.ir_cli.specs.Openings.{topology_fault, topology_graph, root_name, root_in, kind_asked, label_order, AnswersRoot, AnswersOrder}
use Rattle.ir_cli.specs.declared.words.Sub.{Sub}
use Rattle.ir_cli.specs.declared.words.Sub.TheVariants.{Plan as Planning, Walk, Stats, Compare, Diff, Draw, Prefixes, Ranges as Ranging, Xdp, Sim, Live, Check}
use Rattle.ir_answer.specs.declared.look.Show.{Show}
use Rattle.ir_answer.specs.declared.look.Show.TheVariants.{Between, Drawing, Circle}
use Rattle.ir_answer.specs.Looks.{from_name, to_name, drawn_name, Says, AnswerShows, AnswersEnds, AnswersBothEnds, AnswersDrawn, AnswersFigures, AnswersShow, AnswersAsked, AnswersLook, AnswersLabels, AreTexts, LookAnswers, IsNode, IsLabelling, AreShown, IsNetwork, IsOneDrawn, IsShow, lines_shown, RefusesLabels, RefusesEnds, RefusesLined, RefusesShow, AnswersLined, AreLined, has_lines, AnswersPlanned, AnswersWithin, IsPlanned, RefusesPlanned, are_nodes, AnswersSecond, IsSecondPlan, figures_shown, RefusesSecond}
use Rattle.ir_plan.specs.Building.{Labelling, FromRoot, ByList, IsPlanBy, RefusesPlan}
use Rattle.ir_show.specs.Alone.{IsWalkOfPlan}
use Rattle.ir_answer.specs.Plans.{AnswersText, IsTextOfPlan}
use Rattle.ir_answer.specs.declared.asking.AnswerStop.{AnswerStop}
use Rattle.ir_answer.specs.Stops.{StopsAs}
use Rattle.ir_answer.proofs.Answering.{stops_more, option_more, of_graph, of_root}

-- over the network of a plan, memory alone refuses a second one from a node
pub second_refused : (s : Plan) → IsPlan s → (root : ℕ) → root < node_count s.topology → (e : PlanError) → RefusesPlan s.topology (FromRoot orders.DepthFirst root) e → e ≡ plans.NoMemory
second_refused s is root lt plans.Empty none = absurd (omega (arith, lt, none))
second_refused s is root lt plans.NoNode past = absurd (omega (arith, lt, past.1))
second_refused s is root lt plans.Disconnected (some, has, apart) = (let walk = is.connected apart.0 apart.1 apart.2 apart.3 in absurd (apart.4 walk.0 walk.1))
second_refused s is root lt plans.NoMemory any = refl

-- ---- labels

-- a kind that takes another order than depth first is no tree
pub no_tree : (choice : KindChoice) (detour : Detour) → takes_list choice ≡ true → kind_of choice detour ≢ Tree
no_tree choices.Tree detour takes = absurd (true≢false (sym takes))
no_tree choices.Shortest detour takes = λ same. cc same
no_tree choices.Compact detour takes = λ same. cc same
no_tree choices.Landmark detour takes = absurd (true≢false (sym takes))

of_order : (g : Adjacency) (ls : List (List ℕ)) (answers : List ℕ → Answer → Type 0) (answer : Answer) (places : List ℕ)
    → IsOrder (names g) ls places → answers places answer → AnswersOrder g ls answers answer
of_order g ls answers answer places is holds =
    subst (λ (first : Option (ℕ × OrderFaultKind)). MatchOption first ((order : List ℕ) × IsOrder (names g) ls order × answers order answer) (λ f. answer ≡ Refused (numbering_line f)))
    (sym is.no_fault) (places, is, holds)

pub of_labels : (words : Words) (order : Option (List ℕ)) (g : Adjacency) (answers : Labelling → Answer → Type 0) (labels : Labelling) (answer : Answer)
    → IsLabelling words order g labels → answers labels answer → AnswersLabels words order g answers answer
of_labels words None g answers labels answer (root, is, same) holds =
    of_root g (root_name words) (λ u. answers (FromRoot (label_order words.numbering) u)) answer root is (subst (λ (l : Labelling). answers l answer) same holds)
of_labels words (Some text) g answers labels answer (places, is, same) holds =
    of_order g (lines text) (λ order. answers (ByList order)) answer places is (subst (λ (l : Labelling). answers l answer) same holds)

pub refuses_labels : (words : Words) (order : Option (List ℕ)) (g : Adjacency) (answers : Labelling → Answer → Type 0) (line : List ℕ)
    → RefusesLabels words order g line → AnswersLabels words order g answers (Refused line)
refuses_labels words None g answers line refuses = option_more (root_in (names g) (root_name words)) (λ same. same) (λ u none. absurd none) refuses
refuses_labels words (Some text) g answers line refuses =
    option_more (order_fault (names g) (lines text)) (λ (none : (order : List ℕ) × IsOrder (names g) (lines text) order × ⊥). absurd none.2) (λ f same. same) refuses

-- ---- what is shown

of_ends : (g : Adjacency) (from to : Option Name) (answers : ℕ → ℕ → Answer → Type 0) (answer : Answer) (a b : ℕ)
    → IsNode g from a → IsNode g to b → answers a b answer → AnswersEnds g from to answers answer
of_ends g from to answers answer a b first second holds =
    of_root g from (λ x. AnswersRoot g to (λ y. answers x y)) answer a first (of_root g to (λ y. answers a y) answer b second holds)

refuses_ends : (g : Adjacency) (from to : Option Name) (answers : ℕ → ℕ → Answer → Type 0) (line : List ℕ)
    → RefusesEnds g from to line → AnswersEnds g from to answers (Refused line)
refuses_ends g from to answers line refuses =
    option_more (root_in (names g) from) (λ same. same) (λ a. option_more (root_in (names g) to) (λ same. same) (λ b none. absurd none)) refuses

of_network : (from to : Option Name) (g : Adjacency) (answers : Show → Answer → Type 0) (show : Show) (answer : Answer)
    → IsNetwork from to g show → answers show answer → AnswersBothEnds g from to (λ ends. answers (Drawing ends)) answer
of_network None to g answers show answer same holds = subst (λ (s : Show). answers s answer) same holds
of_network (Some from) None g answers show answer same holds = subst (λ (s : Show). answers s answer) same holds
of_network (Some from) (Some to) g answers show answer (a, b, first, second, same) holds =
    of_ends g (Some from) (Some to) (λ x y. answers (Drawing (Some (x, y)))) answer a b first second (subst (λ (s : Show). answers s answer) same holds)

of_drawn : (node : Option Name) (is_svg : Bool) (from to : Option Name) (g : Adjacency) (answers : Show → Answer → Type 0) (show : Show) (answer : Answer)
    → IsOneDrawn node is_svg from to g show → answers show answer → AnswersDrawn node is_svg from to g answers answer
of_drawn None is_svg from to g answers show answer is holds = of_network from to g answers show answer is holds
of_drawn (Some node) is_svg from to g answers show answer (u, is, same) holds =
    of_root g (Some node) (λ v. answers (Circle v is_svg)) answer u is (subst (λ (s : Show). answers s answer) same holds)

of_second : (detour : Detour) (second : Option Second) (g : Adjacency) (answers : Option (Kind × ℕ) → Answer → Type 0) (found : Option (Kind × ℕ)) (answer : Answer)
    → IsSecondPlan detour second g found → answers found answer → AnswersSecond detour second g answers answer
of_second detour None g answers found answer same holds = subst (λ (s : Option (Kind × ℕ)). answers s answer) same holds
of_second detour (Some second) g answers found answer (root, is, same) holds =
    of_root g (option_map string_bytes second.root) (λ u. answers (Some (kind_of second.kind detour, u))) answer root is (subst (λ (s : Option (Kind × ℕ)). answers s answer) same holds)

of_figures : (words : Words) (g : Adjacency) (answers : Show → Answer → Type 0) (show : Show) (answer : Answer)
    → AreShown words g show → answers show answer → AnswersFigures words g answers answer
of_figures words g answers show answer (second, is, same) holds =
    of_second (detour_of words.detour (length g)) words.second g (λ found. answers (figures_shown words g found)) second answer is (subst (λ (s : Show). answers s answer) same holds)

of_rows : (order_alone : Bool) (span : Option Span) (g : Adjacency) (answers : Show → Answer → Type 0) (show : Show) (answer : Answer)
    → IsPlanned order_alone span g show → answers show answer → AnswersPlanned order_alone span g answers answer
of_rows true span g answers show answer same holds = subst (λ (s : Show). answers s answer) same holds
of_rows false None g answers show answer same holds = subst (λ (s : Show). answers s answer) same holds
of_rows false (Some span) g answers show answer (are, same) holds =
    subst (λ (b : Bool). AnswersWithin b span g answers answer) (sym are) (subst (λ (s : Show). answers s answer) same holds)

of_lined : (words : Words) (g : Adjacency) (answers : Show → Answer → Type 0) (show : Show) (answer : Answer)
    → AreLined words g show → answers show answer → AnswersLined (has_lines g) words g answers answer
of_lined words g answers show answer (few, (u, is, same)) holds =
    subst (λ (b : Bool). AnswersLined b words g answers answer) (sym few)
    (of_root g (drawn_name words) (λ v. answers (lines_shown words v)) answer u is (subst (λ (s : Show). answers s answer) same holds))

of_show : (look : Sub) (words : Words) (g : Adjacency) (answers : Show → Answer → Type 0) (show : Show) (answer : Answer)
    → IsShow look words g show → answers show answer → AnswersAsked look words g answers answer
of_show Planning words g answers show answer is holds = of_rows words.order_alone words.nodes g answers show answer is holds
of_show Walk words g answers show answer (a, b, first, second, same) holds =
    of_ends g (from_name words) (to_name words) (λ x y. answers (Between x y)) answer a b first second (subst (λ (s : Show). answers s answer) same holds)
of_show Stats words g answers show answer is holds = of_figures words g answers show answer is holds
of_show Draw words g answers show answer is holds = of_drawn (drawn_name words) words.svg (from_name words) (to_name words) g answers show answer is holds
of_show Prefixes words g answers show answer same holds = subst (λ (s : Show). answers s answer) same holds
of_show Ranging words g answers show answer same holds = subst (λ (s : Show). answers s answer) same holds
of_show Xdp words g answers show answer is holds = of_lined words g answers show answer is holds
of_show Compare words g answers show answer none holds = absurd none
of_show Diff words g answers show answer none holds = absurd none
of_show Sim words g answers show answer none holds = absurd none
of_show Live words g answers show answer none holds = absurd none
of_show Check words g answers show answer none holds = absurd none

refuses_network : (from to : Option Name) (g : Adjacency) (answers : Show → Answer → Type 0) (line : List ℕ)
    → AnswersBothEnds g from to (λ ends answer. ⊥) (Refused line) → AnswersBothEnds g from to (λ ends. answers (Drawing ends)) (Refused line)
refuses_network None to g answers line refuses = absurd refuses
refuses_network (Some from) None g answers line refuses = absurd refuses
refuses_network (Some from) (Some to) g answers line refuses = refuses_ends g (Some from) (Some to) (λ x y. answers (Drawing (Some (x, y)))) line refuses

refuses_drawn : (node : Option Name) (is_svg : Bool) (from to : Option Name) (g : Adjacency) (answers : Show → Answer → Type 0) (line : List ℕ)
    → AnswersDrawn node is_svg from to g (λ show answer. ⊥) (Refused line) → AnswersDrawn node is_svg from to g answers (Refused line)
refuses_drawn None is_svg from to g answers line refuses = refuses_network from to g answers line refuses
refuses_drawn (Some node) is_svg from to g answers line refuses = option_more (root_in (names g) (Some node)) (λ same. same) (λ u none. absurd none) refuses

refuses_figures : (detour : Detour) (second : Option Second) (g : Adjacency) (answers : Option (Kind × ℕ) → Answer → Type 0) (line : List ℕ)
    → RefusesSecond detour second g line → AnswersSecond detour second g answers (Refused line)
refuses_figures detour None g answers line refuses = absurd refuses
refuses_figures detour (Some second) g answers line refuses = option_more (root_in (names g) (option_map string_bytes second.root)) (λ same. same) (λ u none. absurd none) refuses

refuses_within : (are : Bool) (span : Span) (g : Adjacency) (answers : Show → Answer → Type 0) (line : List ℕ)
    → AnswersWithin are span g (λ show answer. ⊥) (Refused line) → AnswersWithin are span g answers (Refused line)
refuses_within true span g answers line refuses = absurd refuses
refuses_within false span g answers line refuses = refuses

refuses_rows : (order_alone : Bool) (span : Option Span) (g : Adjacency) (answers : Show → Answer → Type 0) (line : List ℕ)
    → RefusesPlanned order_alone span g line → AnswersPlanned order_alone span g answers (Refused line)
refuses_rows true span g answers line refuses = absurd refuses
refuses_rows false None g answers line refuses = absurd refuses
refuses_rows false (Some span) g answers line refuses = refuses_within (are_nodes span g) span g answers line refuses

refuses_lined : (few : Bool) (words : Words) (g : Adjacency) (answers : Show → Answer → Type 0) (line : List ℕ)
    → RefusesLined few words g line → AnswersLined few words g answers (Refused line)
refuses_lined true words g answers line refuses = option_more (root_in (names g) (drawn_name words)) (λ same. same) (λ u none. absurd none) refuses
refuses_lined false words g answers line refuses = refuses

refuses_show : (look : Sub) (words : Words) (g : Adjacency) (answers : Show → Answer → Type 0) (line : List ℕ)
    → RefusesShow look words g line → AnswersAsked look words g answers (Refused line)
refuses_show Planning words g answers line refuses = refuses_rows words.order_alone words.nodes g answers line refuses
refuses_show Walk words g answers line refuses = refuses_ends g (from_name words) (to_name words) (λ x y. answers (Between x y)) line refuses
refuses_show Stats words g answers line refuses = refuses_figures (detour_of words.detour (length g)) words.second g (λ found. answers (figures_shown words g found)) line refuses
refuses_show Draw words g answers line refuses = refuses_drawn (drawn_name words) words.svg (from_name words) (to_name words) g answers line refuses
refuses_show Prefixes words g answers line refuses = absurd refuses
refuses_show Ranging words g answers line refuses = absurd refuses
refuses_show Xdp words g answers line refuses = refuses_lined (has_lines g) words g answers line refuses
refuses_show Compare words g answers line refuses = absurd refuses
refuses_show Diff words g answers line refuses = absurd refuses
refuses_show Sim words g answers line refuses = absurd refuses
refuses_show Live words g answers line refuses = absurd refuses
refuses_show Check words g answers line refuses = absurd refuses

-- ---- answers to the texts
module _ (look : Sub) (words : Words) (texts : List (List ℕ)) (topology : List ℕ) (order : Option (List ℕ)) (are : AreTexts texts topology order)
    (g : Adjacency) (sound : topology_fault words.format (lines topology) ≡ None) (graph : g ≡ topology_graph words.format (lines topology)) where
  by_graph : (answer : Answer) → AnswersLabels words order g (AnswersLook look words g) answer → LookAnswers look words texts answer
  by_graph answer holds = (
    topology,
    order,
    are,
    of_graph words.format (lines topology) (λ h. AnswersLabels words order h (AnswersLook look words h)) answer sound
        (subst (λ (h : Adjacency). AnswersLabels words order h (AnswersLook look words h) answer) graph holds),
  )

  -- labels are refused
  pub without_labels : (line : List ℕ) → RefusesLabels words order g line → LookAnswers look words texts (Refused line)
  without_labels line refuses = by_graph (Refused line) (refuses_labels words order g (AnswersLook look words g) line refuses)

  -- an end is refused
  pub without_show : (labels : Labelling) → IsLabelling words order g labels → (line : List ℕ) → RefusesShow look words g line → LookAnswers look words texts (Refused line)
  without_show labels is line refuses =
      by_graph (Refused line) (of_labels words order g (AnswersLook look words g) labels (Refused line) is (refuses_show look words g (AnswersShow (kind_asked words (length g)) g labels) line refuses))

  -- the plan is shown, or refused
  pub with_show : (labels : Labelling) → IsLabelling words order g labels → (show : Show) → IsShow look words g show
      → (answer : Answer) → AnswersShow (kind_asked words (length g)) g labels show answer → LookAnswers look words texts answer
  with_show labels is show shown answer holds =
      by_graph answer (of_labels words order g (AnswersLook look words g) labels answer is (of_show look words g (AnswersShow (kind_asked words (length g)) g labels) show answer shown holds))

-- what shows a plan is an answer
pub shown_plan : (g : Adjacency) (kind : Kind) (labels : Labelling) (show : Show) (plan : Plan) → IsPlanBy (topology_of_graph g) kind labels plan
    → (answer : Answer) → AnswerShows show g plan answer → AnswersText g kind labels (Says show g) answer
shown_plan g kind labels show plan built (Ran text refusals) shows = (record { plan = plan; built = built; said = shows.0 }, shows.1)
shown_plan g kind labels show plan built (Found text) shows = absurd shows
shown_plan g kind labels show plan built (Refused line) shows = absurd shows
shown_plan g kind labels show plan built NoThread shows = absurd shows

-- what gives the walk of a plan that is not built is a text of that plan
pub walk_says : (g : Adjacency) (kind : Kind) (labels : Labelling) (a b : ℕ) (text : List ℕ) → IsWalkOfPlan (names g) (topology_of_graph g) kind labels a b text
    → IsTextOfPlan g kind labels (Says (Between a b) g) text
walk_says g kind labels a b text is = record { plan = is.plan; built = is.built; said = is.walks }

-- what reports the refusal of a plan is an answer
pub told_refusal : (g : Adjacency) (kind : Kind) (labels : Labelling) (says : Plan → List ℕ → Type 0) (error : PlanError) (told : OpenError) → told ≡ open_error_of error
    → RefusesPlan (topology_of_graph g) labels error → (stop : AnswerStop) → StopsAs stop (λ line. (told ≢ errors.NoMemory) × (line ≡ opening_line told))
    → StopsAs stop (λ line. AnswersText g kind labels says (Refused line))
told_refusal g kind labels says error told from refuses stop stops =
    stops_more (λ (line : List ℕ). (told ≢ errors.NoMemory) × (line ≡ opening_line told)) (λ (line : List ℕ). AnswersText g kind labels says (Refused line))
    (λ line is. (error, (λ same. is.0 (from ∙ ap open_error_of same)), refuses, is.1 ∙ ap opening_line from)) stop stops

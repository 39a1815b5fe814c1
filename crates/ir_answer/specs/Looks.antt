-- What a topology comes to as a text that shows its plan: its rows, those of some nodes, the order of its labels, a walk,
-- its figures, those without each of its links or nodes, a drawing, the circle of its labels, its forwarding tables, its ranges of
-- labels, or the lines of a node's row, which may also be bytes.
use Rattle.std.specs.Prelude.{◌≡◌, ◌<◌, ◌≤◌, ◌-◌, ℕ, length, Bool, true, false, IfSome, List, [], ◌∷◌, Option, None, Some, if◌then◌else◌, string_bytes, nat_le, nat_lt, ◌&&◌}
use Rattle.std.specs.Option.{option_map}
use Rattle.std.specs.Borrow.{Bor}
use Rattle.ir_model.specs.Graph.{Name, Adjacency, names}
use Rattle.ir_model.specs.Text.{lines}
use Rattle.ir_show.specs.PlanText.{plan_text}
use Rattle.ir_show.specs.SpanText.{text_of_span}
use Rattle.ir_show.specs.WalkText.{IsWalkOf}
use Rattle.ir_figures.specs.FiguresText.{AreFiguresOf, AreFiguresBeside}
use Rattle.ir_figures.specs.Failures.{AreLinkFailures, AreNodeFailures}
use Rattle.ir_show.specs.Drawing.{IsDrawingOf}
use Rattle.ir_exports.specs.Circle.{circle_svg}
use Rattle.ir_exports.specs.Ring.{circle_dot}
use Rattle.ir_exports.specs.OrderText.{order_text}
use Rattle.ir_exports.specs.PrefixesText.{IsPrefixesOf}
use Rattle.ir_exports.specs.RangesText.{ranges_text}
use Rattle.ir_exports.specs.LinesText.{AreLinesBytes, IsLinesText}
use Rattle.ir_exports.specs.declared.TheConstants.{MAX_LABELS}
use Rattle.ir_cli.specs.declared.words.Words.{Words}
use Rattle.ir_cli.specs.declared.words.Second.{Second}
use Rattle.ir_cli.specs.declared.words.Span.{Span}
use Rattle.ir_cli.specs.declared.words.Sub.{Sub}
use Rattle.ir_cli.specs.declared.words.Sub.TheVariants.{Plan as Planning, Walk, Stats, Compare, Diff, Draw, Prefixes, Ranges as Ranging, Xdp, Sim, Live, Check}
use Rattle.ir_model.specs.declared.Detour.{Detour}
use Rattle.ir_model.specs.declared.Kind.{Kind}
use Rattle.ir_cli.specs.Kinds.{detour_of, kind_of}
use Rattle.ir_plan.specs.declared.tour.LabelOrder.{LabelOrder}
use Rattle.ir_plan.specs.declared.tour.LabelOrder.TheVariants.{DepthFirst}
use Rattle.ir_answer.specs.declared.look.Show.{Show}
use Rattle.ir_answer.specs.declared.look.Show.TheVariants.{Rows, Nodes, Between, Figures, Beside, Each, EachNode, Drawing, Circle, Tables, Ranges, Lines, Bytes, Order}
use Rattle.ir_script.specs.Order.{IsOrder}
use Rattle.ir_cli.specs.Answer.{Answer, Ran, Found, Refused, NoThread}
use Rattle.ir_cli.specs.Lines.{opening_line}
use Rattle.ir_core.specs.declared.event.OpenError.TheVariants.{TooLarge}
use Rattle.ir_cli.specs.Openings.{no_root, root_name, root_in, kind_asked, label_order, AnswersTopology, AnswersRoot, AnswersOrder}
use Rattle.ir_cli.specs.Words.{has_order}
use Rattle.ir_model.specs.Plan.{Plan}
use Rattle.ir_model.specs.Topology.{Topology}
use Rattle.ir_plan.specs.Building.{Labelling, FromRoot, ByList, IsPlanBy}
use Rattle.ir_answer.specs.Plans.{AnswersText}

-- the names of the ends of a walk, if the words have them
abbrev pub from_name : Words → Option Name
from_name words = option_map string_bytes words.from

abbrev pub to_name : Words → Option Name
to_name words = option_map string_bytes words.to

-- the name of the node whose intervals are drawn, or whose lines are printed, if the words have one
abbrev pub drawn_name : Words → Option Name
drawn_name words = option_map string_bytes words.node

-- The answer to a graph and the names of two ends: the refusal of the first end that is no node, or else an answer to their
-- numbers. Where there is no name the end is the first node.
abbrev pub AnswersEnds : Adjacency → Option Name → Option Name → (ℕ → ℕ → Answer → Type 0) → Answer → Type 0
AnswersEnds g from to answers = AnswersRoot g from (λ a. AnswersRoot g to (λ b. answers a b))

-- the same where the ends are left out unless both are named
abbrev pub AnswersBothEnds : Adjacency → Option Name → Option Name → (Option (ℕ × ℕ) → Answer → Type 0) → Answer → Type 0
AnswersBothEnds g None to answers = answers None
AnswersBothEnds g (Some from) None answers = answers None
AnswersBothEnds g (Some from) (Some to) answers = AnswersEnds g (Some from) (Some to) (λ a b. answers (Some (a, b)))

-- The answer to a graph where a drawing is asked for: the refusal of a node or an end that is none. Otherwise it is an
-- answer to the circle of the node, where one is named, or to the network.
abbrev pub AnswersDrawn : Option Name → Bool → Option Name → Option Name → Adjacency → (Show → Answer → Type 0) → Answer → Type 0
AnswersDrawn None is_svg from to g answers = AnswersBothEnds g from to (λ ends. answers (Drawing ends))
AnswersDrawn (Some node) is_svg from to g answers = AnswersRoot g (Some node) (λ u. answers (Circle u is_svg))

-- The answer to a graph where there may be a second plan: the refusal of its root that is no node, or else an answer to its
-- kind and root. Where the root has no name it is the first node. Landmark plans go round so far.
abbrev pub AnswersSecond : Detour → Option Second → Adjacency → (Option (Kind × ℕ) → Answer → Type 0) → Answer → Type 0
AnswersSecond detour None g answers = answers None
AnswersSecond detour (Some second) g answers =
    AnswersRoot g (option_map string_bytes second.root) (λ root. answers (Some (kind_of second.kind detour, root)))

-- the order in which plans without a link or a node are labelled, if they don't keep the labels of a list
abbrev pub order_again : Words → Option LabelOrder
order_again words = if has_order words then None else Some (label_order words.numbering)

-- the figures without each link, or without each node by plans of the kind that is asked for of a node less, beside a second
-- plan if there is one
abbrev pub each_shown : Words → Adjacency → Option (Kind × ℕ) → Show
each_shown words g second =
    if words.by_node then EachNode (kind_asked words (length g - 1)) (order_again words) second else Each (order_again words) second

-- the figures, beside a second plan if there is one
abbrev pub figures_alone : Option (Kind × ℕ) → Show
figures_alone None = Figures
figures_alone (Some second) = Beside second.0 second.1

-- the figures that the words ask for
abbrev pub figures_shown : Words → Adjacency → Option (Kind × ℕ) → Show
figures_shown words g second = if words.each then each_shown words g second else figures_alone second

-- The answer to a graph where figures are asked for, those without each link or node or those of the plan alone.
abbrev pub AnswersFigures : Words → Adjacency → (Show → Answer → Type 0) → Answer → Type 0
AnswersFigures words g answers = AnswersSecond (detour_of words.detour (length g)) words.second g (λ second. answers (figures_shown words g second))

-- the second plan over a network, of this kind and numbered depth first from this root, if there is one
abbrev pub IsSecondOver : Option (Kind × ℕ) → Topology → Option Plan → Type 0
IsSecondOver None net other = other ≡ None
IsSecondOver (Some second) net other = (plan : Plan) × IsPlanBy net second.0 (FromRoot DepthFirst second.1) plan × (other ≡ Some plan)

-- the text is that of a plan's figures beside a second plan of this kind, numbered depth first from this root
abbrev pub IsFiguresBeside : Kind → ℕ → List Name → Plan → List ℕ → Type 0
IsFiguresBeside kind root nodes plan text = (second : Plan) × IsPlanBy plan.topology kind (FromRoot DepthFirst root) second × AreFiguresBeside nodes plan second text

-- the circle of labels with the intervals of a node: as SVG, or for Graphviz
abbrev pub circle_text : Bool → List Name → Plan → ℕ → List ℕ
circle_text is_svg nodes plan u = if is_svg then circle_svg nodes plan u else circle_dot nodes plan u

-- what a text of a plan says, by what is shown
abbrev pub Says : Show → Adjacency → Plan → List ℕ → Type 0
Says Rows g plan text = text ≡ plan_text (names g) plan
Says (Nodes first last) g plan text = text ≡ text_of_span (names g) plan first last
Says (Between a b) g plan text = IsWalkOf (names g) plan a b text
Says Figures g plan text = AreFiguresOf (names g) plan text
Says (Beside kind root) g plan text = IsFiguresBeside kind root (names g) plan text
Says (Each labels second) g plan text = (other : Option Plan) × IsSecondOver second plan.topology other × AreLinkFailures (names g) plan labels other text
Says (EachNode kind labels second) g plan text =
    (other : Option Plan) × IsSecondOver second plan.topology other × AreNodeFailures g plan kind labels other text
Says (Drawing ends) g plan text = IsDrawingOf (names g) plan ends text
Says (Circle u is_svg) g plan text = text ≡ circle_text is_svg (names g) plan u
Says (Tables is_disjoint) g plan text = IsPrefixesOf is_disjoint (names g) plan text
Says Ranges g plan text = text ≡ ranges_text (names g) plan
Says (Lines u epoch) g plan text = IsLinesText plan u epoch text
Says (Bytes u epoch) g plan text = AreLinesBytes plan u epoch text
Says Order g plan text = text ≡ order_text (names g) plan

-- what an answer says of a plan, by what is shown
abbrev pub AnswerShows : Show → Adjacency → Plan → Answer → Type 0
AnswerShows show g plan (Ran text refusals) = Says show g plan text × (refusals ≡ [])
AnswerShows show g plan (Found text) = ⊥
AnswerShows show g plan (Refused line) = ⊥
AnswerShows show g plan NoThread = ⊥

-- the ends of what is shown, its node, or its second root, if it has any, are among so many nodes
abbrev pub AreAmong : ℕ → Show → Type 0
AreAmong n Rows = Unit {0}
AreAmong n (Nodes first last) = (first ≤ last) × (last < n)
AreAmong n (Between a b) = (a < n) × (b < n)
AreAmong n Figures = Unit {0}
AreAmong n (Beside kind root) = root < n
AreAmong n (Each labels second) = IfSome second (λ s. s.1 < n)
AreAmong n (EachNode kind labels second) = IfSome second (λ s. s.1 < n)
AreAmong n (Drawing ends) = IfSome ends (λ e. (e.0 < n) × (e.1 < n))
AreAmong n (Circle u is_svg) = u < n
AreAmong n (Tables is_disjoint) = Unit {0}
AreAmong n Ranges = Unit {0}
AreAmong n (Lines u epoch) = (u < n) × (n ≤ MAX_LABELS)
AreAmong n (Bytes u epoch) = (u < n) × (n ≤ MAX_LABELS)
AreAmong n Order = Unit {0}

-- what is shown is made whole, as a text
abbrev pub IsText : Show → Type 0
IsText Rows = ⊥
IsText (Bytes u epoch) = ⊥
IsText (EachNode kind labels second) = ⊥
IsText show = Unit {0}

-- what is shown is of one graph, and not also of the graphs without each node
abbrev pub IsOfOneGraph : Show → Type 0
IsOfOneGraph (EachNode kind labels second) = ⊥
IsOfOneGraph show = Unit {0}

-- the answer to a graph, a kind and labels, by what is shown
abbrev pub AnswersShow : Kind → Adjacency → Labelling → Show → Answer → Type 0
AnswersShow kind g labels show = AnswersText g kind labels (Says show g)

-- the nodes from the first to the last are nodes of the graph
abbrev pub are_nodes : Span → Adjacency → Bool
are_nodes span g = nat_le span.first span.last && nat_lt span.last (length g)

-- The answer to a graph where rows of nodes are asked for: the refusal of nodes that are none, or else an answer to them.
abbrev pub AnswersWithin : Bool → Span → Adjacency → (Show → Answer → Type 0) → Answer → Type 0
AnswersWithin true span g answers answer = answers (Nodes span.first span.last) answer
AnswersWithin false span g answers answer = answer ≡ Refused (opening_line (no_root g))

-- the same where the order of the labels is asked for, or all rows are
abbrev pub AnswersPlanned : Bool → Option Span → Adjacency → (Show → Answer → Type 0) → Answer → Type 0
AnswersPlanned true span g answers = answers Order
AnswersPlanned false None g answers = answers Rows
AnswersPlanned false (Some span) g answers = AnswersWithin (are_nodes span g) span g answers

-- what `xdp` shows: the lines of a node's row, as text or as bytes
abbrev pub lines_shown : Words → ℕ → Show
lines_shown words u = if words.binary then Bytes u words.epoch else Lines u words.epoch

-- the labels of a network are few enough for a table in lines
abbrev pub has_lines : Adjacency → Bool
has_lines g = nat_le (length g) MAX_LABELS

-- The answer to a graph where lines are asked for: a refusal where its labels are too many for a table, and of a node that is none.
abbrev pub AnswersLined : Bool → Words → Adjacency → (Show → Answer → Type 0) → Answer → Type 0
AnswersLined true words g answers = AnswersRoot g (drawn_name words) (λ u. answers (lines_shown words u))
AnswersLined false words g answers = λ answer. answer ≡ Refused (opening_line TooLarge)

-- the subcommands that show a plan
abbrev pub ShowsPlan : Sub → Type 0
ShowsPlan Compare = ⊥
ShowsPlan Diff = ⊥
ShowsPlan Sim = ⊥
ShowsPlan Live = ⊥
ShowsPlan Check = ⊥
ShowsPlan sub = Unit {0}

-- The answer to a graph, by what is asked for: the refusal of an end or a second root that is no node, or else an answer to
-- what is to be shown. Of the subcommands that show no plan there is none.
abbrev pub AnswersAsked : Sub → Words → Adjacency → (Show → Answer → Type 0) → Answer → Type 0
AnswersAsked Planning words g answers = AnswersPlanned words.order_alone words.nodes g answers
AnswersAsked Walk words g answers = AnswersEnds g (from_name words) (to_name words) (λ a b. answers (Between a b))
AnswersAsked Stats words g answers = AnswersFigures words g answers
AnswersAsked Draw words g answers = AnswersDrawn (drawn_name words) words.svg (from_name words) (to_name words) g answers
AnswersAsked Prefixes words g answers = answers (Tables words.disjoint)
AnswersAsked Ranging words g answers = answers Ranges
AnswersAsked Xdp words g answers = AnswersLined (has_lines g) words g answers
AnswersAsked Compare words g answers = λ answer. ⊥
AnswersAsked Diff words g answers = λ answer. ⊥
AnswersAsked Sim words g answers = λ answer. ⊥
AnswersAsked Live words g answers = λ answer. ⊥
AnswersAsked Check words g answers = λ answer. ⊥

-- the answer to a graph and labels, by what is asked for
abbrev pub AnswersLook : Sub → Words → Adjacency → Labelling → Answer → Type 0
AnswersLook sub words g labels = AnswersAsked sub words g (AnswersShow (kind_asked words (length g)) g labels)

-- The answer to a graph: that to its labels from the root that the words name, or by an order where there is one.
abbrev pub AnswersLabels : Words → Option (List ℕ) → Adjacency → (Labelling → Answer → Type 0) → Answer → Type 0
AnswersLabels words None g answers = AnswersRoot g (root_name words) (λ root. answers (FromRoot (label_order words.numbering) root))
AnswersLabels words (Some order) g answers = AnswersOrder g (lines order) (λ places. answers (ByList places))

-- the text of an order, if there is one
abbrev pub order_in : Option (Bor (List ℕ)) → Option (List ℕ)
order_in order = option_map (λ (text : Bor (List ℕ)). text.now) order

-- the texts of a topology and, where there is one, of an order
abbrev pub AreTexts : List (List ℕ) → List ℕ → Option (List ℕ) → Type 0
AreTexts [] topology order = ⊥
AreTexts (first ∷ []) topology None = topology ≡ first
AreTexts (first ∷ []) topology (Some order) = ⊥
AreTexts (first ∷ second ∷ []) topology None = ⊥
AreTexts (first ∷ second ∷ []) topology (Some order) = (topology ≡ first) × (order ≡ second)
AreTexts (first ∷ second ∷ third ∷ texts) topology order = ⊥

-- the answers to the text of a topology, or to that text and an order's
abbrev pub LookAnswers : Sub → Words → List (List ℕ) → Answer → Type 0
LookAnswers sub words texts answer =
    (topology : List ℕ) × (order : Option (List ℕ)) × AreTexts texts topology order
    × AnswersTopology words.format (lines topology) (λ g. AnswersLabels words order g (AnswersLook sub words g)) answer

-- ---- what is read before a plan is built

-- the number of a node of this name, or of the first where there is no name
abbrev pub IsNode : Adjacency → Option Name → ℕ → Type 0
IsNode g name u = root_in (names g) name ≡ Some u

-- the labels that the words ask for
abbrev pub IsLabelling : Words → Option (List ℕ) → Adjacency → Labelling → Type 0
IsLabelling words None g labels = (root : ℕ) × IsNode g (root_name words) root × (labels ≡ FromRoot (label_order words.numbering) root)
IsLabelling words (Some order) g labels = (places : List ℕ) × IsOrder (names g) (lines order) places × (labels ≡ ByList places)

-- the rows that the words ask for, or the order of the labels
abbrev pub IsPlanned : Bool → Option Span → Adjacency → Show → Type 0
IsPlanned true span g show = show ≡ Order
IsPlanned false None g show = show ≡ Rows
IsPlanned false (Some span) g show = (are_nodes span g ≡ true) × (show ≡ Nodes span.first span.last)

-- the kind and the root of the second plan that the words ask for, if they do
abbrev pub IsSecondPlan : Detour → Option Second → Adjacency → Option (Kind × ℕ) → Type 0
IsSecondPlan detour None g found = found ≡ None
IsSecondPlan detour (Some second) g found =
    (root : ℕ) × IsNode g (option_map string_bytes second.root) root × (found ≡ Some (kind_of second.kind detour, root))

-- the figures that the words ask for
abbrev pub AreShown : Words → Adjacency → Show → Type 0
AreShown words g show =
    (second : Option (Kind × ℕ)) × IsSecondPlan (detour_of words.detour (length g)) words.second g second × (show ≡ figures_shown words g second)

-- the drawing of the network, with the ends where both are named
abbrev pub IsNetwork : Option Name → Option Name → Adjacency → Show → Type 0
IsNetwork None to g show = show ≡ Drawing None
IsNetwork (Some from) None g show = show ≡ Drawing None
IsNetwork (Some from) (Some to) g show = (a b : ℕ) × IsNode g (Some from) a × IsNode g (Some to) b × (show ≡ Drawing (Some (a, b)))

-- the circle of the node, where one is named, or the network
abbrev pub IsOneDrawn : Option Name → Bool → Option Name → Option Name → Adjacency → Show → Type 0
IsOneDrawn None is_svg from to g show = IsNetwork from to g show
IsOneDrawn (Some node) is_svg from to g show = (u : ℕ) × IsNode g (Some node) u × (show ≡ Circle u is_svg)

-- what the words ask to be drawn
abbrev pub IsDrawn : Words → Adjacency → Show → Type 0
IsDrawn words g show = IsOneDrawn (drawn_name words) words.svg (from_name words) (to_name words) g show

-- the lines of the node that the words name, of a network that has few enough labels
abbrev pub AreLined : Words → Adjacency → Show → Type 0
AreLined words g show = (has_lines g ≡ true) × ((u : ℕ) × IsNode g (drawn_name words) u × (show ≡ lines_shown words u))

-- what the words ask to be shown
abbrev pub IsShow : Sub → Words → Adjacency → Show → Type 0
IsShow Planning words g show = IsPlanned words.order_alone words.nodes g show
IsShow Walk words g show = (a b : ℕ) × IsNode g (from_name words) a × IsNode g (to_name words) b × (show ≡ Between a b)
IsShow Stats words g show = AreShown words g show
IsShow Draw words g show = IsDrawn words g show
IsShow Prefixes words g show = show ≡ Tables words.disjoint
IsShow Ranging words g show = show ≡ Ranges
IsShow Xdp words g show = AreLined words g show
IsShow Compare words g show = ⊥
IsShow Diff words g show = ⊥
IsShow Sim words g show = ⊥
IsShow Live words g show = ⊥
IsShow Check words g show = ⊥

-- the line of a refusal that comes before any plan: of the root or the order, of nodes, of an end, of a second root, of a node
abbrev pub RefusesLabels : Words → Option (List ℕ) → Adjacency → List ℕ → Type 0
RefusesLabels words order g line = AnswersLabels words order g (λ labels answer. ⊥) (Refused line)

abbrev pub RefusesPlanned : Bool → Option Span → Adjacency → List ℕ → Type 0
RefusesPlanned order_alone span g line = AnswersPlanned order_alone span g (λ show answer. ⊥) (Refused line)

abbrev pub RefusesEnds : Adjacency → Option Name → Option Name → List ℕ → Type 0
RefusesEnds g from to line = AnswersEnds g from to (λ a b answer. ⊥) (Refused line)

abbrev pub RefusesSecond : Detour → Option Second → Adjacency → List ℕ → Type 0
RefusesSecond detour second g line = AnswersSecond detour second g (λ found answer. ⊥) (Refused line)

abbrev pub RefusesDrawn : Words → Adjacency → List ℕ → Type 0
RefusesDrawn words g line = AnswersDrawn (drawn_name words) words.svg (from_name words) (to_name words) g (λ show answer. ⊥) (Refused line)

abbrev pub RefusesLined : Bool → Words → Adjacency → List ℕ → Type 0
RefusesLined few words g line = AnswersLined few words g (λ show answer. ⊥) (Refused line)

abbrev pub RefusesShow : Sub → Words → Adjacency → List ℕ → Type 0
RefusesShow sub words g line = AnswersAsked sub words g (λ show answer. ⊥) (Refused line)

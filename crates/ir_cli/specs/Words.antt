-- What the words of the command line say of their files, and the numbers of their refusals.
use Rattle.std.specs.Prelude.{◌≡◌, ℕ, ◌==◌, Bool, true, false, not, is_some, Option, Some, None, List, [], ◌∷◌, ◌&&◌, ◌||◌, ◌-◌, if◌then◌else◌, bytes_eq, codes, string_bytes, map, length, drop, slice_get}
use Rattle.ir_model.specs.Graph.{Name}
use Rattle.std.specs.List.{list_all, list_any}
use Rattle.std.specs.Option.{option_map_or}
use Rattle.ir_cli.specs.declared.kinds.KindChoice.{KindChoice}
use Rattle.ir_cli.specs.declared.kinds.KindChoice.TheVariants.{Tree, Shortest, Compact, Landmark}
use Rattle.ir_cli.specs.declared.words.Second.{Second}
use Rattle.ir_cli.specs.declared.words.Sub.{Sub}
use Rattle.ir_cli.specs.declared.words.Sub.TheVariants.{Diff, Sim, Live, Check}
use Rattle.ir_cli.specs.declared.words.NumberingChoice.{NumberingChoice}
use Rattle.ir_cli.specs.declared.words.NumberingChoice.TheVariants.{DepthFirst, Tour, Keep, KeepDepthFirst, File}
use Rattle.ir_cli.specs.declared.words.Words.{Words}
use Rattle.ir_cli.specs.declared.words.Format.{Format}
use Rattle.ir_cli.specs.declared.words.Format.TheVariants.{AdjList, EdgeList}
use Rattle.ir_cli.specs.Kinds.{is_landmark}
use Rattle.ir_cli.specs.declared.words.WordsError.{WordsError}
use Rattle.ir_cli.specs.declared.words.WordsError.TheVariants as refused

-- the files are the one word `-`
abbrev pub is_dash : List Name → Bool
is_dash [] = false
is_dash (file ∷ []) = bytes_eq file (codes "-")
is_dash (file ∷ other ∷ files) = false

-- `-` stands for one input of all texts
abbrev pub is_one_input : Words → Bool
is_one_input words = is_dash (map string_bytes words.files.items)

-- the file at a place, from 0; standard input where there is none
abbrev pub file_at : Words → ℕ → Name
file_at words place = option_map_or string_bytes (slice_get words.files.items place) (codes "-")

-- the file of an order of nodes; standard input where there is none
abbrev pub order_name : NumberingChoice → Name
order_name (File name) = string_bytes name
order_name DepthFirst = codes "-"
order_name Tour = codes "-"
order_name Keep = codes "-"
order_name KeepDepthFirst = codes "-"

-- a name ends in these letters
abbrev pub ends_in : Name → Name → Bool
ends_in name ending = bytes_eq ending (drop (length name - length ending) name)

-- how many texts a subcommand reads
abbrev pub texts_wanted : Sub → ℕ
texts_wanted Diff = 2
texts_wanted Sim = 2
texts_wanted Live = 2
texts_wanted Check = 3
texts_wanted _ = 1

-- a file's name is no dash
abbrev pub is_no_dash : Name → Bool
is_no_dash file = not (bytes_eq file (codes "-"))

-- one of several files may be `-`
abbrev pub takes_dash : Sub → Bool
takes_dash Diff = true
takes_dash sub = false

-- none of the files is `-`, or where one may be, not all of them are
abbrev pub are_named : Sub → List Name → Bool
are_named sub files = if takes_dash sub then list_any is_no_dash files else list_all is_no_dash files

-- the files are `-` alone, or one for each text, which are named
abbrev pub has_its_files : Words → Bool
has_its_files words = is_one_input words
    || ((length words.files.items == texts_wanted words.sub) && are_named words.sub (map string_bytes words.files.items))

-- a kind's nodes may be numbered in another order than depth first: it is of no tree, and of no landmarks
abbrev pub takes_list : KindChoice → Bool
takes_list Tree = false
takes_list Shortest = true
takes_list Compact = true
takes_list Landmark = false

-- a tour is of a kind that takes another order, as labels that are kept are, and a file of an order is no dash and is beside no root
abbrev pub takes_numbering : NumberingChoice → KindChoice → Bool → Bool
takes_numbering DepthFirst kind has_root = true
takes_numbering Tour kind has_root = takes_list kind
takes_numbering Keep kind has_root = takes_list kind
takes_numbering KeepDepthFirst kind has_root = takes_list kind
takes_numbering (File name) kind has_root = is_no_dash (string_bytes name) && not has_root

abbrev pub has_its_numbering : Words → Bool
has_its_numbering words = takes_numbering words.numbering words.kind (is_some words.root)

-- both or none
abbrev pub alike : Bool → Bool → Bool
alike one other = if one then other else not other

-- A walk that is drawn has both of its ends or none, a node is drawn beside no walk, and SVG is of a node.
abbrev pub takes_drawing : Words → Bool
takes_drawing words = alike (is_some words.from) (is_some words.to)
    && (not (is_some words.node && is_some words.from) && (not words.svg || is_some words.node))

-- a second plan is one of landmarks
abbrev pub has_landmark : Option Second → Bool
has_landmark None = false
has_landmark (Some second) = is_landmark second.kind

-- the subcommand reads a script, whose installs may be of landmark plans
abbrev pub has_script : Sub → Bool
has_script Sim = true
has_script Live = true
has_script Check = true
has_script _ = false

-- a landmark plan may be made: by an install, of the words' kind, or as a second plan
abbrev pub may_go_round : Sub → KindChoice → Option Second → Bool
may_go_round sub kind second = has_script sub || (is_landmark kind || has_landmark second)

-- how far ways go round is said only where a landmark plan may be made
abbrev pub takes_detour : Words → Bool
takes_detour words = not words.detour.is_said || may_go_round words.sub words.kind words.second

-- nodes whose lines are to be printed are named only where lines of nodes are
abbrev pub takes_nodes : Words → Bool
takes_nodes words = not (words.order_alone && is_some words.nodes)

-- the words have the files, the numbering, the drawing, the detour and the nodes that their subcommand takes
abbrev pub AreTaken : Words → Type 0
AreTaken words = (has_its_files words ≡ true) × (takes_numbering words.numbering words.kind (is_some words.root) ≡ true)
    × (takes_drawing words ≡ true) × (takes_detour words ≡ true) × (takes_nodes words ≡ true)

-- the format of a file, by its name
abbrev pub format_of_name : Name → Format
format_of_name name = if ends_in name (codes ".edgelist") || ends_in name (codes ".wel") then EdgeList else AdjList

-- the numbering is that of a file
abbrev pub is_file : NumberingChoice → Bool
is_file DepthFirst = false
is_file Tour = false
is_file Keep = false
is_file KeepDepthFirst = false
is_file (File name) = true

abbrev pub has_order : Words → Bool
has_order words = is_file words.numbering

-- a file's numbering is of a kind that takes another order than depth first
abbrev pub FitsItsKind : Words → Type 0
FitsItsKind words = has_order words ≡ true → takes_list words.kind ≡ true

-- the numbers of the refusals of words
abbrev pub words_code : WordsError → ℕ
words_code (refused.Usage text) = 1
words_code (refused.Help text) = 2
words_code refused.NoMemory = 3

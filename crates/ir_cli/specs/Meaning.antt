-- What the words behind the program's name mean, field by field.
use Rattle.std.specs.Prelude.{◌≡◌, ◌≢◌, ◌⊎◌, ◌≤◌, ◌<◌, ◌^◌, ◌==◌, ℕ, Bool, true, false, not, ◌&&◌, ◌||◌, is_some, if◌then◌else◌, List, [], ◌∷◌, ◌++◌, map, Option, Some, None, MatchOption, unwrap_or, option_map, option_to_list, bytes_eq, codes, string_bytes}
use Rattle.std.specs.Option.{option_map_or, option_or}
use Rattle.std.specs.List.{list_any, before_first, after_first}
use Rattle.std.specs.Str.Parse.{IsNumeral, digits_value, without_leading_plus}
use Rattle.clap.specs.Words.{Kinds, Row, Text, fault_of, first_of, one_of, subcommand_of}
use Rattle.ir_core.specs.declared.TheConstants.{MAX_CAPACITY, MAX_PACKETS, MAX_RESTAMPS}
use Rattle.ir_cli.specs.declared.TheConstants.{MAX_THREADS, MAX_LANDMARKS, MAX_EPOCH, MIN_STRETCH, MAX_STRETCH, DEFAULT_CAPACITY, DEFAULT_PACKETS, DEFAULT_RESTAMPS}
use Rattle.ir_cli.specs.declared.choices.DetourChoice.{DetourChoice}
use Rattle.ir_cli.specs.declared.kinds.KindChoice.{KindChoice}
use Rattle.ir_cli.specs.declared.kinds.KindChoice.TheVariants.{Tree, Shortest, Compact, Landmark}
use Rattle.ir_cli.specs.declared.words.Format.{Format}
use Rattle.ir_cli.specs.declared.words.Format.TheVariants.{AdjList, EdgeList}
use Rattle.ir_cli.specs.declared.words.NumberingChoice.{NumberingChoice}
use Rattle.ir_cli.specs.declared.words.NumberingChoice.TheVariants.{DepthFirst, Tour, Keep, KeepDepthFirst, File}
use Rattle.ir_cli.specs.declared.words.Second.{Second}
use Rattle.ir_cli.specs.declared.words.Span.{Span}
use Rattle.ir_cli.specs.declared.words.Sub.{Sub}
use Rattle.ir_cli.specs.declared.words.Sub.TheVariants.{Diff, Sim, Live, Check}
use Rattle.ir_cli.specs.declared.words.Words.{Words}
use Rattle.ir_cli.specs.Words.{format_of_name}
use Rattle.ir_cli.specs.declared.help.Called.{Called}
use Rattle.ir_cli.specs.declared.help.Called.TheVariants.{Route}
use Rattle.ir_cli.specs.declared.options.Choices.{Choices}
use Rattle.ir_cli.specs.CommandLine.{AreTheirWords, name_of, program, sub_word}

-- the word of a kind
abbrev pub IsKindWord : KindChoice → Text → Type 0
IsKindWord Tree word = codes "tree" ≡ word
IsKindWord Shortest word = codes "shortest" ≡ word
IsKindWord Compact word = codes "compact" ≡ word
IsKindWord Landmark word = codes "landmark" ≡ word

abbrev pub format_word : Format → Text
format_word AdjList = codes "adjlist"
format_word EdgeList = codes "edgelist"

-- the word of the kind, which the comparison of plans does not take
abbrev pub first_kind : List Row → Text
first_kind rows = unwrap_or (first_of (codes "kind") rows) (codes "shortest")

-- the subcommand may keep labels
abbrev pub keeps : Sub → Bool
keeps Diff = true
keeps Sim = true
keeps Live = true
keeps Check = true
keeps sub = false

-- the word keeps no labels
abbrev pub IsNoKeeping : Text → Type 0
IsNoKeeping word = (word ≢ codes "keep") × (word ≢ codes "keep,tour") × (word ≢ codes "keep,depth-first")

-- a word that names no order of its own is the name of a file
abbrev pub IsNumbering : Sub → NumberingChoice → Text → Type 0
IsNumbering sub DepthFirst word = word ≡ codes "depth-first"
IsNumbering sub Tour word = word ≡ codes "tour"
IsNumbering sub Keep word = ((word ≡ codes "keep") ⊎ (word ≡ codes "keep,tour")) × (keeps sub ≡ true)
IsNumbering sub KeepDepthFirst word = (word ≡ codes "keep,depth-first") × (keeps sub ≡ true)
IsNumbering sub (File name) word =
    (word ≡ string_bytes name) × (word ≢ codes "depth-first") × (word ≢ codes "tour") × (keeps sub ≡ true → IsNoKeeping word)

-- the word that numbers the nodes
abbrev pub numbering_word : List Row → Text
numbering_word rows = unwrap_or (first_of (codes "numbering") rows) (codes "depth-first")

-- the file of a topology, whose name says the format where `--format` does not
abbrev pub topology_name : Text → List Row → Text
topology_name place rows = unwrap_or (first_of place rows) (codes "-")

abbrev pub IsFormat : Text → Format → List Row → Type 0
IsFormat place format rows =
    MatchOption (first_of (codes "format") rows) (format ≡ format_of_name (topology_name place rows)) (λ word. word ≡ format_word format)

-- What an option of this name is given is a decimal number in a range; or the option is not given, and has no default.
abbrev pub IsNumber : Text → List Row → ℕ → ℕ → Option ℕ → Type 0
IsNumber name rows least most None = one_of name rows ≡ None
IsNumber name rows least most (Some n) = (word : Text) × (one_of name rows ≡ Some word) × IsNumeral 10 (without_leading_plus word)
    × (n ≡ digits_value 10 (without_leading_plus word)) × (least ≤ n) × (n ≤ most)

-- The same as a number, with another one where there is none, as where the subcommand has no such option.
abbrev pub IsNumberElse : Text → List Row → ℕ → ℕ → ℕ → ℕ → Type 0
IsNumberElse name rows least most other n = (given : Option ℕ) × IsNumber name rows least most given × (n ≡ unwrap_or given other)

-- How far landmark plans go round: the numbers that options say, 300 percent where none says it, and whether one does.
pub record IsDetour (detour : DetourChoice) (rows : List Row) : Type 0 where
  pub landmarks : IsNumber (codes "landmarks") rows 1 MAX_LANDMARKS detour.landmarks
  pub stretch : IsNumberElse (codes "stretch") rows MIN_STRETCH MAX_STRETCH MAX_STRETCH detour.stretch
  pub said : detour.is_said ≡ (is_some (first_of (codes "landmarks") rows) || is_some (first_of (codes "stretch") rows))

-- a flag is among the words
abbrev pub is_set : Text → List Row → Bool
is_set name rows = option_map_or (λ word. bytes_eq word (codes "true")) (first_of name rows) false

-- nodes fail in place of links
abbrev pub is_by_node : List Row → Bool
is_by_node rows = option_map_or (λ word. bytes_eq word (codes "nodes")) (first_of (codes "each") rows) false

-- the files, in order
abbrev pub files_in : List Row → List Text
files_in rows = option_to_list (first_of (codes "topology") rows) ++ option_to_list (first_of (codes "new") rows)
    ++ option_to_list (first_of (codes "script") rows) ++ option_to_list (first_of (codes "trace") rows)

-- the word of a second plan
abbrev pub second_word : List Row → Text
second_word rows = unwrap_or (first_of (codes "with") rows) []

abbrev pub is_comma : ℕ → Bool
is_comma byte = byte == 44

-- its kind, before a comma
abbrev pub second_kind : Text → Text
second_kind word = before_first is_comma word

-- the name of its root, after a comma
abbrev pub second_root : Text → Option Text
second_root word = if list_any is_comma word then Some (after_first is_comma word) else None

-- The second plan that a word asks for, its root by default that of the first plan; none where the word has no kind.
abbrev pub IsSecond : Text → Option Text → Option Second → Type 0
IsSecond word first None = (kind : KindChoice) → IsKindWord kind (second_kind word) → ⊥
IsSecond word first (Some second) =
    IsKindWord second.kind (second_kind word) × (option_map string_bytes second.root ≡ option_or (second_root word) first)

-- there is a second plan where one is asked for
abbrev pub HasItsSecond : List Row → Words → Type 0
HasItsSecond rows words = first_of (codes "with") rows ≢ None → words.second ≢ None

-- a text is a number in decimal, of 64 bits at most
abbrev pub IsDecimal : Text → ℕ → Type 0
IsDecimal text n = IsNumeral 10 (without_leading_plus text) × (n ≡ digits_value 10 (without_leading_plus text)) × (n < 2 ^ 64)

-- the word of the nodes whose lines are asked for
abbrev pub nodes_word : List Row → Text
nodes_word rows = unwrap_or (first_of (codes "nodes") rows) []

abbrev pub is_hyphen : ℕ → Bool
is_hyphen byte = byte == 45

-- what stands before its first hyphen, and after it
abbrev pub span_first : Text → Text
span_first word = before_first is_hyphen word

abbrev pub span_last : Text → Text
span_last word = after_first is_hyphen word

-- the word is `A-B`, two numbers of which the second is at least the first
abbrev pub IsSpan : Text → Span → Type 0
IsSpan word span = IsDecimal (span_first word) span.first × IsDecimal (span_last word) span.last × (span.first ≤ span.last)

-- The nodes that a word asks for; none where it is no such word.
abbrev pub AreNodes : Text → Option Span → Type 0
AreNodes word None = (span : Span) → IsSpan word span → ⊥
AreNodes word (Some span) = IsSpan word span

-- there are nodes where some are asked for
abbrev pub HasItsNodes : List Row → Words → Type 0
HasItsNodes rows words = first_of (codes "nodes") rows ≢ None → words.nodes ≢ None

-- there is what is asked for by a word with two parts
abbrev pub HasWhatIsAsked : List Row → Words → Type 0
HasWhatIsAsked rows words = HasItsSecond rows words × HasItsNodes rows words

-- The words of a subcommand of this name, with these options, flags and files, mean this.
pub record Means (name : Text) (rows : List Row) (words : Words) : Type 0 where
  pub sub : sub_word words.sub ≡ name
  pub format : IsFormat (codes "topology") words.format rows
  pub new_format : IsFormat (codes "new") words.new_format rows
  pub kind : IsKindWord words.kind (first_kind rows)
  pub detour : IsDetour words.detour rows
  pub root : option_map string_bytes words.root ≡ first_of (codes "root") rows
  pub numbering : IsNumbering words.sub words.numbering (numbering_word rows)
  pub capacity : IsNumberElse (codes "capacity") rows 1 MAX_CAPACITY (digits_value 10 DEFAULT_CAPACITY.now) words.capacity
  pub packets : IsNumberElse (codes "packets") rows 1 MAX_PACKETS (digits_value 10 DEFAULT_PACKETS.now) words.packets
  pub restamps : IsNumberElse (codes "restamps") rows 0 MAX_RESTAMPS (digits_value 10 DEFAULT_RESTAMPS.now) words.restamps
  pub threads : IsNumber (codes "threads") rows 1 MAX_THREADS words.threads
  pub from : option_map string_bytes words.from ≡ first_of (codes "from") rows
  pub to : option_map string_bytes words.to ≡ first_of (codes "to") rows
  pub node : option_map string_bytes words.node ≡ first_of (codes "node") rows
  pub epoch : IsNumberElse (codes "epoch") rows 1 MAX_EPOCH 1 words.epoch
  pub binary : words.binary ≡ is_set (codes "binary") rows
  pub svg : words.svg ≡ is_set (codes "svg") rows
  pub second : IsSecond (second_word rows) (first_of (codes "root") rows) words.second
  pub each : words.each ≡ is_some (first_of (codes "each") rows)
  pub by_node : words.by_node ≡ is_by_node rows
  pub disjoint : words.disjoint ≡ is_set (codes "disjoint") rows
  pub order_alone : words.order_alone ≡ is_set (codes "order") rows
  pub nodes : AreNodes (nodes_word rows) words.nodes
  pub steps : words.steps ≡ is_set (codes "steps") rows
  pub whole : words.whole ≡ is_set (codes "whole") rows
  pub explain : words.explain ≡ (is_set (codes "explain") rows && not (is_set (codes "no-explain") rows))
  pub json : words.json ≡ is_set (codes "json") rows
  pub output : option_map string_bytes words.output ≡ first_of (codes "output") rows
  pub quiet : words.quiet ≡ is_set (codes "quiet") rows
  pub files : map string_bytes words.files.items ≡ files_in rows

-- What was met means this: a subcommand, with its options, flags and files.
abbrev pub MeansMet : Option (Text × List Row) → Words → Type 0
MeansMet None words = ⊥
MeansMet (Some met) words = Means met.0 met.1 words × HasWhatIsAsked met.1 words

module _ (called : Called) where
  -- what the parser finds wrong with the words after the program's name, by the command line
  abbrev pub faults : Choices → List Text → Kinds
  faults choices typed = fault_of (program choices called) (name_of called ∷ typed)

  -- the subcommand that it meets, with its options, flags and files
  abbrev pub met : Choices → List Text → Option (Text × List Row)
  met choices typed = subcommand_of (program choices called) (name_of called ∷ typed)

  -- The words after the program's name mean this: the parser finds nothing wrong with them, and reads them so.
  abbrev pub AsksAs : List Text → Words → Type 0
  AsksAs typed words = (choices : Choices) × AreTheirWords choices × (faults choices typed ≡ []) × MeansMet (met choices typed) words

-- the same where the program is called `route`
abbrev pub Asks : List Text → Words → Type 0
Asks typed words = AsksAs Route typed words

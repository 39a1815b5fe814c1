-- The command line: what each subcommand takes, with a line for each option, flag and file. How words are read by it is
-- given by the parser's own definitions (`Walk` of clap). `--NAME VALUE` or `--NAME=VALUE` gives an option its value, as
-- `-X VALUE` does with its letter, words that are no options go to the files in order, and after `--` all words are files.
use Rattle.std.specs.Prelude.{◌≡◌, ℕ, pos, true, false, List, [], ◌∷◌, ◌++◌, Some, codes, map, slice_get}
use Rattle.std.specs.Borrow.{Bor}
use Rattle.clap.specs.Words.{App, Rule, Shape, Text, new_rule}
use Rattle.clap.specs.Walk.{texts}
use Rattle.clap.specs.Simple.{new_shape}
use Rattle.clap.specs.declared.builder.action.ArgAction.TheVariants.{SetTrue}
use Rattle.clap.specs.declared.builder.value_parser.ValueParser.TheVariants as takes
use Rattle.ir_cli.specs.declared.help.Called.{Called}
use Rattle.ir_cli.specs.declared.help.Called.TheVariants.{Route, Bentzolu}
use Rattle.ir_cli.specs.declared.options.Choices.{Choices}
use Rattle.ir_cli.specs.declared.words.Sub.{Sub}
use Rattle.ir_cli.specs.declared.words.Sub.TheVariants as subs
use Rattle.ir_core.specs.declared.TheConstants.{MAX_CAPACITY, MAX_PACKETS, MAX_RESTAMPS}
use Rattle.ir_cli.specs.declared.TheConstants.{MAX_THREADS, MAX_LANDMARKS, MAX_EPOCH, MIN_STRETCH, MAX_STRETCH, DEFAULT_CAPACITY, DEFAULT_PACKETS, DEFAULT_RESTAMPS}

-- `--NAME`
abbrev pub flag : Text → Rule
flag name = record (new_rule name) { long = Some name; action = Some SetTrue }

-- `--NAME VALUE`
abbrev pub option : Text → Rule
option name = record (new_rule name) { long = Some name; value_names = 1 }

-- the same of one of some words
abbrev pub choice : Text → Bor (List (Bor Text)) → Rule
choice name words = record (option name) { parser = Some (takes.Names words) }

-- the same of a number from one to another
abbrev pub number : Text → ℕ → ℕ → Rule
number name least most = record (option name) { parser = Some (takes.Signed (pos least) (pos most)) }

-- also `-X VALUE`, with this letter
abbrev pub lettered : Text → Rule → Rule
lettered letter rule = record rule { short = slice_get letter 0 }

-- a file, by its place
abbrev pub file : Text → Rule
file name = record (new_rule name) { value_names = 1 }

-- one of some words, by its place
abbrev pub placed_choice : Text → Bor (List (Bor Text)) → Rule
placed_choice name words = record (file name) { parser = Some (takes.Names words) }

-- a number from one to another, by its place
abbrev pub placed_number : Text → ℕ → ℕ → Rule
placed_number name least most = record (file name) { parser = Some (takes.Signed (pos least) (pos most)) }

-- it must be given
abbrev pub needed : Rule → Rule
needed rule = record rule { required = true }

-- this word stands for it where it is not given
abbrev pub or_else : Text → Rule → Rule
or_else word rule = record rule { defaults = word ∷ [] }

-- a subcommand
abbrev pub taking : Text → List Rule → Shape
taking name rules = record (new_shape name) { rules = rules }

-- the name of a subcommand
abbrev pub sub_word : Sub → Text
sub_word subs.Plan = codes "plan"
sub_word subs.Walk = codes "walk"
sub_word subs.Stats = codes "stats"
sub_word subs.Compare = codes "compare"
sub_word subs.Diff = codes "diff"
sub_word subs.Draw = codes "draw"
sub_word subs.Prefixes = codes "prefixes"
sub_word subs.Ranges = codes "ranges"
sub_word subs.Xdp = codes "xdp"
sub_word subs.Sim = codes "sim"
sub_word subs.Live = codes "live"
sub_word subs.Check = codes "check"

-- the name that the program is called by, and calls itself
abbrev pub name_of : Called → Text
name_of Route = codes "route"
name_of Bentzolu = codes "bentzolu"

-- the words of which one may be chosen
abbrev pub AreTheirWords : Choices → Type 0
AreTheirWords choices = (texts choices.formats.now ≡ codes "adjlist" ∷ codes "edgelist" ∷ [])
    × (texts choices.kinds.now ≡ codes "tree" ∷ codes "shortest" ∷ codes "compact" ∷ codes "landmark" ∷ [])
    × (texts choices.numberings.now ≡ codes "depth-first" ∷ codes "tour" ∷ codes "keep" ∷ codes "keep,tour" ∷ codes "keep,depth-first" ∷ [])
    × (texts choices.keepings.now ≡ codes "depth-first" ∷ codes "tour" ∷ codes "keep" ∷ [])
    × (texts choices.parts.now ≡ codes "table" ∷ [])
    × (texts choices.eaches.now ≡ codes "links" ∷ codes "nodes" ∷ [])

-- the flag of output as JSON
abbrev pub json : Rule
json = flag (codes "json")

abbrev pub as_json : List Rule
as_json = json ∷ []

-- how all report: to a file, with sentences for people, or with nothing on standard error
abbrev pub telling : List Rule
telling =
    lettered (codes "o") (option (codes "output"))
    ∷ flag (codes "quiet")
    ∷ flag (codes "explain")
    ∷ flag (codes "no-explain")
    ∷ []

-- what those take that show a plan
abbrev pub shown : List Rule
shown =
    lettered (codes "n") (or_else (codes "depth-first") (option (codes "numbering")))
    ∷ number (codes "threads") 1 MAX_THREADS
    ∷ needed (file (codes "topology"))
    ∷ []

-- the flags of `plan`
abbrev pub ordered : List Rule
ordered = flag (codes "order") ∷ option (codes "nodes") ∷ json ∷ []

-- the ends of `walk`
abbrev pub ends : List Rule
ends = needed (option (codes "from")) ∷ needed (option (codes "to")) ∷ json ∷ []

-- what `draw` draws: the ends of a walk, or a node
abbrev pub drawn : List Rule
drawn =
    option (codes "from")
    ∷ option (codes "to")
    ∷ option (codes "node")
    ∷ flag (codes "svg")
    ∷ []

-- the flags of `prefixes`
abbrev pub prefixed : List Rule
prefixed = flag (codes "disjoint") ∷ json ∷ []

-- the node whose table `xdp` prints, and whether as bytes
abbrev pub noded : List Rule
noded = needed (option (codes "node")) ∷ flag (codes "binary") ∷ []

-- the flags of `sim`
abbrev pub stepped : List Rule
stepped = flag (codes "steps") ∷ json ∷ []

-- the flags of `check`
abbrev pub whole_flag : List Rule
whole_flag = flag (codes "whole") ∷ json ∷ []

-- the capacity of a run's channels and inboxes, and its most packets
abbrev pub counted : List Rule
counted =
    or_else DEFAULT_CAPACITY.now (number (codes "capacity") 1 MAX_CAPACITY)
    ∷ or_else DEFAULT_PACKETS.now (number (codes "packets") 1 MAX_PACKETS)
    ∷ []

module _ (choices : Choices) where
  -- the format of the topology
  abbrev pub format : Rule
  format = lettered (codes "f") (choice (codes "format") choices.formats)

  -- what those take that make a plan of one kind
  abbrev pub routed : List Rule
  routed =
      format
      ∷ lettered (codes "k") (or_else (codes "shortest") (choice (codes "kind") choices.kinds))
      ∷ number (codes "landmarks") 1 MAX_LANDMARKS
      ∷ number (codes "stretch") MIN_STRETCH MAX_STRETCH
      ∷ lettered (codes "r") (option (codes "root"))
      ∷ []

  -- what `xdp` prints, and the epoch of it
  abbrev pub placed : List Rule
  placed =
      needed (placed_choice (codes "part") choices.parts)
      ∷ needed (placed_number (codes "epoch") 1 MAX_EPOCH)
      ∷ []

  -- the second plan of `stats`, and of what each fails
  abbrev pub measured : List Rule
  measured = option (codes "with") ∷ choice (codes "each") choices.eaches ∷ json ∷ []

  -- what the comparison of plans takes
  abbrev pub compared : List Rule
  compared =
      format
      ∷ lettered (codes "r") (option (codes "root"))
      ∷ number (codes "threads") 1 MAX_THREADS
      ∷ needed (file (codes "topology"))
      ∷ []

  -- what `diff` takes: how both plans are numbered, and the files of both topologies
  abbrev pub differing : List Rule
  differing =
      lettered (codes "n") (or_else (codes "depth-first") (choice (codes "numbering") choices.keepings))
      ∷ number (codes "threads") 1 MAX_THREADS
      ∷ needed (file (codes "topology"))
      ∷ file (codes "new")
      ∷ []

  -- how the plans of a run are numbered
  abbrev pub run_numbering : Rule
  run_numbering = lettered (codes "n") (or_else (codes "depth-first") (choice (codes "numbering") choices.numberings))

  -- what those take that play a script
  abbrev pub played : List Rule
  played =
      run_numbering
      ∷ counted
      ++ or_else DEFAULT_RESTAMPS.now (number (codes "restamps") 0 MAX_RESTAMPS)
      ∷ needed (file (codes "topology"))
      ∷ file (codes "script")
      ∷ []

  -- what the check of a trace takes
  abbrev pub checked : List Rule
  checked =
      run_numbering
      ∷ counted
      ++ needed (file (codes "topology"))
      ∷ file (codes "script")
      ∷ file (codes "trace")
      ∷ []

  -- what a subcommand takes
  abbrev pub rules_of : Sub → List Rule
  rules_of subs.Plan = routed ++ shown ++ ordered ++ telling
  rules_of subs.Walk = routed ++ shown ++ ends ++ telling
  rules_of subs.Stats = routed ++ shown ++ measured ++ telling
  rules_of subs.Compare = compared ++ as_json ++ telling
  rules_of subs.Diff = routed ++ differing ++ as_json ++ telling
  rules_of subs.Draw = routed ++ shown ++ drawn ++ telling
  rules_of subs.Prefixes = routed ++ shown ++ prefixed ++ telling
  rules_of subs.Ranges = routed ++ shown ++ as_json ++ telling
  rules_of subs.Xdp = routed ++ placed ++ shown ++ noded ++ telling
  rules_of subs.Sim = routed ++ played ++ stepped ++ telling
  rules_of subs.Live = routed ++ played ++ as_json ++ telling
  rules_of subs.Check = routed ++ checked ++ whole_flag ++ telling

  abbrev pub subcommand : Sub → Shape
  subcommand sub = taking (sub_word sub) (rules_of sub)

  abbrev pub subcommands : List Shape
  subcommands =
      map subcommand (subs.Plan ∷ subs.Walk ∷ subs.Stats ∷ subs.Compare ∷ subs.Diff ∷ subs.Draw ∷ subs.Prefixes ∷ subs.Ranges
      ∷ subs.Xdp ∷ subs.Sim ∷ subs.Live ∷ subs.Check ∷ [])

  -- the program
  abbrev pub program : Called → App
  program called = record {
    top = record (new_shape (name_of called)) { is_leaf = false; has_version = true; subcommand_required = true };
    subs = subcommands;
  }

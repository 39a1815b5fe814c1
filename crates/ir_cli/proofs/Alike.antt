-- Words that mean the same of one subcommand, with its options, flags and files, keep the same rules.
use Rattle.std.proofs.Common.{◌≡◌, ◌≢◌, ◌⊎◌, inl, inr, ◌∙◌, ◌==◌, ◌&&◌, ◌||◌, ℕ, Bool, true, false, not, List, map, length, Option, Some, None, refl, sym, ap, ap₂, string_bytes, codes, bytes_eq, is_some, option_map, true≢false}
use Rattle.std.specs.Prelude.{if◌then◌else◌}
use Rattle.std.proofs.lemmas.List.{length-map}
use Rattle.std.proofs.lemmas.Slice.Eq.{bytes_eq-Decides}
use Rattle.clap.specs.Words.{Row, Text, first_of}
use Rattle.ir_cli.specs.declared.kinds.KindChoice.{KindChoice}
use Rattle.ir_cli.specs.declared.kinds.KindChoice.TheVariants.{Tree, Shortest, Compact, Landmark}
use Rattle.ir_cli.specs.Kinds.{is_landmark}
use Rattle.ir_cli.specs.declared.words.Sub.{Sub}
use Rattle.ir_cli.specs.declared.words.Sub.TheVariants as subs
use Rattle.ir_cli.specs.declared.words.NumberingChoice.{NumberingChoice}
use Rattle.ir_cli.specs.declared.words.NumberingChoice.TheVariants.{DepthFirst, Tour, Keep, KeepDepthFirst, File}
use Rattle.ir_cli.specs.declared.words.Second.{Second}
use Rattle.ir_cli.specs.declared.words.Span.{Span}
use Rattle.ir_cli.specs.declared.words.Words.{Words}
use Rattle.ir_cli.specs.Words.{AreTaken, FitsItsKind, alike, are_named, has_its_files, has_order, is_dash, is_file, has_landmark, has_script, is_no_dash, may_go_round, takes_detour, takes_drawing, takes_list, takes_nodes, takes_numbering, texts_wanted}
use Rattle.ir_cli.specs.Meaning.{AreNodes, HasItsNodes, HasItsSecond, HasWhatIsAsked, IsNoKeeping, IsNumbering, IsSecond, IsKindWord, Means, first_kind, keeps, nodes_word, second_kind, numbering_word, second_word}
use Rattle.ir_cli.specs.CommandLine.{sub_word}

-- ---- what a word says

abbrev sub_by : Text → Sub
sub_by word =
    if bytes_eq word (codes "plan") then subs.Plan
    else if bytes_eq word (codes "walk") then subs.Walk
    else if bytes_eq word (codes "stats") then subs.Stats
    else if bytes_eq word (codes "compare") then subs.Compare
    else if bytes_eq word (codes "diff") then subs.Diff
    else if bytes_eq word (codes "draw") then subs.Draw
    else if bytes_eq word (codes "prefixes") then subs.Prefixes
    else if bytes_eq word (codes "ranges") then subs.Ranges
    else if bytes_eq word (codes "xdp") then subs.Xdp
    else if bytes_eq word (codes "sim") then subs.Sim
    else if bytes_eq word (codes "live") then subs.Live
    else subs.Check

sub_by_word : (sub : Sub) → sub_by (sub_word sub) ≡ sub
sub_by_word subs.Plan = refl
sub_by_word subs.Walk = refl
sub_by_word subs.Stats = refl
sub_by_word subs.Compare = refl
sub_by_word subs.Diff = refl
sub_by_word subs.Draw = refl
sub_by_word subs.Prefixes = refl
sub_by_word subs.Ranges = refl
sub_by_word subs.Xdp = refl
sub_by_word subs.Sim = refl
sub_by_word subs.Live = refl
sub_by_word subs.Check = refl

same_sub : (a b : Sub) → sub_word a ≡ sub_word b → a ≡ b
same_sub a b e = sym (sub_by_word a) ∙ ap sub_by e ∙ sub_by_word b

abbrev kind_by : Text → KindChoice
kind_by word =
    if bytes_eq word (codes "tree") then Tree else if bytes_eq word (codes "compact") then Compact
    else if bytes_eq word (codes "landmark") then Landmark else Shortest

kind_by_word : (kind : KindChoice) (word : Text) → IsKindWord kind word → kind ≡ kind_by word
kind_by_word Tree word is = ap kind_by is
kind_by_word Shortest word is = ap kind_by is
kind_by_word Compact word is = ap kind_by is
kind_by_word Landmark word is = ap kind_by is

same_kind : (a b : KindChoice) (word : Text) → IsKindWord a word → IsKindWord b word → a ≡ b
same_kind a b word is also = kind_by_word a word is ∙ sym (kind_by_word b word also)

other_text : (a b : Text) → a ≢ b → bytes_eq a b ≡ false
other_text a b other = go (bytes_eq a b) refl
  where
    go : (r : Bool) → bytes_eq a b ≡ r → r ≡ false
    go false is = refl
    go true is = absurd (other ((bytes_eq-Decides a b).0 is))

-- ---- the numbering of a word

-- a word that keeps labels
abbrev keeps_by : Bool → Text → Bool
keeps_by kept word = kept && (bytes_eq word (codes "keep") || (bytes_eq word (codes "keep,tour") || bytes_eq word (codes "keep,depth-first")))

abbrev numbering_by : Bool → Text → KindChoice → Bool → Bool
numbering_by kept word kind has_root =
    if bytes_eq word (codes "depth-first") then true else if bytes_eq word (codes "tour") then takes_list kind
    else if keeps_by kept word then takes_list kind
    else is_no_dash word && not has_root

abbrev file_by : Bool → Text → Bool
file_by kept word =
    if bytes_eq word (codes "depth-first") then false else if bytes_eq word (codes "tour") then false else if keeps_by kept word then false else true

not_kept : (kept : Bool) (word : Text) → (kept ≡ true → IsNoKeeping word) → keeps_by kept word ≡ false
not_kept true word other = rw (other_text word (codes "keep") (other refl).0, other_text word (codes "keep,tour") (other refl).1, other_text word (codes "keep,depth-first") (other refl).2) refl
not_kept false word other = refl

numbering_by_word : (sub : Sub) (numbering : NumberingChoice) (word : Text) (kind : KindChoice) (has_root : Bool) → IsNumbering sub numbering word
    → takes_numbering numbering kind has_root ≡ numbering_by (keeps sub) word kind has_root
numbering_by_word sub DepthFirst word kind has_root is = sym (ap (λ w. numbering_by (keeps sub) w kind has_root) is)
numbering_by_word sub Tour word kind has_root is = sym (ap (λ w. numbering_by (keeps sub) w kind has_root) is)
numbering_by_word sub Keep word kind has_root (inl is, may) = sym (ap₂ (λ kept w. numbering_by kept w kind has_root) may is)
numbering_by_word sub Keep word kind has_root (inr is, may) = sym (ap₂ (λ kept w. numbering_by kept w kind has_root) may is)
numbering_by_word sub KeepDepthFirst word kind has_root is = sym (ap₂ (λ kept w. numbering_by kept w kind has_root) is.1 is.0)
numbering_by_word sub (File name) word kind has_root is =
    rw (other_text word (codes "depth-first") is.1, other_text word (codes "tour") is.2, not_kept (keeps sub) word is.3) (ap (λ w. is_no_dash w && not has_root) (sym is.0))

file_by_word : (sub : Sub) (numbering : NumberingChoice) (word : Text) → IsNumbering sub numbering word → is_file numbering ≡ file_by (keeps sub) word
file_by_word sub DepthFirst word is = sym (ap (file_by (keeps sub)) is)
file_by_word sub Tour word is = sym (ap (file_by (keeps sub)) is)
file_by_word sub Keep word (inl is, may) = sym (ap₂ file_by may is)
file_by_word sub Keep word (inr is, may) = sym (ap₂ file_by may is)
file_by_word sub KeepDepthFirst word is = sym (ap₂ file_by is.1 is.0)
file_by_word sub (File name) word is =
    rw (other_text word (codes "depth-first") is.1, other_text word (codes "tour") is.2, not_kept (keeps sub) word is.3) refl

-- ---- what is given

given : {X : Type 0} (f : X → Text) (o : Option X) → is_some (option_map f o) ≡ is_some o
given f None = refl
given f (Some text) = refl

same_given : {X : Type 0} (f : X → Text) (a b : Option X) (word : Option Text) → option_map f a ≡ word → option_map f b ≡ word → is_some a ≡ is_some b
same_given f a b word is also = sym (given f a) ∙ ap is_some (is ∙ sym also) ∙ given f b

-- the files of a subcommand
abbrev files_by : Sub → List Text → Bool
files_by sub files = is_dash files || ((length files == texts_wanted sub) && are_named sub files)

files_by_texts : (words : Words) → has_its_files words ≡ files_by words.sub (map string_bytes words.files.items)
files_by_texts words =
    ap (λ (n : ℕ). is_dash (map string_bytes words.files.items) || ((n == texts_wanted words.sub) && are_named words.sub (map string_bytes words.files.items)))
    (sym (length-map words.files.items string_bytes))

-- a second plan is read of a word, or none is
no_second : (word : Text) (first : Option Text) (a b : Option Second) → IsSecond word first a → IsSecond word first b → b ≢ None → a ≢ None
no_second word first (Some second) b is also some = λ e. true≢false (ap is_some e)
no_second word first None None is also some = absurd (some refl)
no_second word first None (Some second) is also some = absurd (is second.kind also.0)

-- whether a second plan is one of landmarks, by its word
landmark_by_word : (kind : KindChoice) (word : Text) → IsKindWord kind word → is_landmark kind ≡ bytes_eq word (codes "landmark")
landmark_by_word Tree word is = ap (λ w. bytes_eq w (codes "landmark")) is
landmark_by_word Shortest word is = ap (λ w. bytes_eq w (codes "landmark")) is
landmark_by_word Compact word is = ap (λ w. bytes_eq w (codes "landmark")) is
landmark_by_word Landmark word is = ap (λ w. bytes_eq w (codes "landmark")) is

second_by_word : (word : Text) (first : Option Text) (second : Option Second) → IsSecond word first second → has_landmark second ≡ bytes_eq (second_kind word) (codes "landmark")
second_by_word word first None none = sym (other_text (second_kind word) (codes "landmark") (λ e. none Landmark (sym e)))
second_by_word word first (Some second) is = landmark_by_word second.kind (second_kind word) is.0

-- nodes are read of a word, or none are
are_nodes : (word : Text) (a b : Option Span) → AreNodes word a → AreNodes word b → is_some a ≡ is_some b
are_nodes word None None is also = refl
are_nodes word None (Some span) is also = absurd (is span also)
are_nodes word (Some span) None is also = absurd (also span is)
are_nodes word (Some span) (Some other) is also = refl

none_too : {X : Type 0} (a b : Option X) → is_some a ≡ is_some b → a ≡ None → b ≡ None
none_too a None same none = refl
none_too a (Some x) same none = absurd (true≢false (sym same ∙ ap is_some none))

-- ---- words that mean the same

module _ (name : Text) (rows : List Row) (a b : Words) (is : Means name rows a) (also : Means name rows b) where
  subs_same : a.sub ≡ b.sub
  subs_same = same_sub a.sub b.sub (is.sub ∙ sym also.sub)

  same_files : has_its_files a ≡ has_its_files b
  same_files = files_by_texts a ∙ ap₂ files_by subs_same (is.files ∙ sym also.files) ∙ sym (files_by_texts b)

  kinds : a.kind ≡ b.kind
  kinds = same_kind a.kind b.kind (first_kind rows) is.kind also.kind

  abbrev word : Text
  word = numbering_word rows

  same_numbering : takes_numbering a.numbering a.kind (is_some a.root) ≡ takes_numbering b.numbering b.kind (is_some b.root)
  same_numbering = numbering_by_word a.sub a.numbering word a.kind (is_some a.root) is.numbering
      ∙ ap (λ (sub : Sub). numbering_by (keeps sub) word a.kind (is_some a.root)) subs_same
      ∙ ap₂ (numbering_by (keeps b.sub) word) kinds (same_given string_bytes a.root b.root (first_of (codes "root") rows) is.root also.root)
      ∙ sym (numbering_by_word b.sub b.numbering word b.kind (is_some b.root) also.numbering)

  abbrev drawing_by : Bool → Bool → Bool → Bool → Bool
  drawing_by from to node svg = alike from to && (not (node && from) && (not svg || node))

  same_drawing : takes_drawing a ≡ takes_drawing b
  same_drawing = ap₂ (λ from to. drawing_by from to (is_some a.node) a.svg) (same_given string_bytes a.from b.from (first_of (codes "from") rows) is.from also.from) (same_given string_bytes a.to b.to (first_of (codes "to") rows) is.to also.to)
      ∙ ap₂ (drawing_by (is_some b.from) (is_some b.to)) (same_given string_bytes a.node b.node (first_of (codes "node") rows) is.node also.node) (is.svg ∙ sym also.svg)

  same_order : has_order a ≡ has_order b
  same_order = file_by_word a.sub a.numbering word is.numbering ∙ ap (λ (sub : Sub). file_by (keeps sub) word) subs_same
      ∙ sym (file_by_word b.sub b.numbering word also.numbering)

  same_second : has_landmark a.second ≡ has_landmark b.second
  same_second = second_by_word (second_word rows) (first_of (codes "root") rows) a.second is.second
      ∙ sym (second_by_word (second_word rows) (first_of (codes "root") rows) b.second also.second)

  same_round : may_go_round a.sub a.kind a.second ≡ may_go_round b.sub b.kind b.second
  same_round = ap₂ (λ (script landmark : Bool). script || (landmark || has_landmark a.second)) (ap has_script subs_same) (ap is_landmark kinds)
      ∙ ap (λ (second : Bool). has_script b.sub || (is_landmark b.kind || second)) same_second

  same_detour : takes_detour a ≡ takes_detour b
  same_detour = ap₂ (λ (said round : Bool). not said || round) (is.detour.said ∙ sym also.detour.said) same_round

  same_span : is_some a.nodes ≡ is_some b.nodes
  same_span = are_nodes (nodes_word rows) a.nodes b.nodes is.nodes also.nodes

  same_nodes : takes_nodes a ≡ takes_nodes b
  same_nodes = ap₂ (λ (order some : Bool). not (order && some)) (is.order_alone ∙ sym also.order_alone) same_span

  pub taken_too : AreTaken b → AreTaken a
  taken_too taken = (same_files ∙ taken.0, same_numbering ∙ taken.1, same_drawing ∙ taken.2, same_detour ∙ taken.3, same_nodes ∙ taken.4)

  pub fits_too : FitsItsKind b → FitsItsKind a
  fits_too fits = λ order. ap takes_list kinds ∙ fits (sym same_order ∙ order)

  second_too : HasItsSecond rows b → HasItsSecond rows a
  second_too has = λ asked. no_second (second_word rows) (first_of (codes "root") rows) a.second b.second is.second also.second (has asked)

  nodes_too : HasItsNodes rows b → HasItsNodes rows a
  nodes_too has = λ asked none. has asked (none_too a.nodes b.nodes same_span none)

  pub asked_too : HasWhatIsAsked rows b → HasWhatIsAsked rows a
  asked_too has = (second_too has.0, nodes_too has.1)

-- The rows that the words of a line spell, and what the code holds of them.
use Rattle.std.specs.Prelude.{◌≡◌, ℕ, ◌==◌, ◌<◌, ◌≤◌, Bool, true, not, take, drop, ◌||◌, ◌&&◌, List, ◌∷◌, ◌++◌, flat_map, length, map, slice_index, nat_lt, decimal, Some}
use Rattle.std.specs.List.{list_all, prefix_len, join_with_byte}
use Rattle.std.specs.Borrow.{Bor}
use Rattle.ir_model.specs.Graph.{Name, Adjacency, names}
use Rattle.ir_trace.specs.declared.TheConstants.{MAX_NUMBER}
use Rattle.ir_trace.specs.declared.row.RowFate.{RowFate}
use Rattle.ir_trace.specs.declared.words.FateSpelling.{FateSpelling}
use Rattle.ir_trace.specs.declared.words.FateSpelling.TheVariants as held
use Rattle.ir_trace.specs.declared.row.Version.{Version}
use Rattle.ir_trace.specs.declared.row.Version.TheVariants.{Two}
use Rattle.ir_trace.specs.declared.words.Head.{Head}
use Rattle.ir_trace.specs.declared.words.SegmentSpelling.{SegmentSpelling}
use Rattle.ir_trace.specs.declared.words.Spelling.{Spelling}
use Rattle.ir_trace.specs.Rows.{FateText, Delivered, Retired, Down, Full, Left, PartText, RowText, IsRowText, row_words, part_words, mark, is_mark, fate_words, is_word, is_part_text, fits_version}
use Rattle.ir_trace.specs.Row.{Segment, TraceRow}
use Rattle.ir_trace.specs.Reading.{node_named, AreLinkedAs, FateIsReadAs, PartsAreReadAs, IsReadAs}

-- the texts that a list of words points to
abbrev pub texts : List (Bor (List ℕ)) → List Name
texts words = map (λ w. w.now) words

abbrev pub fate_held : FateSpelling → FateText
fate_held held.Delivered = Delivered
fate_held held.Retired = Retired
fate_held (held.Down x y) = Down x.now y.now
fate_held (held.Full x y) = Full x.now y.now
fate_held held.Left = Left

abbrev pub part_held : SegmentSpelling → PartText
part_held s = record { epoch = s.epoch; hops = texts s.hops.now }

-- what is before the parts, and parts
abbrev pub row_told : Head → List PartText → RowText
row_told h parts = record { id = h.id; source = h.source.now; dest = h.dest.now; weight = h.weight; fate = fate_held h.fate; parts = parts }

abbrev pub text_held : Spelling → RowText
text_held s = row_told s.head (map part_held s.segments.items)

-- the line is these words, one or more, with one space between
pub record HasWords (line : List ℕ) (words : List Name) : Type 0 where
  pub some : 0 < length words
  pub whole : line ≡ join_with_byte 32 words
  pub each : list_all is_word words ≡ true

-- the line is no words with one space between
abbrev pub HasNoWords : List ℕ → Type 0
HasNoWords line = (words : List Name) → HasWords line words → ⊥

-- the words are those of a row
pub record Spells (v : Version) (words : List Name) (text : RowText) : Type 0 where
  pub text_is : IsRowText v text
  pub words_are : row_words v text ≡ words

-- the words of the second version before the parts
abbrev pub row_head : RowText → List Name
row_head r = decimal r.id ∷ r.source ∷ r.dest ∷ decimal r.weight ∷ fate_words r.fate

-- the words begin with those of a row of the second version before its parts
pub record HasHead (words : List Name) (text : RowText) (rest : List Name) : Type 0 where
  pub id : text.id ≤ MAX_NUMBER
  pub weight : text.weight ≤ MAX_NUMBER
  pub whole : row_head text ++ rest ≡ words

abbrev pub HasNoHead : List Name → Type 0
HasNoHead words = (text : RowText) (rest : List Name) → HasHead words text rest → ⊥

-- The words begin with those of a part of the second version, which ends before the next `#` or at the end.
pub record BeginsWith (words : List Name) (part : PartText) (rest : List Name) : Type 0 where
  pub tail : List Name
  pub whole : words ≡ mark part.epoch ∷ tail
  pub epoch : part.epoch ≤ MAX_NUMBER
  pub some : 0 < length part.hops
  pub hops : part.hops ≡ take (prefix_len (λ w. not (is_mark w)) tail) tail
  pub rest_is : rest ≡ drop (prefix_len (λ w. not (is_mark w)) tail) tail

abbrev pub BeginsWithNone : List Name → Type 0
BeginsWithNone words = (part : PartText) (rest : List Name) → BeginsWith words part rest → ⊥

-- the words are those of parts of the second version
pub record AreParts (words : List Name) (parts : List PartText) : Type 0 where
  pub words_are : flat_map part_words parts ≡ words
  pub each : list_all is_part_text parts ≡ true
  pub version : fits_version Two parts ≡ true

abbrev pub AreNoParts : List Name → Type 0
AreNoParts words = (parts : List PartText) → AreParts words parts → ⊥

-- no number has this text
abbrev pub IsNoNumber : Name → Type 0
IsNoNumber word = (n : ℕ) → n ≤ MAX_NUMBER → decimal n ≡ word → ⊥

-- a plus is first, or a zero with another byte after it
abbrev pub has_needless_front : Name → Bool
has_needless_front word = slice_index word 0 == 43 || slice_index word 0 == 48 && nat_lt 1 (length word)

-- no fate and hops have these words
abbrev pub IsNoFate : List Name → Type 0
IsNoFate words = (fate : FateText) (hops : List Name) → fate_words fate ++ hops ≡ words → ⊥

-- no row has these words
abbrev pub SpellsNothing : Version → List Name → Type 0
SpellsNothing v words = (text : RowText) → Spells v words text → ⊥

-- the word is no mark of an epoch
abbrev pub IsNoMark : Name → Type 0
IsNoMark word = (n : ℕ) → n ≤ MAX_NUMBER → mark n ≡ word → ⊥

-- no two linked nodes have these names
abbrev pub AreNotLinked : Adjacency → Name → Name → Type 0
AreNotLinked g x y = (u v : ℕ) → AreLinkedAs g x y u v → ⊥

-- the fate is read as none
abbrev pub IsNoFateOf : Adjacency → FateText → Type 0
IsNoFateOf g text = (fate : RowFate) → FateIsReadAs g text fate → ⊥

-- the nodes with these names
abbrev pub AreHops : Adjacency → List Name → List ℕ → Type 0
AreHops g words hops = map (node_named (names g)) words ≡ map (λ u. Some u) hops

abbrev pub AreNoHops : Adjacency → List Name → Type 0
AreNoHops g words = (hops : List ℕ) → AreHops g words hops → ⊥

-- the parts are read as none
abbrev pub AreNoPartsOf : Adjacency → List PartText → Type 0
AreNoPartsOf g texts = (parts : List Segment) → PartsAreReadAs g texts parts → ⊥

-- the row is read as none
abbrev pub IsNoRowOf : Adjacency → RowText → Type 0
IsNoRowOf g text = (row : TraceRow) → IsReadAs g text row → ⊥

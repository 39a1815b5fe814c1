-- The text of a trace: a line `trace 1` or `trace 2`, and then a row for each packet.
use Rattle.std.specs.Prelude.{◌≡◌, ℕ, ◌≤◌, ◌==◌, Bool, true, not, ◌&&◌, List, [], ◌∷◌, ◌++◌, flat_map, length, slice_index, decimal, codes, nat_le, nat_lt}
use Rattle.std.specs.List.{list_all, join_with_byte}
use Rattle.ir_model.specs.Graph.{Name}
use Rattle.ir_trace.specs.declared.TheConstants.{MAX_NUMBER, MAX_SEGMENTS}
use Rattle.ir_trace.specs.declared.row.Version.{Version}
use Rattle.ir_trace.specs.declared.row.Version.TheVariants.{One, Two}

-- a space and a word
abbrev pub spaced : List ℕ → List ℕ
spaced word = 32 ∷ word

-- what became of a packet, with the names that a row gives
pub data FateText : Type 0 where
  Delivered : FateText
  Retired : FateText
  Down : Name → Name → FateText
  Full : Name → Name → FateText
  Left : FateText

-- a part of a packet's way, under one epoch
pub record PartText : Type 0 where
  pub epoch : ℕ
  pub hops : List Name

-- what a row says
pub record RowText : Type 0 where
  pub id : ℕ
  pub source : Name
  pub dest : Name
  pub weight : ℕ
  pub fate : FateText
  pub parts : List PartText

-- `delivered`, `retired`, `down X Y`, `full X Y` or `left`
abbrev pub fate_words : FateText → List (List ℕ)
fate_words Delivered = codes "delivered" ∷ []
fate_words Retired = codes "retired" ∷ []
fate_words (Down x y) = codes "down" ∷ x ∷ y ∷ []
fate_words (Full x y) = codes "full" ∷ x ∷ y ∷ []
fate_words Left = codes "left" ∷ []

-- `#EPOCH`
abbrev pub mark : ℕ → List ℕ
mark epoch = 35 ∷ decimal epoch

-- `#EPOCH HOPS`
abbrev pub part_words : PartText → List (List ℕ)
part_words part = mark part.epoch ∷ part.hops

abbrev pub first_part : List PartText → PartText
first_part [] = record { epoch = 0; hops = [] }
first_part (part ∷ parts) = part

-- In the first version `ID EPOCH SOURCE DEST WEIGHT FATE HOPS`, of the one part; in the second `ID SOURCE DEST WEIGHT
-- FATE`, and then `#EPOCH HOPS` for each part. Numbers are in decimal without leading zeros.
abbrev pub row_words : Version → RowText → List (List ℕ)
row_words One r =
    decimal r.id ∷ decimal (first_part r.parts).epoch ∷ r.source ∷ r.dest ∷ decimal r.weight ∷ fate_words r.fate ++ (first_part r.parts).hops
row_words Two r =
    decimal r.id ∷ r.source ∷ r.dest ∷ decimal r.weight ∷ fate_words r.fate ++ flat_map part_words r.parts

-- the line of a row: its words with one space between, and a line feed
abbrev pub row_line : Version → RowText → List ℕ
row_line v r = join_with_byte 32 (row_words v r) ++ 10 ∷ []

abbrev pub header : Version → List ℕ
header One = codes "trace 1\n"
header Two = codes "trace 2\n"

abbrev pub trace_text : Version → List RowText → List ℕ
trace_text v rows = header v ++ flat_map (row_line v) rows

-- a word of `!` to `~`
abbrev pub is_word : Name → Bool
is_word w = nat_le 1 (length w) && list_all (λ b. nat_le 33 b && nat_le b 126) w

abbrev pub fate_names : FateText → List Name
fate_names Delivered = []
fate_names Retired = []
fate_names (Down x y) = x ∷ y ∷ []
fate_names (Full x y) = x ∷ y ∷ []
fate_names Left = []

-- the names of the hops
abbrev pub hop_names : List PartText → List Name
hop_names parts = flat_map (λ part. part.hops) parts

-- the names in a row
abbrev pub names_of_row : RowText → List Name
names_of_row r = r.source ∷ r.dest ∷ fate_names r.fate ++ hop_names r.parts

-- a word that begins with `#`
abbrev pub is_mark : Name → Bool
is_mark w = slice_index w 0 == 35

-- its epoch is small enough, and it has a hop
abbrev pub is_part_text : PartText → Bool
is_part_text part = nat_le part.epoch MAX_NUMBER && nat_lt 0 (length part.hops)

-- one part in the first version; one to four in the second, where no hop begins with `#`
abbrev pub fits_version : Version → List PartText → Bool
fits_version One parts = length parts == 1
fits_version Two parts =
    nat_le 1 (length parts) && (nat_le (length parts) MAX_SEGMENTS && list_all (λ part. list_all (λ w. not (is_mark w)) part.hops) parts)

-- A row that a trace may hold: its numbers are small enough, its names are words, and its parts are as many as the
-- version has, each with a hop.
pub record IsRowText (v : Version) (r : RowText) : Type 0 where
  pub id : r.id ≤ MAX_NUMBER
  pub weight : r.weight ≤ MAX_NUMBER
  pub parts : list_all is_part_text r.parts ≡ true
  pub version : fits_version v r.parts ≡ true
  pub words : list_all is_word (names_of_row r) ≡ true

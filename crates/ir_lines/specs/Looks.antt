-- What a look-up in the lines of a table comes to.
use Rattle.std.specs.Prelude.{◌≡◌, ℕ, zero, suc, ◌+◌, ◌*◌, ◌/◌, ◌%◌, ◌<◌, ◌≤◌, ◌⊎◌, List, length, slice_index, slice_range}

-- p is the place of the last of ascending words that is at most a key
pub record IsPlaceIn (words : List ℕ) (key p : ℕ) : Type 0 where
  pub inside : p < length words
  pub at_most : slice_index words p ≤ key
  pub next : p + 1 < length words → key < slice_index words (p + 1)

-- the key of a label: no word of a start at it is greater
abbrev pub label_key : ℕ → ℕ
label_key label = label * 65536 + 65535

-- the line with a number
abbrev pub table_line : List ℕ → ℕ → List ℕ
table_line words i = slice_range words (32 * i) (32 * i + 32)

-- the root, which is the second half of line 0
abbrev pub root : List ℕ → List ℕ
root words = slice_range words 16 32

-- the depth that the head names
abbrev pub depth_of : List ℕ → ℕ
depth_of words = slice_index words 3

-- the number of the first line of the lowest level, by the head
abbrev pub base_of : List ℕ → ℕ
base_of words = slice_index words 4

-- the port of the start whose word is at a place
abbrev pub word_port : List ℕ → ℕ → ℕ
word_port words p = slice_index words p % 65536

-- byte i of a word, the lowest first
abbrev pub byte_of : ℕ → ℕ → ℕ
byte_of word zero = word % 256
byte_of word (suc i) = byte_of (word / 256) i

-- byte i of a list of words
abbrev pub byte_in : List ℕ → ℕ → ℕ
byte_in words i = byte_of (slice_index words (i / 4)) (i % 4)

-- a table of depth 255 leads a label to the port that is its byte
pub record LeadsByByte (words : List ℕ) (label port : ℕ) : Type 0 where
  pub depth : depth_of words ≡ 255
  pub is : port ≡ byte_in (table_line words (1 + label / 128)) (label % 128)

-- one of depth 0 to the port of its place in the root
pub record LeadsByRoot (words : List ℕ) (label port : ℕ) : Type 0 where
  pub depth : depth_of words ≡ 0
  pub p : ℕ
  pub first : IsPlaceIn (root words) (label_key label) p
  pub is : port ≡ word_port (root words) p

-- one of depth 1 to that of its place in a line, by its place in the root
pub record LeadsByTwo (words : List ℕ) (label port : ℕ) : Type 0 where
  pub depth : depth_of words ≡ 1
  pub p : ℕ
  pub q : ℕ
  pub first : IsPlaceIn (root words) (label_key label) p
  pub second : IsPlaceIn (table_line words (1 + p)) (label_key label) q
  pub is : port ≡ word_port (table_line words (1 + p)) q

-- one of depth 2 to that of its place in a line of the lowest level, by its places in the root and in the middle level
pub record LeadsByThree (words : List ℕ) (label port : ℕ) : Type 0 where
  pub depth : depth_of words ≡ 2
  pub p : ℕ
  pub q : ℕ
  pub r : ℕ
  pub first : IsPlaceIn (root words) (label_key label) p
  pub second : IsPlaceIn (table_line words (1 + p)) (label_key label) q
  pub third : IsPlaceIn (table_line words (base_of words + 32 * p + q)) (label_key label) r
  pub is : port ≡ word_port (table_line words (base_of words + 32 * p + q)) r

-- the places that the lines lead a label to have the port
abbrev pub LinesLeadTo : List ℕ → ℕ → ℕ → Type 0
LinesLeadTo words label port =
    LeadsByByte words label port
    ⊎ (LeadsByRoot words label port ⊎ (LeadsByTwo words label port ⊎ LeadsByThree words label port))

-- so many words from a place on are there, and the first is at most a key
abbrev pub Begins : List ℕ → ℕ → ℕ → ℕ → Type 0
Begins words from count key = (from + count ≤ length words) × (slice_index words from ≤ key)

-- A look-up of a label can be made: each line that it comes to is there, and its first word is at most the key.
pub record IsLed (words : List ℕ) (label : ℕ) : Type 0 where
  pub there : 32 ≤ length words
  pub depth : (depth_of words ≡ 255) ⊎ (depth_of words ≤ 2)
  pub bytes : depth_of words ≡ 255 → 32 * (1 + label / 128) + 32 ≤ length words
  pub first : depth_of words ≤ 2 → Begins words 16 16 (label_key label)
  pub second : depth_of words ≤ 2 → 0 < depth_of words → (p : ℕ) → IsPlaceIn (root words) (label_key label) p
      → Begins words (32 * (1 + p)) 32 (label_key label)
  pub third : depth_of words ≡ 2 → (p q : ℕ) → IsPlaceIn (root words) (label_key label) p
      → IsPlaceIn (table_line words (1 + p)) (label_key label) q
      → Begins words (32 * (base_of words + 32 * p + q)) 32 (label_key label)

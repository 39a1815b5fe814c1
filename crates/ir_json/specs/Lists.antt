-- The words after a line's front as a list of JSON.
use Rattle.std.specs.Prelude.{ℕ, ◌==◌, Bool, true, false, not, ◌&&◌, if◌then◌else◌, List, [], ◌∷◌, ◌++◌, drop, slice_index_or, bytes_eq, codes}
use Rattle.ir_model.specs.Graph.{Name}
use Rattle.ir_model.specs.Text.{is_empty}
use Rattle.ir_json.specs.Words.{json_string, json_number}
use Rattle.ir_json.specs.Signs.{filled, first_word}
use Rattle.ir_json.specs.Forms.{Further, NoMore, Names, Pairs, Segments, Changes}

-- what is before an item of a list
abbrev pub comma : (is_first : Bool) → List ℕ
comma true = []
comma false = codes ","

-- each word as a string
abbrev pub names_from : (is_first : Bool) → List Name → List ℕ
names_from is_first [] = []
names_from is_first (word ∷ words) = (comma is_first ++ json_string word) ++ names_from false words

-- each two words in a template
abbrev pub pairs_from : List ℕ → (is_first : Bool) → List Name → List ℕ
pairs_from template is_first [] = []
pairs_from template is_first (first ∷ []) = comma is_first ++ filled template (first ∷ [])
pairs_from template is_first (first ∷ second ∷ words) = (comma is_first ++ filled template (first ∷ second ∷ words)) ++ pairs_from template false words

-- a start goes by `- START`, and comes by `+ START NEIGHBOUR`
abbrev pub goes : Name → Bool
goes mark = bytes_eq mark (codes "-")

-- what these words begin with, in a template, if it has this mark
abbrev pub marked_item : (mark template : List ℕ) → (is_first : Bool) → List Name → List ℕ
marked_item mark template is_first words = if bytes_eq (first_word words) mark then comma is_first ++ filled template words else []

-- no word with this mark was before, and this one has another
abbrev pub is_still_first : (mark : List ℕ) → (is_first : Bool) → Name → Bool
is_still_first mark is_first word = is_first && not (bytes_eq word mark)

-- the words after a mark and its own
abbrev pub after_mark : Name → List Name → List Name
after_mark mark words = if goes mark then drop 1 words else drop 2 words

-- each `- START` and `+ START NEIGHBOUR` that has this mark, in a template
abbrev pub marked_from : (mark template : List ℕ) → (is_first : Bool) → List Name → List ℕ
marked_from mark template is_first [] = []
marked_from mark template is_first (one ∷ []) = marked_item mark template is_first (one ∷ [])
marked_from mark template is_first (one ∷ two ∷ []) = marked_item mark template is_first (one ∷ two ∷ [])
marked_from mark template is_first (one ∷ two ∷ three ∷ words) =
    marked_item mark template is_first (one ∷ two ∷ three ∷ words)
    ++ (if goes one then marked_from mark template (is_still_first mark is_first one) (three ∷ words) else marked_from mark template (is_still_first mark is_first one) words)

-- the starts that go, and those that come, each with its neighbour
abbrev pub changes_text : List Name → List ℕ
changes_text words =
    (marked_from (codes "-") (codes "~#") true words ++ codes "],\"put\":[") ++ marked_from (codes "+") (codes "~{\"start\":#,\"next\":$}") true words

-- a word `#EPOCH`
abbrev pub opens_segment : Name → Bool
opens_segment word = slice_index_or word 0 0 == 35

-- what is before a word of a row of segments, by the word before it, which is empty for the first
abbrev pub between : Name → Name → List ℕ
between before word =
    if opens_segment word then (if is_empty before then [] else codes "]},") else (if opens_segment before then [] else codes ",")

-- a mark opens a segment, and each other word is a hop of it
abbrev pub segment_word : Name → List ℕ
segment_word word = if opens_segment word then (codes "{\"epoch\":" ++ json_number (drop 1 word)) ++ codes ",\"hops\":[" else json_string word

-- the segments; the last ends with the words
abbrev pub segments_from : Name → List Name → List ℕ
segments_from before [] = if is_empty before then [] else codes "]}"
segments_from before (word ∷ words) = (between before word ++ segment_word word) ++ segments_from word words

-- the words after a line's front, and what ends the line after a list
abbrev pub items_text : Further → List Name → List ℕ
items_text NoMore words = []
items_text Names words = names_from true words ++ codes "]}"
items_text (Pairs template) words = pairs_from template true words ++ codes "]}"
items_text Segments words = segments_from [] words ++ codes "]}"
items_text Changes words = changes_text words ++ codes "]}"

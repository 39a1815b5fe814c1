-- Marks of links, 64 of them in a word.
use Rattle.std.specs.Prelude.{◌≡◌, ◌≢◌, ℕ, ◌+◌, ◌*◌, ◌/◌, ◌%◌, ◌^◌, ◌-◌, ◌<◌, Bool, ◌&&◌, List, [], ◌∷◌, ◌++◌, length, map, replicate, take, drop, slice_index, if◌then◌else◌, ◌==◌}
use Rattle.std.specs.Int.{bit_at}
use Rattle.std.specs.List.{range_with_len}
use Rattle.ir_core.specs.declared.marks.TheConstants.{WORD_LINKS, MARK_WORDS}

-- the mark of a link: one bit of one word
abbrev pub mark_in : List ℕ → ℕ → Bool
mark_in words l = bit_at (slice_index words (l / WORD_LINKS)) (l % WORD_LINKS) == 1

-- the marks that words hold, by link
unfoldable pub marks_in : List ℕ → List Bool
marks_in words = map (mark_in words) (range_with_len 0 (WORD_LINKS * length words))

-- there are as many words as mark all links
abbrev pub AreWords : List ℕ → Type 0
AreWords words = (length words ≡ MARK_WORDS) × ((k : ℕ) → slice_index words k < 2 ^ WORD_LINKS)

-- the number that has these bits, the lowest first
abbrev pub number_in : List Bool → ℕ
number_in [] = 0
number_in (b ∷ bits) = (if b then 1 else 0) + 2 * number_in bits

-- the words that hold these marks
unfoldable pub words_in : List Bool → List ℕ
words_in marks = map (λ j. number_in (take WORD_LINKS (drop (WORD_LINKS * j) marks))) (range_with_len 0 MARK_WORDS)

-- place by place, whether both lists say so
abbrev pub both : List Bool → List Bool → List Bool
both [] ys = []
both (x ∷ xs) [] = []
both (x ∷ xs) (y ∷ ys) = (x && y) ∷ both xs ys

-- a word of links that are all up
abbrev pub word_up : ℕ
word_up = 2 ^ WORD_LINKS - 1

-- as many words as mark all links, where the links after the given words are up
abbrev pub with_rest_up : List ℕ → List ℕ
with_rest_up words = words ++ replicate (MARK_WORDS - length words) word_up

-- in the last word, if there is one, some link is down
abbrev pub EndsDown : List ℕ → Type 0
EndsDown words = (k : ℕ) → length words ≡ k + 1 → slice_index words k ≢ word_up

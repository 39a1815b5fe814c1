-- What is at each place of a level, and which word each place of a row has.
use Rattle.std.proofs.Common.{◌≡◌, ℕ, zero, suc, ◌+◌, ◌-◌, ◌*◌, ◌<◌, ◌≤◌, List, [], ◌∷◌, ◌++◌, length, get_or, map, refl, sym, ap, ◌∙◌, subst, inl, inr, arith, add-one, Bool, true, false, cond, eqb}
use Rattle.std.specs.Prelude.{slice_index}
use Rattle.std.proofs.lemmas.Bool.{cases_lt}
use Rattle.std.proofs.lemmas.List.{append-nil, append_assoc, get_or_append_left, get_or_push, length_push}
use Rattle.ir_model.specs.Row.{Start, labels, start_ports}
use Rattle.ir_lines.specs.Words.{start_word, no_word, from_zero, row_word, level}

pub length-level : (f : ℕ → ℕ) (stride count : ℕ) → length (level f stride count) ≡ count
unfolding level
length-level f stride zero = refl
length-level f stride (suc count) = omega (arith, length_push (level f stride count) (f (stride * count)), length-level f stride count)

pub get_or-level : (f : ℕ → ℕ) (stride count i : ℕ) → i < count → get_or (level f stride count) i 0 ≡ f (stride * i)
unfolding level
get_or-level f stride zero i h = absurd (omega arith)
get_or-level f stride (suc count) i h =
    let len = length-level f stride count in
    elim (cases_lt i count) [
      | inl lt ↦ get_or_append_left (level f stride count) (f (stride * count) ∷ []) 0 i (omega arith) ∙ get_or-level f stride count i lt
      | inr ge ↦ let e : count ≡ i = omega arith in get_or_push (level f stride count) (f (stride * count)) 0 i (len ∙ e) ∙ ap (λ (x : ℕ). f (stride * x)) e
    ]

pub level_none : (f : ℕ → ℕ) (stride : ℕ) (xs : List ℕ) → xs ≡ xs ++ level f stride 0
unfolding level
level_none f stride xs = sym (append-nil xs)

pub level_more : (f : ℕ → ℕ) (stride i : ℕ) (xs ys : List ℕ) → ys ≡ xs ++ level f stride i → ys ++ f (stride * i) ∷ [] ≡ xs ++ level f stride (i + 1)
unfolding level
level_more f stride i xs ys e =
    rw add-one (ap (λ (zs : List ℕ). zs ++ f (stride * i) ∷ []) e ∙ append_assoc xs (level f stride i) (f (stride * i) ∷ []))

-- the start that goes before a row which has none at the label 0, and the row with it or without
abbrev pub turned : Start → List Start → Start
turned s rest = record { label = 0; port = slice_index (start_ports (s ∷ rest)) (length rest) }

abbrev pub padded : Bool → Start → List Start → List Start
padded b s rest = cond b (s ∷ rest) (turned s rest ∷ s ∷ rest)

-- the word of the start at a place
pub word_of_place : (row : List Start) (k : ℕ) → k < length row
    → get_or (labels row) k 0 * 65536 + get_or (start_ports row) k 0 ≡ get_or (map start_word row) k no_word
word_of_place [] k h = absurd (omega arith)
word_of_place (s ∷ rest) zero h = refl
word_of_place (s ∷ rest) (suc k) h = word_of_place rest k (omega arith)

word_by : (b : Bool) (s : Start) (rest : List Start) (k before : ℕ) → length (s ∷ rest) + before ≡ length (padded b s rest)
    → before ≤ k → k < length (padded b s rest)
    → get_or (labels (s ∷ rest)) (k - before) 0 * 65536 + get_or (start_ports (s ∷ rest)) (k - before) 0 ≡ get_or (map start_word (padded b s rest)) k no_word
word_by true s rest k before e le lt =
    let same : k ≡ k - before = omega arith in
    subst (λ (j : ℕ). get_or (labels (s ∷ rest)) j 0 * 65536 + get_or (start_ports (s ∷ rest)) j 0 ≡ get_or (map start_word (s ∷ rest)) k no_word) same
    (word_of_place (s ∷ rest) k lt)
word_by false s rest zero before e le lt = absurd (omega arith)
word_by false s rest (suc k) before e le lt =
    let same : k ≡ suc k - before = omega arith in
    subst (λ (j : ℕ). get_or (labels (s ∷ rest)) j 0 * 65536 + get_or (start_ports (s ∷ rest)) j 0 ≡ get_or (map start_word (s ∷ rest)) k no_word) same
    (word_of_place (s ∷ rest) k (omega arith))

pub word_in : (row : List Start) (k before : ℕ) → length row + before ≡ length (from_zero row) → before ≤ k → k < length (from_zero row)
    → get_or (labels row) (k - before) 0 * 65536 + get_or (start_ports row) (k - before) 0 ≡ row_word row k
word_in [] k before e le lt = absurd (omega arith)
word_in (s ∷ rest) k before e le lt = word_by (eqb s.label 0) s rest k before e le lt

-- a row has no more starts than words
longer_by : (b : Bool) (s : Start) (rest : List Start) → length (s ∷ rest) ≤ length (padded b s rest)
longer_by true s rest = omega arith
longer_by false s rest = omega arith

pub longer : (row : List Start) → length row ≤ length (from_zero row)
longer [] = omega arith
longer (s ∷ rest) = longer_by (eqb s.label 0) s rest

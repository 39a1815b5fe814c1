-- Marks of links in words: what is at a link, and that marks give their words back.
use Rattle.std.proofs.Common.{◌≡◌, ℕ, zero, suc, ◌+◌, ◌-◌, ◌*◌, ◌/◌, ◌%◌, ◌^◌, ◌<◌, Bool, true, false, cond, eqb, List, [], ◌∷◌, length, get_or, take, drop, refl, sym, ap, subst, ◌∙◌, arith, lit<, pow-suc}
use Rattle.std.specs.Int.{bit_at}
use Rattle.std.proofs.lemmas.List.{ext_get_or, length-take-le, length-drop, get_or-take, get_or-drop}
use Rattle.std.proofs.lemmas.List.FromFn.{length-map-range_with_len, get_or-map-range_with_len}
use Rattle.std.proofs.lemmas.Nat.Bits.{bit_at-suc, bit_at_lowest, bit_at-zero, bit_at-lt, same_from_bits_below}
use Rattle.ir_core.specs.Marks.{mark_in, marks_in, words_in, number_in, AreWords}
use Rattle.ir_core.specs.declared.marks.TheConstants.{WORD_LINKS, MARK_WORDS}

abbrev bit_of : Bool → ℕ
bit_of b = cond b 1 0

pub length-marks_in : (words : List ℕ) → length (marks_in words) ≡ WORD_LINKS * length words
unfolding marks_in
length-marks_in words = length-map-range_with_len (mark_in words) 0 (WORD_LINKS * length words)

pub get_or-marks_in : (words : List ℕ) (l : ℕ) (d : Bool) → l < WORD_LINKS * length words → get_or (marks_in words) l d ≡ mark_in words l
unfolding marks_in
get_or-marks_in words l d h = get_or-map-range_with_len (mark_in words) 0 (WORD_LINKS * length words) l l d h (omega arith)

number-lt : (bits : List Bool) → number_in bits < 2 ^ length bits
number-lt [] = lit< tt
number-lt (true ∷ bits) = rw pow-suc (let h = number-lt bits in omega (arith, h))
number-lt (false ∷ bits) = rw pow-suc (let h = number-lt bits in omega (arith, h))

number-lt_at : (bits : List Bool) (n : ℕ) → length bits ≡ n → number_in bits < 2 ^ n
number-lt_at bits n e = subst (λ (k : ℕ). number_in bits < 2 ^ k) e (number-lt bits)

bit_at-number : (bits : List Bool) (i : ℕ) → bit_at (number_in bits) i ≡ bit_of (get_or bits i false)
bit_at-number [] i = bit_at-zero i
bit_at-number (true ∷ bits) zero = bit_at_lowest (number_in (true ∷ bits)) ∙ omega arith
bit_at-number (false ∷ bits) zero = bit_at_lowest (number_in (false ∷ bits)) ∙ omega arith
bit_at-number (true ∷ bits) (suc i) =
    let half : (1 + 2 * number_in bits) / 2 ≡ number_in bits = omega arith in
    bit_at-suc (1 + 2 * number_in bits) i ∙ ap (λ (n : ℕ). bit_at n i) half ∙ bit_at-number bits i
bit_at-number (false ∷ bits) (suc i) =
    let half : (0 + 2 * number_in bits) / 2 ≡ number_in bits = omega arith in
    bit_at-suc (0 + 2 * number_in bits) i ∙ ap (λ (n : ℕ). bit_at n i) half ∙ bit_at-number bits i

-- a bit is the number of its mark
bit-mark : (n : ℕ) → n < 2 → bit_of (eqb n 1) ≡ n
bit-mark zero h = refl
bit-mark (suc zero) h = refl
bit-mark (suc (suc n)) h = absurd (omega arith)

-- the word that these marks give back
word_at : (words : List ℕ) → AreWords words → (j : ℕ) → j < MARK_WORDS → number_in (take WORD_LINKS (drop (WORD_LINKS * j) (marks_in words))) ≡ get_or words j 0
word_at words h j lt =
    let marks = marks_in words in
    let long = length-marks_in words in
    let all = h.0 in
    let rest : length (drop (WORD_LINKS * j) marks) ≡ length marks - WORD_LINKS * j = length-drop (WORD_LINKS * j) marks in
    let many : length (take WORD_LINKS (drop (WORD_LINKS * j) marks)) ≡ WORD_LINKS = length-take-le WORD_LINKS (drop (WORD_LINKS * j) marks) (omega (arith, long, rest)) in
    same_from_bits_below WORD_LINKS (number_in (take WORD_LINKS (drop (WORD_LINKS * j) marks))) (get_or words j 0) (number-lt_at (take WORD_LINKS (drop (WORD_LINKS * j) marks)) WORD_LINKS many) (h.1 j)
    (λ i below.
    let place : (WORD_LINKS * j + i) / WORD_LINKS ≡ j = omega arith in
    let bit : (WORD_LINKS * j + i) % WORD_LINKS ≡ i = omega arith in
    bit_at-number (take WORD_LINKS (drop (WORD_LINKS * j) marks)) i
    ∙ ap bit_of (get_or-take WORD_LINKS (drop (WORD_LINKS * j) marks) i false below ∙ get_or-drop (WORD_LINKS * j) marks i false ∙ get_or-marks_in words (WORD_LINKS * j + i) false (omega (arith, long)))
    ∙ ap (λ (k : ℕ). bit_of (eqb (bit_at (get_or words k 0) ((WORD_LINKS * j + i) % WORD_LINKS)) 1)) place
    ∙ ap (λ (k : ℕ). bit_of (eqb (bit_at (get_or words j 0) k) 1)) bit
    ∙ bit-mark (bit_at (get_or words j 0) i) (bit_at-lt (get_or words j 0) i))

length-words_in : (marks : List Bool) → length (words_in marks) ≡ MARK_WORDS
unfolding words_in
length-words_in marks = length-map-range_with_len (λ j. number_in (take WORD_LINKS (drop (WORD_LINKS * j) marks))) 0 MARK_WORDS

get_or-words_in : (marks : List Bool) (j : ℕ) → j < MARK_WORDS → get_or (words_in marks) j 0 ≡ number_in (take WORD_LINKS (drop (WORD_LINKS * j) marks))
unfolding words_in
get_or-words_in marks j h = get_or-map-range_with_len (λ k. number_in (take WORD_LINKS (drop (WORD_LINKS * k) marks))) 0 MARK_WORDS j j 0 h (omega arith)

pub words_in-marks_in : (words : List ℕ) → AreWords words → words_in (marks_in words) ≡ words
words_in-marks_in words h =
    let n = length-words_in (marks_in words) in
    ext_get_or 0 (words_in (marks_in words)) words (length-words_in (marks_in words) ∙ sym h.0)
    (λ j lt. get_or-words_in (marks_in words) j (omega arith) ∙ word_at words h j (omega arith))

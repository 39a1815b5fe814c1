-- Marks of links in words: the mark that a shifted word gives, and what a changed word leaves.
use Rattle.std.proofs.Common.{◌≡◌, ◌≢◌, ℕ, ◌-◌, ◌*◌, ◌/◌, ◌%◌, ◌^◌, ◌<◌, ◌≤◌, Bool, true, false, eqb, List, length, get_or, set, replicate, refl, sym, ap, subst, ◌∙◌, arith, lit<, ◌⊎◌, inl, inr}
use Rattle.std.specs.Prelude.{bit_and, bit_or}
use Rattle.std.specs.Int.{w64, bit_at, bit_not}
use Rattle.std.proofs.lemmas.Bool.{cases_eq, cases_lt}
use Rattle.std.proofs.lemmas.List.{ext_get_or, get_or_past, length-set, length-replicate, get_or-replicate, get_or-set_same, get_or-set_other, length-append, get_or_append_left, get_or-append_right}
use Rattle.std.proofs.lemmas.Nat.Bits.{shr_and_one, bit_at_ones, bit_at_set_same, bit_at_set_other, bit_at_clear_same, bit_at_clear_other}
use Rattle.std.proofs.lemmas.Nat.{or_lt, and_le_l}
use Rattle.ir_core.specs.declared.TheConstants.{MAX_LINKS}
use Rattle.ir_core.specs.declared.marks.TheConstants.{WORD_LINKS, MARK_WORDS}
use Rattle.ir_core.specs.Marks.{mark_in, marks_in, word_up, with_rest_up, AreWords}
use Rattle.ir_core.specs.MarkLaws.{length-marks_in, get_or-marks_in}

-- words of ones mark all links up
pub all_ones : (words : List ℕ) → AreWords words → ((k : ℕ) → k < MARK_WORDS → get_or words k 0 ≡ 2 ^ WORD_LINKS - 1) → marks_in words ≡ replicate MAX_LINKS true
all_ones words h ones =
    let n = length-marks_in words in
    let m = length-replicate MAX_LINKS true in
    ext_get_or true (marks_in words) (replicate MAX_LINKS true) (omega (arith, n, m, h.0))
    (λ l lt.
    get_or-marks_in words l true (omega (arith, n))
    ∙ ap (λ (w : ℕ). eqb (bit_at w (l % WORD_LINKS)) 1) (ones (l / WORD_LINKS) (omega (arith, n, h.0)))
    ∙ ap (λ (b : ℕ). eqb b 1) (bit_at_ones WORD_LINKS (l % WORD_LINKS) (omega arith))
    ∙ sym (get_or-replicate MAX_LINKS l true true (omega (arith, n, h.0))))

-- the mark of a link, as a shift and a mask give it
pub mark_read : (words : List ℕ) (l : ℕ) → AreWords words → l < MAX_LINKS → eqb (bit_and (get_or words (l / WORD_LINKS) 0 / 2 ^ (l % WORD_LINKS)) 1) 1 ≡ get_or (marks_in words) l true
mark_read words l h lt =
    ap (λ (b : ℕ). eqb b 1) (shr_and_one (get_or words (l / WORD_LINKS) 0) (l % WORD_LINKS)) ∙ sym (get_or-marks_in words l true (omega (arith, h.0)))

-- a word whose bit for a link is the mark, and whose other bits are those of the word that it replaces
pub record MarksIn (word word' l : ℕ) (up : Bool) : Type 0 where
  pub fits : word' < 2 ^ WORD_LINKS
  pub here : eqb (bit_at word' (l % WORD_LINKS)) 1 ≡ up
  pub others : (i : ℕ) → i < WORD_LINKS → i ≢ l % WORD_LINKS → bit_at word' i ≡ bit_at word i

pub marked_words : (words : List ℕ) (l word' : ℕ) (up : Bool) → AreWords words → l < MAX_LINKS → MarksIn (get_or words (l / WORD_LINKS) 0) word' l up → marks_in (set words (l / WORD_LINKS) word') ≡ set (marks_in words) l up
marked_words words l word' up h lt is =
    let new = set words (l / WORD_LINKS) word' in
    let n = length-marks_in words in
    let m = length-marks_in (set words (l / WORD_LINKS) word') in
    let same = length-set words (l / WORD_LINKS) word' in
    let after = length-set (marks_in words) l up in
    let inside : l / WORD_LINKS < length words = omega (arith, h.0) in
    let at : (k : ℕ) → k < WORD_LINKS * length words → get_or (marks_in new) k true ≡ mark_in new k =
    λ k below. get_or-marks_in new k true (omega (arith, same)) in
    let elsewhere : (k : ℕ) → k < WORD_LINKS * length words → k ≢ l → mark_in new k ≡ mark_in words k =
    λ k below ne. elim (cases_eq (k / WORD_LINKS) (l / WORD_LINKS)) [
      | inl e ↦
          ap (λ (w : ℕ). eqb (bit_at (get_or new w 0) (k % WORD_LINKS)) 1) e
          ∙ ap (λ (w : ℕ). eqb (bit_at w (k % WORD_LINKS)) 1) (get_or-set_same words (l / WORD_LINKS) word' 0 inside)
          ∙ ap (λ (b : ℕ). eqb b 1) (is.others (k % WORD_LINKS) (omega arith) (omega (arith, e)))
          ∙ ap (λ (w : ℕ). eqb (bit_at (get_or words w 0) (k % WORD_LINKS)) 1) (sym e)
      | inr other ↦ ap (λ (w : ℕ). eqb (bit_at w (k % WORD_LINKS)) 1) (get_or-set_other words (l / WORD_LINKS) (k / WORD_LINKS) word' 0 other)
    ] in
    ext_get_or true (marks_in new) (set (marks_in words) l up) (omega (arith, n, m, same, after))
    (λ k below. elim (cases_eq k l) [
      | inl e ↦
          ap (λ (j : ℕ). get_or (marks_in new) j true) e ∙ at l (omega (arith, h.0))
          ∙ ap (λ (w : ℕ). eqb (bit_at w (l % WORD_LINKS)) 1) (get_or-set_same words (l / WORD_LINKS) word' 0 inside) ∙ is.here
          ∙ sym (get_or-set_same (marks_in words) l up true (omega (arith, n, h.0)))
          ∙ ap (λ (j : ℕ). get_or (set (marks_in words) l up) j true) (sym e)
      | inr ne ↦
          at k (omega (arith, m, same)) ∙ elsewhere k (omega (arith, m, same)) ne
          ∙ sym (get_or-marks_in words k true (omega (arith, m, same)))
          ∙ sym (get_or-set_other (marks_in words) l k up true ne)
    ])

ones_fit : (n k : ℕ) → get_or (replicate n word_up) k 0 < 2 ^ WORD_LINKS
ones_fit n k = elim (cases_lt k n) [
  | inl lt ↦ rw (get_or-replicate n k word_up 0 lt) (lit< tt)
  | inr ge ↦ rw (get_or_past (replicate n word_up) k 0 (omega (arith, length-replicate n word_up))) (lit< tt)
]

pub ones_are_words : AreWords (replicate MARK_WORDS word_up)
ones_are_words = (length-replicate MARK_WORDS word_up, ones_fit MARK_WORDS)

-- words whose rest is up
pub rest_up_words : (words : List ℕ) → length words ≤ MARK_WORDS → ((k : ℕ) → get_or words k 0 < 2 ^ WORD_LINKS) → AreWords (with_rest_up words)
rest_up_words words few fit = (
  (let n = length-append words rest in let m = length-replicate (MARK_WORDS - length words) word_up in omega (arith, n, m)),
  λ k. elim (cases_lt k (length words)) [
    | inl lt ↦ rw (get_or_append_left words rest 0 k lt) (fit k)
    | inr ge ↦ rw (get_or-append_right words rest (length words) k 0 refl ge) (ones_fit (MARK_WORDS - length words) (k - length words))
  ],
)
  where
    rest : List ℕ
    rest = replicate (MARK_WORDS - length words) word_up

-- a word is replaced by one that fits
still_words : (words : List ℕ) (i word : ℕ) → AreWords words → i < MARK_WORDS → word < 2 ^ WORD_LINKS → AreWords (set words i word)
still_words words i word h inside lt = (
  length-set words i word ∙ h.0,
  λ k. elim (cases_eq k i) [
    | inl e ↦ subst (λ (j : ℕ). get_or (set words i word) j 0 < 2 ^ WORD_LINKS) (sym e) (rw (get_or-set_same words i word 0 (omega (arith, h.0))) lt)
    | inr ne ↦ rw (get_or-set_other words i k word 0 ne) (h.1 k)
  ],
)

-- a word with the link's bit set, and with it cleared
pub set_in : (word l : ℕ) → word < 2 ^ WORD_LINKS → MarksIn word (bit_or word (1 * 2 ^ (l % WORD_LINKS) % 2 ^ WORD_LINKS)) l true
set_in word l lt = record {
  fits = or_lt WORD_LINKS word (1 * 2 ^ (l % WORD_LINKS) % 2 ^ WORD_LINKS) lt (omega arith);
  here = ap (λ (b : ℕ). eqb b 1) (bit_at_set_same w64 word (l % WORD_LINKS) (omega arith));
  others = λ i below ne. bit_at_set_other w64 word (l % WORD_LINKS) (omega arith) i ne;
}

pub cleared_in : (word l : ℕ) → word < 2 ^ WORD_LINKS → MarksIn word (bit_and word (bit_not w64 (1 * 2 ^ (l % WORD_LINKS) % 2 ^ WORD_LINKS))) l false
cleared_in word l lt = record {
  fits = (let le = and_le_l word (bit_not w64 (1 * 2 ^ (l % WORD_LINKS) % 2 ^ WORD_LINKS)) in omega (arith, le));
  here = ap (λ (b : ℕ). eqb b 1) (bit_at_clear_same w64 word (l % WORD_LINKS) (omega arith));
  others = λ i below ne. bit_at_clear_other w64 word (l % WORD_LINKS) (omega arith) i below ne;
}

-- The word of a link with its bit set or cleared marks the link up or down.
pub marked_as : (words : List ℕ) (l word' : ℕ) (up : Bool) → AreWords words → l < MAX_LINKS
    → ((up ≡ true) × (word' ≡ bit_or (get_or words (l / WORD_LINKS) 0) (1 * 2 ^ (l % WORD_LINKS) % 2 ^ WORD_LINKS)))
    ⊎ ((up ≡ false) × (word' ≡ bit_and (get_or words (l / WORD_LINKS) 0) (bit_not w64 (1 * 2 ^ (l % WORD_LINKS) % 2 ^ WORD_LINKS))))
    → AreWords (set words (l / WORD_LINKS) word') × (marks_in (set words (l / WORD_LINKS) word') ≡ set (marks_in words) l up)
marked_as words l word' up h lt by = (still_words words (l / WORD_LINKS) word' h (omega arith) (is by).fits, marked_words words l word' up h lt (is by))
  where
    is : ((up ≡ true) × (word' ≡ bit_or (get_or words (l / WORD_LINKS) 0) (1 * 2 ^ (l % WORD_LINKS) % 2 ^ WORD_LINKS)))
        ⊎ ((up ≡ false) × (word' ≡ bit_and (get_or words (l / WORD_LINKS) 0) (bit_not w64 (1 * 2 ^ (l % WORD_LINKS) % 2 ^ WORD_LINKS))))
        → MarksIn (get_or words (l / WORD_LINKS) 0) word' l up
    is (inl k) = rw (k.0, k.1) (set_in (get_or words (l / WORD_LINKS) 0) l (h.1 (l / WORD_LINKS)))
    is (inr k) = rw (k.0, k.1) (cleared_in (get_or words (l / WORD_LINKS) 0) l (h.1 (l / WORD_LINKS)))

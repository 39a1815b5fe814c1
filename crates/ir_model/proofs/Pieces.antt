-- Lines and words, from the front of a text.
use Rattle.std.proofs.Common.{◌≡◌, ◌<◌, ◌≤◌, ◌+◌, ℕ, zero, suc, Bool, true, false, not, cond, List, [], ◌∷◌, length, take, drop, filter, refl, sym, ap, subst, ◌∙◌, arith, ◌==◌}
use Rattle.std.specs.List.{prefix_len}
use Rattle.std.proofs.Common.{position, unwrap_or, nat_lt, Some, None}
use Rattle.std.proofs.lemmas.Bool.{ltb-false}
use Rattle.std.proofs.lemmas.List.{nil_from_length, length-drop}
use Rattle.std.proofs.Math.Seq.{take-nil}
use Rattle.ir_model.specs.Graph.{Name}
use Rattle.ir_model.specs.Text.{lines, pieces, onto_first, is_blank, is_empty, words_of}

module _ (p : ℕ → Bool) where
  pub stops : (b : ℕ) (bs : List ℕ) → prefix_len p (b ∷ bs) ≡ 0 → p b ≡ false
  stops b bs e = by (p b) e
    where
      by : (t : Bool) → cond t (1 + prefix_len p bs) 0 ≡ 0 → t ≡ false
      by true e = absurd (omega (arith, e))
      by false e = refl

  pub goes_on : (b : ℕ) (bs : List ℕ) (n : ℕ) → prefix_len p (b ∷ bs) ≡ suc n → (p b ≡ true) × (prefix_len p bs ≡ n)
  goes_on b bs n e = by (p b) e
    where
      by : (t : Bool) → cond t (1 + prefix_len p bs) 0 ≡ suc n → (t ≡ true) × (prefix_len p bs ≡ n)
      by true e = (refl, omega (arith, e))
      by false e = absurd (omega (arith, e))

  pub rest_stops : (bs : List ℕ) (n : ℕ) → prefix_len p bs ≡ n → prefix_len p (drop n bs) ≡ 0
  rest_stops [] zero e = refl
  rest_stops [] (suc n) e = refl
  rest_stops (b ∷ bs) zero e = e
  rest_stops (b ∷ bs) (suc n) e = rest_stops bs n (goes_on b bs n e).1

pub not-true-false : (t : Bool) → not t ≡ false → t ≡ true
not-true-false true h = refl
not-true-false false h = sym h

pub not-false-true : (t : Bool) → not t ≡ true → t ≡ false
not-false-true true h = sym h
not-false-true false h = refl

pub lines_at : (bs : List ℕ) (n : ℕ) → prefix_len (λ b. not (b == 10)) bs ≡ n → 0 < length bs → lines bs ≡ take n bs ∷ lines (drop (suc n) bs)
lines_at [] n e h = absurd (omega arith)
lines_at (b ∷ bs) zero e h = ap (λ t. cond t ([] ∷ lines bs) (onto_first b (lines bs))) (not-true-false (b == 10) (stops (λ b. not (b == 10)) b bs e))
lines_at (b ∷ []) (suc n) e h =
    ap (λ t. cond t ([] ∷ []) ((b ∷ []) ∷ [])) (not-false-true (b == 10) (goes_on (λ b. not (b == 10)) b [] n e).0)
    ∙ ap (λ t. (b ∷ t) ∷ []) (sym (take-nil n))
lines_at (b ∷ c ∷ cs) (suc n) e h =
    let on = goes_on (λ b. not (b == 10)) b (c ∷ cs) n e in
    ap (λ t. cond t ([] ∷ lines (c ∷ cs)) (onto_first b (lines (c ∷ cs)))) (not-false-true (b == 10) on.0)
    ∙ ap (onto_first b) (lines_at (c ∷ cs) n on.1 (omega arith))

module _ (test : ℕ → Bool) where
  -- the pieces after the first
  abbrev pub behind : List ℕ → List Name
  behind [] = []
  behind (c ∷ cs) = pieces test cs

  pub pieces_at : (bs : List ℕ) (n : ℕ) → prefix_len (λ b. not (test b)) bs ≡ n → pieces test bs ≡ take n bs ∷ behind (drop n bs)
  pieces_at [] zero e = refl
  pieces_at [] (suc n) e = refl
  pieces_at (b ∷ bs) zero e = ap (λ t. cond t ([] ∷ pieces test bs) (onto_first b (pieces test bs))) (not-true-false (test b) (stops (λ b. not (test b)) b bs e))
  pieces_at (b ∷ bs) (suc n) e =
      let on = goes_on (λ b. not (test b)) b bs n e in
      ap (λ t. cond t ([] ∷ pieces test bs) (onto_first b (pieces test bs))) (not-false-true (test b) on.0)
      ∙ ap (onto_first b) (pieces_at bs n on.1)

words_behind : (bs : List ℕ) → prefix_len (λ b. not (is_blank b)) bs ≡ 0 → filter (λ w. not (is_empty w)) (behind is_blank bs) ≡ words_of bs
words_behind [] e = refl
words_behind (c ∷ cs) e =
    sym (ap (λ t. filter (λ w. not (is_empty w)) (cond t ([] ∷ pieces is_blank cs) (onto_first c (pieces is_blank cs)))) (not-true-false (is_blank c) (stops (λ b. not (is_blank b)) c cs e)))

-- the first word, where no blank is before it
word_first : (bs : List ℕ) (n : ℕ) → prefix_len (λ b. not (is_blank b)) bs ≡ suc n → words_of bs ≡ take (suc n) bs ∷ words_of (drop (suc n) bs)
word_first [] n e = absurd (omega (arith, e))
word_first (b ∷ bs) n e =
    ap (filter (λ w. not (is_empty w))) (pieces_at is_blank (b ∷ bs) (suc n) e)
    ∙ ap (λ t. (b ∷ take n bs) ∷ t) (words_behind (drop n bs) (rest_stops (λ b. not (is_blank b)) (b ∷ bs) (suc n) e))

-- blanks at the front mean nothing
words_skip : (bs : List ℕ) (n : ℕ) → prefix_len is_blank bs ≡ n → words_of (drop n bs) ≡ words_of bs
words_skip bs zero e = refl
words_skip [] (suc n) e = refl
words_skip (b ∷ bs) (suc n) e =
    let on = goes_on is_blank b bs n e in
    words_skip bs n on.1 ∙ sym (ap (λ t. filter (λ w. not (is_empty w)) (cond t ([] ∷ pieces is_blank bs) (onto_first b (pieces is_blank bs)))) on.0)

-- what is left after the blanks begins with a word, or is empty
starts_word : (bs : List ℕ) → prefix_len is_blank bs ≡ 0 → 0 < length bs → 0 < prefix_len (λ b. not (is_blank b)) bs
starts_word [] e h = absurd (omega arith)
starts_word (b ∷ bs) e h =
    let f : prefix_len (λ b. not (is_blank b)) (b ∷ bs) ≡ 1 + prefix_len (λ b. not (is_blank b)) bs = ap (λ t. cond (not t) (1 + prefix_len (λ b. not (is_blank b)) bs) 0) (stops is_blank b bs e) in
    omega (arith, f)

pub next_word_is : (bs : List ℕ) (skip end : ℕ) → prefix_len is_blank bs ≡ skip → 0 < length (drop skip bs) → prefix_len (λ b. not (is_blank b)) (drop skip bs) ≡ end
    → (words_of bs ≡ take end (drop skip bs) ∷ words_of (drop end (drop skip bs))) × (0 < end)
next_word_is bs skip end es h ee = by end ee (subst (λ n. 0 < n) ee (starts_word (drop skip bs) (rest_stops is_blank bs skip es) h))
  where
    by : (n : ℕ) → prefix_len (λ b. not (is_blank b)) (drop skip bs) ≡ n → 0 < n → (words_of bs ≡ take n (drop skip bs) ∷ words_of (drop n (drop skip bs))) × (0 < n)
    by zero e p = absurd (omega arith)
    by (suc n) e p = (sym (words_skip bs skip es) ∙ word_first (drop skip bs) n e, p)

pub no_word_is : (bs : List ℕ) (skip : ℕ) → prefix_len is_blank bs ≡ skip → length (drop skip bs) ≡ 0 → words_of bs ≡ []
no_word_is bs skip e h = sym (words_skip bs skip e) ∙ ap words_of (nil_from_length (drop skip bs) h)

pub prefix_len-le : (p : ℕ → Bool) (bs : List ℕ) → prefix_len p bs ≤ length bs
prefix_len-le p [] = omega arith
prefix_len-le p (b ∷ bs) = elim (p b) as (λ t. cond t (1 + prefix_len p bs) 0 ≤ suc (length bs)) [ true ↦ omega (arith, prefix_len-le p bs) | false ↦ omega arith ]

prefix_len-same : (p q : ℕ → Bool) (bs : List ℕ) → ((b : ℕ) → p b ≡ q b) → prefix_len p bs ≡ prefix_len q bs
prefix_len-same p q [] h = refl
prefix_len-same p q (b ∷ bs) h = ap (λ t. cond t (1 + prefix_len p bs) 0) (h b) ∙ ap (λ n. cond (q b) (1 + n) 0) (prefix_len-same p q bs h)

-- the place of the first, or else the length
pub position-or_length : (p q : ℕ → Bool) (bs : List ℕ) → ((b : ℕ) → not (p b) ≡ q b) → unwrap_or (position p bs) (length bs) ≡ prefix_len q bs
position-or_length p q bs h = by (nat_lt (prefix_len (λ b. not (p b)) bs) (length bs)) refl ∙ prefix_len-same (λ b. not (p b)) q bs h
  where
    by : (t : Bool) → nat_lt (prefix_len (λ b. not (p b)) bs) (length bs) ≡ t → unwrap_or (cond t (Some (prefix_len (λ b. not (p b)) bs)) None) (length bs) ≡ prefix_len (λ b. not (p b)) bs
    by true e = refl
    by false e = omega (arith, ltb-false _ _ e, prefix_len-le (λ b. not (p b)) bs)

pub not_not : (t : Bool) → not (not t) ≡ t
not_not true = refl
not_not false = refl

pub next_word_from : (bs rest after : List ℕ) (skip end : ℕ) → rest ≡ drop skip bs → after ≡ drop end rest → prefix_len is_blank bs ≡ skip → 0 < length rest → prefix_len (λ b. not (is_blank b)) rest ≡ end
    → (words_of bs ≡ take end rest ∷ words_of after) × (length after < length bs)
next_word_from bs rest after skip end er ea es h ee =
    let found = next_word_is bs skip end es (subst (λ r. 0 < length r) er h) (ap (prefix_len (λ b. not (is_blank b))) (sym er) ∙ ee) in (
      found.0 ∙ ap (λ r. take end r ∷ words_of (drop end r)) (sym er) ∙ ap (λ t. take end rest ∷ words_of t) (sym ea),
      omega (arith, found.1, ap length ea, length-drop end rest, ap length er, length-drop skip bs),
    )

-- The words of a line without a bad byte are names, where none is too long.
use Rattle.std.proofs.Common.{◌≡◌, ◌<◌, ◌≤◌, ◌+◌, ℕ, zero, suc, Bool, true, false, not, cond, List, [], ◌∷◌, length, take, filter, refl, ap, subst, arith, ◌==◌, ◌&&◌, ◌||◌, nat_le}
use Rattle.std.proofs.Common.{get_or, IsAscii, IsUtf8, Result, Ok, Err, is_ok, MatchResult}
use Rattle.std.proofs.lemmas.Str.{IsUtf8-from_ascii}
use Rattle.std.specs.List.{prefix_len, list_all}
use Rattle.std.proofs.lemmas.Bool.{and_parts, and_from, leb-true, le-leb}
use Rattle.ir_model.specs.declared.TheConstants.{MAX_NAME_BYTES}
use Rattle.ir_model.specs.Graph.{Name, is_name, is_name_byte}
use Rattle.ir_model.specs.Text.{pieces, onto_first, is_blank, is_empty, is_plain, words_of, content}

module _ {X : Type 0} where
  pub list_all-both : (p q : X → Bool) (xs : List X) → list_all p xs ≡ true → list_all q xs ≡ true → list_all (λ x. p x && q x) xs ≡ true
  list_all-both p q [] hp hq = refl
  list_all-both p q (x ∷ xs) hp hq =
      let a = and_parts (p x) (list_all p xs) hp in
      let b = and_parts (q x) (list_all q xs) hq in
      and_from _ _ (and_from _ _ a.0 b.0) (list_all-both p q xs a.1 b.1)

  pub list_all-imp : (p q : X → Bool) → ((x : X) → p x ≡ true → q x ≡ true) → (xs : List X) → list_all p xs ≡ true → list_all q xs ≡ true
  list_all-imp p q h [] hp = refl
  list_all-imp p q h (x ∷ xs) hp = let a = and_parts (p x) (list_all p xs) hp in and_from _ _ (h x a.0) (list_all-imp p q h xs a.1)

  pub list_all-filter : (p q : X → Bool) (xs : List X) → list_all p xs ≡ true → list_all (λ x. p x && q x) (filter q xs) ≡ true
  list_all-filter p q [] hp = refl
  list_all-filter p q (x ∷ xs) hp = let a = and_parts (p x) (list_all p xs) hp in by a.0 (list_all-filter p q xs a.1) (q x) refl
    where
      by : p x ≡ true → list_all (λ x. p x && q x) (filter q xs) ≡ true → (b : Bool) → q x ≡ b → list_all (λ x. p x && q x) (cond b (x ∷ filter q xs) (filter q xs)) ≡ true
      by px later true e = and_from _ _ (and_from _ _ px e) later
      by px later false e = later

  list_all-front : (p : X → Bool) (xs : List X) (n : ℕ) → prefix_len p xs ≡ n → list_all p (take n xs) ≡ true
  list_all-front p [] zero e = refl
  list_all-front p [] (suc n) e = refl
  list_all-front p (x ∷ xs) zero e = refl
  list_all-front p (x ∷ xs) (suc n) e = by (list_all-front p xs n) (p x) refl e
    where
      by : (prefix_len p xs ≡ n → list_all p (take n xs) ≡ true) → (b : Bool) → p x ≡ b → cond b (1 + prefix_len p xs) 0 ≡ suc n → (p x && list_all p (take n xs)) ≡ true
      by later true t e = and_from _ _ t (later (omega (arith, e)))
      by later false t e = absurd (omega (arith, e))

-- the bytes of the pieces are bytes of the whole, and no blanks
pieces_all : (q : ℕ → Bool) (bs : List ℕ) → list_all q bs ≡ true → list_all (λ (w : Name). list_all (λ b. q b && not (is_blank b)) w) (pieces is_blank bs) ≡ true
pieces_all q [] h = refl
pieces_all q (b ∷ bs) h = let a = and_parts (q b) (list_all q bs) h in by a.0 (pieces_all q bs a.1) (is_blank b) refl
  where
    onto : (ps : List Name) → q b ≡ true → is_blank b ≡ false → list_all (λ (w : Name). list_all (λ b. q b && not (is_blank b)) w) ps ≡ true → list_all (λ (w : Name). list_all (λ b. q b && not (is_blank b)) w) (onto_first b ps) ≡ true
    onto [] qb e hs = and_from _ _ (and_from _ _ (and_from _ _ qb (ap not e)) refl) refl
    onto (p ∷ ps) qb e hs =
        let a = and_parts (list_all (λ b. q b && not (is_blank b)) p) (list_all (λ (w : Name). list_all (λ b. q b && not (is_blank b)) w) ps) hs in
        and_from _ _ (and_from _ _ (and_from _ _ qb (ap not e)) a.0) a.1

    by : q b ≡ true → list_all (λ (w : Name). list_all (λ b. q b && not (is_blank b)) w) (pieces is_blank bs) ≡ true → (t : Bool) → is_blank b ≡ t → list_all (λ (w : Name). list_all (λ b. q b && not (is_blank b)) w) (cond t ([] ∷ pieces is_blank bs) (onto_first b (pieces is_blank bs))) ≡ true
    by qb later true e = later
    by qb later false e = onto (pieces is_blank bs) qb e later

name_byte : (b : ℕ) → (is_plain b && not (b == 35) && not (is_blank b)) ≡ true → is_name_byte b ≡ true
name_byte b h = by (is_blank b) (nat_le 33 b) (nat_le b 126) (b == 35) h
  where
    by : (k l m s : Bool) → ((k || l && m) && not s && not k) ≡ true → (l && m && not s) ≡ true
    by true l m true h = cc
    by true l m false h = cc
    by false true true true h = h
    by false true true false h = h
    by false true false s h = h
    by false false m s h = h

-- a word is a name
word_named : (w : Name) → (list_all (λ b. is_plain b && not (b == 35) && not (is_blank b)) w && not (is_empty w) && nat_le (length w) MAX_NAME_BYTES) ≡ true → is_name w ≡ true
word_named [] h = cc
word_named (b ∷ bs) h =
    let a = and_parts _ _ h in
    let c = and_parts (list_all (λ b. is_plain b && not (b == 35) && not (is_blank b)) (b ∷ bs)) true a.0 in
    and_from _ _ (and_from _ _ (le-leb 1 (suc (length bs)) (omega arith)) a.1) (list_all-imp _ is_name_byte name_byte (b ∷ bs) c.0)

-- a word as it is in a line without a bad byte
abbrev is_spelled : Name → Bool
is_spelled w = list_all (λ b. is_plain b && not (b == 35) && not (is_blank b)) w && not (is_empty w)

words_spelled : (line : List ℕ) → list_all is_plain (content line) ≡ true → list_all is_spelled (words_of (content line)) ≡ true
words_spelled line plain =
    let bytes = list_all-both is_plain (λ b. not (b == 35)) (content line) plain (list_all-front (λ b. not (b == 35)) line (prefix_len (λ b. not (b == 35)) line) refl) in
    list_all-filter _ (λ w. not (is_empty w)) (pieces is_blank (content line)) (pieces_all (λ b. is_plain b && not (b == 35)) (content line) bytes)

pub words_named : (line : List ℕ) → list_all is_plain (content line) ≡ true → list_all (λ (w : Name). nat_le (length w) MAX_NAME_BYTES) (words_of (content line)) ≡ true → list_all is_name (words_of (content line)) ≡ true
words_named line plain short =
    list_all-imp _ is_name word_named (words_of (content line)) (list_all-both is_spelled (λ (w : Name). nat_le (length w) MAX_NAME_BYTES) (words_of (content line)) (words_spelled line plain) short)

-- the first two words of such a line
module _ (line : List ℕ) (plain : list_all is_plain (content line) ≡ true) where
  pub first_named : (u : Name) (ws : List Name) → words_of (content line) ≡ u ∷ ws → length u ≤ MAX_NAME_BYTES → is_name u ≡ true
  first_named u ws e h =
      let spelled : list_all is_spelled (u ∷ ws) ≡ true = subst (λ ws. list_all is_spelled ws ≡ true) e (words_spelled line plain) in
      word_named u (and_from _ _ (and_parts (is_spelled u) (list_all is_spelled ws) spelled).0 (le-leb _ _ h))

  pub second_named : (u v : Name) (ws : List Name) → words_of (content line) ≡ u ∷ v ∷ ws → length v ≤ MAX_NAME_BYTES → is_name v ≡ true
  second_named u v ws e h =
      let spelled : list_all is_spelled (u ∷ v ∷ ws) ≡ true = subst (λ ws. list_all is_spelled ws ≡ true) e (words_spelled line plain) in
      let behind = and_parts (is_spelled u) (list_all is_spelled (v ∷ ws)) spelled in
      word_named v (and_from _ _ (and_parts (is_spelled v) (list_all is_spelled ws) behind.1).0 (le-leb _ _ h))

ascii_bytes : (w : Name) → list_all is_name_byte w ≡ true → IsAscii w
ascii_bytes [] h = λ i. omega arith
ascii_bytes (b ∷ bs) h =
    let a = and_parts (is_name_byte b) (list_all is_name_byte bs) h in
    let c = and_parts (nat_le 33 b && nat_le b 126) (not (b == 35)) a.0 in
    let d = and_parts (nat_le 33 b) (nat_le b 126) c.0 in
    let low : b ≤ 126 = leb-true b 126 d.1 in
    by (omega arith) (ascii_bytes bs a.1)
  where
    by : b < 128 → IsAscii bs → (i : ℕ) → get_or (b ∷ bs) i 0 < 128
    by low later zero = low
    by low later (suc i) = later i

pub utf8_from_named : (w : Name) → is_name w ≡ true → IsUtf8 w
utf8_from_named w h = IsUtf8-from_ascii w (ascii_bytes w (and_parts (nat_le 1 (length w) && nat_le (length w) MAX_NAME_BYTES) (list_all is_name_byte w) h).1)

pub ok_from_cases : {A E : Type 0} {U : Type 0} (P : A → Type 0) (Q : E → Type 0) (r : Result A E) → MatchResult r P (λ e. ¬ U × Q e) → U → is_ok r ≡ true
ok_from_cases P Q (Ok x) h u = refl
ok_from_cases P Q (Err e) h u = absurd (h.0 u)
